use Rattle.ex_prims.specs.Texts.{begins_with}
use Rattle.std.proofs.lemmas.Str.Pattern.{starts_text}
use Rattle.ex_prims.proofs.TextArguments.{two-tested}
use Rattle.ex_prims.proofs.texting.starts_with.Goals as goal

pub returns : goal.returns
returns c = two-tested c.args.left.now c.args.right.now c.in_ok-whole.whole.now c.in_ok-part.part.now begins_with c.starts_with.result c.in_ok-truth.field-0 c.in_ok-whole.ensures c.in_ok-part.ensures (starts_text c.starts_with.result c.in_ok-part.part.now c.in_ok-whole.whole.now c.starts_with.ensures.cases) c.in_ok-truth.ensures
