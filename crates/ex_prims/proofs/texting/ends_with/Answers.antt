use Rattle.std.proofs.Common.{nat_eq}
use Rattle.std.specs.List.{ends_with}
use Rattle.std.proofs.lemmas.Str.Pattern.{ends_text}
use Rattle.ex_prims.proofs.TextArguments.{two-tested}
use Rattle.ex_prims.proofs.texting.ends_with.Goals as goal

pub returns : goal.returns
returns c = two-tested c.args.left.now c.args.right.now c.in_ok-whole.whole.now c.in_ok-part.part.now (ends_with nat_eq) c.ends_with.result c.in_ok-truth.field-0 c.in_ok-whole.ensures c.in_ok-part.ensures (ends_text c.ends_with.result c.in_ok-part.part.now c.in_ok-whole.whole.now c.ends_with.ensures.cases) c.in_ok-truth.ensures
