use Rattle.std.proofs.lemmas.Str.Pattern.{contains_text}
use Rattle.ex_prims.specs.Texts.{has_within}
use Rattle.ex_prims.proofs.TextArguments.{two-tested}
use Rattle.ex_prims.proofs.TextTests.{is-within}
use Rattle.ex_prims.proofs.texting.contains.Goals as goal

pub returns : goal.returns
returns c = two-tested c.args.left.now c.args.right.now c.in_ok-whole.whole.now c.in_ok-part.part.now has_within c.contains.result c.in_ok-truth.field-0 c.in_ok-whole.ensures c.in_ok-part.ensures (is-within _ _ _ (contains_text c.contains.result c.in_ok-part.part.now c.in_ok-whole.whole.now c.contains.ensures.cases)) c.in_ok-truth.ensures
