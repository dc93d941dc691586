use Rattle.std.proofs.Common.{◌≡◌, [], sym, ap, ◌∙◌, eqb-true}
use Rattle.std.specs.List.{repeat}
use Rattle.std.proofs.lemmas.List.{nil_from_length}
use Rattle.std.proofs.lemmas.Result.{IfOk-weaker}
use Rattle.ex_prims.proofs.TextCopies.{none-copied}
use Rattle.ex_prims.proofs.texting.copies.Goals as goal

pub returns-then-is_empty : goal.returns-then-is_empty
returns-then-is_empty c =
    let empty : c.args.text.now ≡ [] = nil_from_length c.args.text.now (eqb-true _ 0 (sym c.is_empty.ensures ∙ c.if-is_empty.true)) in
    IfOk-weaker c.of.result _ _ (λ w is. is ∙ sym (ap (repeat c.args.times) empty ∙ none-copied c.args.times)) c.of.ensures
