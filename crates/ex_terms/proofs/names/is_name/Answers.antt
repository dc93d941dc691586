use Rattle.std.proofs.Common.{◌∷◌, [], ap, sym, ◌∙◌, append_assoc}
use Rattle.std.proofs.lemmas.List.{append-nil}
use Rattle.ex_terms.specs.Printed.{is_name}
use Rattle.ex_terms.proofs.Quotes.{all-given}
use Rattle.ex_terms.proofs.names.is_name.Goals as goal

pub loop-c-preserved : goal.loop-c-preserved
loop-c-preserved c = λ back. c.with-name.ensures back ∙ (c.loop-c.invariant (c.in-Some.c ∷ back) ∙ ap is_name (sym (append_assoc c.loop-c.yielded (c.in-Some.c ∷ []) back)))

pub returns : goal.returns
returns c =
    let all = all-given _ c.args.text.now c.utf8.text (cc) c.loop-c.yielded _ c.loop-c.yielded_by _ _ c.in-None.is c.next.ensures.steps in
    c.is_whole.ensures ∙ (c.loop-c.invariant [] ∙ (ap is_name (append-nil c.loop-c.yielded) ∙ ap is_name all))
