use Rattle.std.proofs.Common.{ap, sym, ◌∙◌}
use Rattle.ex_faults.specs.declared.fault.Fault.TheVariants.{NoText}
use Rattle.ex_prims.specs.Answers.{Refuses, of_text}
use Rattle.ex_prims.specs.Texts.{joined, texts_of}
use Rattle.ex_prims.proofs.TextGaps.{lacks_text}
use Rattle.ex_prims.proofs.texting.join.Goals as goal

pub returns-in_ok-copy-in-Some : goal.returns-in_ok-copy-in-Some
returns-in_ok-copy-in-Some c =
    c.in_ok-items.ensures (λ xs. of_text c.args.right.now (λ s. joined s (texts_of xs)))
    ∙ (c.in_ok-between.ensures (λ s. joined s (texts_of c.in_ok-items.items.now))
    ∙ (ap (joined c.in_ok-between.between.now) (lacks_text c.in_ok-items.items.now c.in-Some.item.now (sym c.in-Some.ensures))
    ∙ ap (λ v. Refuses (NoText v)) (sym c.in_ok-copy-in-Some.ensures)))
