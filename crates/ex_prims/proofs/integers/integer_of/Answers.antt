use Rattle.std.proofs.Common.{◌≡◌, true, is_some, sym, ◌∙◌, ap}
use Rattle.std.specs.Str.Parse.{without_leading_sign}
use Rattle.ex_prims.specs.Integers.{number_in}
use Rattle.ex_prims.proofs.IntegerTexts.{is-read, does-not-fit}
use Rattle.ex_prims.proofs.integers.integer_of.Goals as goal

pub returns-in-Ok : goal.returns-in-Ok
returns-in-Ok c = is-read c.args.text.now c.in-Ok.number c.in-Ok.ensures.value.0.0.0 c.in-Ok.ensures.value.0.0.1 c.in-Ok.ensures.value.0.1

pub returns-then-are_digits : goal.returns-then-are_digits
returns-then-are_digits c =
    let same : c.behind_sign.result.now ≡ without_leading_sign c.args.text.now = c.behind_sign.ensures ∙ ap without_leading_sign c.as_bytes.ensures.value in
    let digits : is_some (number_in (without_leading_sign c.args.text.now)) ≡ true = ap (λ ds. is_some (number_in ds)) (sym same) ∙ (sym c.are_digits.ensures ∙ c.if-are_digits.true) in
    does-not-fit c.args.text.now c.in-Err.ensures.value.0 digits
