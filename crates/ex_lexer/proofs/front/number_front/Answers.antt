use Rattle.std.proofs.Common.{◌∙◌, sym, ap, subst}
use Rattle.ex_lexer.proofs.FrontCode as X
use mir.Syntax.{w128}
use Rattle.std.proofs.lemmas.Int.{to_z_pos}
use Rattle.std.specs.Str.{IsCharBoundary}
use Rattle.ex_grammar.specs.declared.token.TokenKind.TheVariants as T
use Rattle.ex_lexer.specs.declared.front.Part.TheVariants as P
use Rattle.ex_lexer.specs.declared.front.Front.TheVariants as F
use Rattle.ex_lexer.specs.Parts.{IsFront}
use Rattle.ex_lexer.specs.Front.{digit_by}
use Rattle.ex_lexer.specs.Runs.{digits_at, Counts}
use Rattle.ex_lexer.proofs.front.number_front.Goals.{in_default-via-in-Some+else-n, in_default-via-in_default}
use Rattle.ex_lexer.proofs.front.number_front.Goals as goal

pub range_from-requires : goal.range_from-requires
range_from-requires c = let e = c.read_digits-digits.ensures.len ∙ ap (λ v. (digits_at v).0) c.as_bytes.ensures.value in λ _. subst (IsCharBoundary c.args.rest.now) (sym e) (X.digits_edge c.args.rest.now c.utf8.rest)

pub returns-then-letter_first : goal.returns-then-letter_first
returns-then-letter_first c =
    let e = c.read_digits-digits.ensures.len ∙ ap (λ v. (digits_at v).0) c.as_bytes.ensures.value in
    X.letter_front c.args.rest.now c.range_from.result.now c.read_digits-digits.result.len e c.range_from.ensures.value (sym c.letter_first.ensures ∙ c.if-letter_first.true)

pub returns-in-Some : goal.returns-in-Some
returns-in-Some c =
    let e = c.read_digits-digits.ensures.len ∙ ap (λ v. (digits_at v).0) c.as_bytes.ensures.value in
    let k = subst (λ v. Counts c.read_digits-digits.result.value (digits_at v).1) c.as_bytes.ensures.value c.read_digits-digits.ensures.value in
    let v = X.counted_is c.read_digits-digits.result.value (digits_at c.args.rest.now).1 c.in-Some.n k c.in-Some.is in
    subst (λ z. IsFront (F.Takes (P.Whole (T.Integer z)) c.read_digits-digits.result.len) (digit_by c.args.rest.now)) (sym (to_z_pos w128 c.in-Some.n c.if-n.true))
    (X.integer_front c.args.rest.now c.range_from.result.now c.read_digits-digits.result.len c.in-Some.n e c.range_from.ensures.value (sym c.letter_first.ensures ∙ c.if-letter_first.false) v c.if-n.true)

pub returns-in_default : goal.returns-in_default
returns-in_default c =
    let e = c.read_digits-digits.ensures.len ∙ ap (λ v. (digits_at v).0) c.as_bytes.ensures.value in
    let k = subst (λ v. Counts c.read_digits-digits.result.value (digits_at v).1) c.as_bytes.ensures.value c.read_digits-digits.ensures.value in
    X.wide_front c.args.rest.now c.range_from.result.now c.read_digits-digits.result.len e c.range_from.ensures.value (sym c.letter_first.ensures ∙ c.if-letter_first.false)
    (elim c.in_default.branch [ in_default-via-in-Some+else-n w ↦ X.wide_some _ (digits_at c.args.rest.now).1 w.in-Some.n k w.in-Some.is w.if-n.false | in_default-via-in_default w ↦ X.wide_none _ (digits_at c.args.rest.now).1 k w.in_default.is ])
