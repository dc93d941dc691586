-- Texts in a row have at least as many bytes as what stands between them.
use Rattle.std.proofs.Common.{◌≡◌, ℕ, suc, ◌+◌, ◌-◌, ◌*◌, ◌/◌, ◌≤◌, ◌<◌, not, if◌then◌else◌, Some, None, Option, List, [], ◌∷◌, ◌++◌, length, length-append, refl, sym, ap, ◌∙◌, subst, arith, Result, Ok, Err}
use Rattle.std.specs.List.{find}
use Rattle.std.specs.Prelude.{is_some}
use Rattle.std.proofs.Math.Nat.{suc-mul}
use Rattle.ex_terms.specs.declared.values.Value.{Value}
use Rattle.ex_terms.specs.declared.values.Value.TheVariants.{Str}
use Rattle.ex_terms.specs.Terms.{AText}
use Rattle.ex_terms.specs.Seen.{term_of}
use Rattle.ex_terms.specs.Printed.{displayed}
use Rattle.ex_terms.specs.Sizes.{capped, size_of}
use Rattle.ex_prims.specs.declared.limits.Limits.{Limits}
use Rattle.ex_prims.specs.declared.refused.Refused.{Refused}
use Rattle.ex_prims.specs.declared.refused.Refused.TheVariants as R
use Rattle.ex_prims.specs.Answers.{Answer, Gives}
use Rattle.ex_prims.specs.Texts.{AllHave, HasNone, one_more, text_before, texts_of, with_between, joined}
use Rattle.ex_prims.specs.Bodies.{Covers, IsAnswer, IsWithin, has_no_text}

-- values that all have a text: as many texts
pub record HaveTexts (vs : List Value) : Type 0 where
  pub texts : List (List ℕ)
  pub are : texts_of vs ≡ AllHave texts
  pub number : length texts ≡ length vs

abbrev find_by : Value → List Value → Option (List ℕ) → Option Value
find_by v vs o = if not (is_some o) then Some v else find has_no_text vs

have_by : (v : Value) (vs : List Value) (o : Option (List ℕ)) → displayed (term_of v) ≡ o → find_by v vs o ≡ None → (find has_no_text vs ≡ None → HaveTexts vs) → HaveTexts (v ∷ vs)
have_by v vs (Some t) e none rest =
    let h : HaveTexts vs = rest none in
    record { texts = t ∷ h.texts; are = ap (λ o. text_before v o (texts_of vs)) e ∙ ap (one_more t) h.are; number = ap suc h.number }
have_by v vs None e none rest = absurd (cc none)

-- where no value without a text is found
pub have_texts : (vs : List Value) → find has_no_text vs ≡ None → HaveTexts vs
have_texts [] none = record { texts = []; are = refl; number = refl }
have_texts (v ∷ vs) none = have_by v vs (displayed (term_of v)) refl none (have_texts vs)

abbrev or_value : Value → Option Value → Value
or_value v None = v
or_value v (Some w) = w

some_same : (v w : Value) → Some v ≡ Some w → v ≡ w
some_same v w e = ap (or_value v) e

lacks_by : (v w : Value) (vs : List Value) (o : Option (List ℕ)) → displayed (term_of v) ≡ o → find_by v vs o ≡ Some w → (find has_no_text vs ≡ Some w → texts_of vs ≡ HasNone w) → texts_of (v ∷ vs) ≡ HasNone w
lacks_by v w vs (Some t) e found rest = ap (λ o. text_before v o (texts_of vs)) e ∙ ap (one_more t) (rest found)
lacks_by v w vs None e found rest = ap (λ o. text_before v o (texts_of vs)) e ∙ ap HasNone (some_same v w found)

-- where one is found
pub lacks_text : (vs : List Value) (w : Value) → find has_no_text vs ≡ Some w → texts_of vs ≡ HasNone w
lacks_text [] w found = absurd (cc found)
lacks_text (v ∷ vs) w found = lacks_by v w vs (displayed (term_of v)) refl found (lacks_text vs w)

-- what stands between texts
pub between-most : (s : List ℕ) (ts : List (List ℕ)) → (length ts - 1) * length s ≤ length (with_between s ts)
between-most s [] = omega arith
between-most s (t ∷ []) = omega arith
between-most s (t ∷ u ∷ us) =
    let rest : (length (u ∷ us) - 1) * length s ≤ length (with_between s (u ∷ us)) = between-most s (u ∷ us) in
    let here : length (t ∷ u ∷ us) - 1 ≡ suc (length us) = omega arith in
    let there : length (u ∷ us) - 1 ≡ length us = omega arith in
    omega (arith, rest, ap (λ k. k * length s) here, ap (λ k. k * length s) there, length-append t (s ++ with_between s (u ∷ us)), length-append s (with_between s (u ∷ us)), suc-mul (length us) (length s))

-- where what stands between them is too dear, so are they
gaps-dear : (size gaps operands left : ℕ) (s : List ℕ) (ts : List (List ℕ)) → size ≡ capped (1 + gaps * length s / 16) → gaps ≡ length ts - 1 → left < operands + size → left < operands + size_of (AText (with_between s ts))
gaps-dear size gaps operands left s ts told number dear =
    let most : gaps * length s ≤ length (with_between s ts) = subst (λ k. k * length s ≤ length (with_between s ts)) (sym number) (between-most s ts) in
    omega (arith, told, dear, most)

unpaid-texts : (l : Limits) (size gaps : ℕ) (s : List ℕ) (ts : List (List ℕ)) (e : Refused) → size ≡ capped (1 + gaps * length s / 16) → gaps ≡ length ts - 1 → Covers l size (Err e) → IsWithin l (Err e) (Gives (Str (with_between s ts)))
unpaid-texts l size gaps s ts R.TooManySteps told number h = (Str (with_between s ts), refl, gaps-dear size gaps l.operands l.left s ts told number h)
unpaid-texts l size gaps s ts R.Wrong told number h = absurd h
unpaid-texts l size gaps s ts (R.Faulted f) told number h = absurd h
unpaid-texts l size gaps s ts R.TooMuchOutput told number h = absurd h
unpaid-texts l size gaps s ts R.OutOfMemory told number h = absurd h

-- what a row of texts owes where the gaps aren't paid
pub unpaid-gaps : (l : Limits) (size gaps : ℕ) (s : List ℕ) (vs : List Value) (e : Refused) → size ≡ capped (1 + gaps * length s / 16) → gaps ≡ length vs - 1 → find has_no_text vs ≡ None → Covers l size (Err e) → IsWithin l (Err e) (joined s (texts_of vs))
unpaid-gaps l size gaps s vs e told number none h =
    let have : HaveTexts vs = have_texts vs none in
    subst (IsWithin l (Err e)) (sym (ap (joined s) have.are)) (unpaid-texts l size gaps s have.texts e told (number ∙ ap (λ k. k - 1) (sym have.number)) h)

-- what a row says is within all limits
pub answer-within : (l : Limits) (r : Result Value Refused) (a : Answer) → IsAnswer r a → IsWithin l r a
answer-within l (Ok v) a e = e
answer-within l (Err R.Wrong) a e = e
answer-within l (Err (R.Faulted f)) a e = e
answer-within l (Err R.TooManySteps) a e = absurd e
answer-within l (Err R.TooMuchOutput) a e = absurd e
answer-within l (Err R.OutOfMemory) a e = e
