-- Calls of two texts, and their tests.
use Rattle.std.proofs.Common.{◌≡◌, ap, sym, ◌∙◌, Bool, List, ℕ}
use Rattle.ex_terms.specs.declared.values.Value.{Value}
use Rattle.ex_prims.specs.Answers.{Answer, Gives, of_text, of_texts, truth, whether}

pub two-texts : (v w : Value) (s t : List ℕ) (go : List ℕ → List ℕ → Answer) → ((f : List ℕ → Answer) → of_text v f ≡ f s) → ((f : List ℕ → Answer) → of_text w f ≡ f t) → of_texts v w go ≡ go s t
two-texts v w s t go e f = e (λ a. of_text w (λ b. go a b)) ∙ f (λ b. go s b)

-- a test of two texts
pub two-tested : (v w : Value) (s t : List ℕ) (test : List ℕ → List ℕ → Bool) (b : Bool) (x : Value) → ((f : List ℕ → Answer) → of_text v f ≡ f s) → ((f : List ℕ → Answer) → of_text w f ≡ f t) → b ≡ test s t → x ≡ truth b → of_texts v w (λ y z. whether (test y z)) ≡ Gives x
two-tested v w s t test b x e f is made = two-texts v w s t (λ y z. whether (test y z)) e f ∙ (ap whether (sym is) ∙ ap Gives (sym made))
