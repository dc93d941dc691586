-- Texts put behind each other, one after the other.
use Rattle.std.proofs.Common.{◌≡◌, ℕ, ◌+◌, ◌<◌, ◌≤◌, Bool, true, false, if◌then◌else◌, Some, None, List, [], ◌∷◌, ◌++◌, length, drop, get_or, refl, sym, ap, ◌∙◌, append_assoc}
use Rattle.std.proofs.lemmas.List.{append-nil, drop_more, drop_all}
use Rattle.ex_terms.specs.declared.values.Value.{Value}
use Rattle.ex_terms.specs.declared.values.Value.TheVariants.{Str}
use Rattle.ex_terms.specs.Seen.{term_of}
use Rattle.ex_terms.specs.Printed.{displayed}
use Rattle.ex_faults.specs.declared.fault.Fault.TheVariants.{NoText}
use Rattle.ex_prims.specs.Answers.{Answer, Gives, Refuses}
use Rattle.ex_prims.specs.Texts.{Texts, AllHave, HasNone, one_more, text_before, texts_of, with_between, joined}

-- the texts that are left, with what stands before them
abbrev pub texts_left : Bool → List ℕ → List (List ℕ) → List ℕ
texts_left true s ts = with_between s ts
texts_left false s [] = []
texts_left false s (t ∷ ts) = s ++ with_between s (t ∷ ts)

-- what is put so far and the texts that are left
abbrev pub joined_past : Bool → List ℕ → List ℕ → Texts → Answer
joined_past is_first done s (AllHave ts) = Gives (Str (done ++ texts_left is_first s ts))
joined_past is_first done s (HasNone v) = Refuses (NoText v)

pub nothing-put : (s : List ℕ) (ts : Texts) → joined_past true [] s ts ≡ joined s ts
nothing-put s (AllHave ts) = refl
nothing-put s (HasNone v) = refl

one-text : (is_first : Bool) (done s t : List ℕ) (ts : List (List ℕ)) → done ++ texts_left is_first s (t ∷ ts) ≡ (done ++ ((if is_first then [] else s) ++ t)) ++ texts_left false s ts
one-text true done s t [] = sym (append-nil (done ++ t))
one-text true done s t (u ∷ us) = sym (append_assoc done t (s ++ with_between s (u ∷ us)))
one-text false done s t [] = sym (append-nil (done ++ (s ++ t)))
one-text false done s t (u ∷ us) =
    let rest : List ℕ = s ++ with_between s (u ∷ us) in
    ap (λ l. done ++ l) (sym (append_assoc s t rest)) ∙ sym (append_assoc done (s ++ t) rest)

one-joined : (is_first : Bool) (done s t : List ℕ) (ts : Texts) → joined_past is_first done s (one_more t ts) ≡ joined_past false (done ++ ((if is_first then [] else s) ++ t)) s ts
one-joined is_first done s t (AllHave ts) = ap (λ l. Gives (Str l)) (one-text is_first done s t ts)
one-joined is_first done s t (HasNone v) = refl

texts-at : (xs : List Value) (i : ℕ) (x : Value) → i < length xs → x ≡ get_or xs i x → texts_of (drop i xs) ≡ text_before x (displayed (term_of x)) (texts_of (drop (i + 1) xs))
texts-at xs i x lt e = ap texts_of (drop_more xs i x lt ∙ ap (λ z. z ∷ drop (i + 1) xs) (sym e))

pub joined-more : (xs : List Value) (i : ℕ) (x : Value) (is_first : Bool) (done after s t : List ℕ) (whole : Answer) → i < length xs → x ≡ get_or xs i x → Some t ≡ displayed (term_of x) → after ≡ done ++ ((if is_first then [] else s) ++ t)
    → joined_past is_first done s (texts_of (drop i xs)) ≡ whole → joined_past false after s (texts_of (drop (i + 1) xs)) ≡ whole
joined-more xs i x is_first done after s t whole lt at shown put so_far =
    let rest : Texts = texts_of (drop (i + 1) xs) in
    ap (λ l. joined_past false l s rest) put
    ∙ (sym (one-joined is_first done s t rest)
    ∙ (ap (λ o. joined_past is_first done s (text_before x o rest)) shown
    ∙ (ap (joined_past is_first done s) (sym (texts-at xs i x lt at)) ∙ so_far)))

pub joined-none : (xs : List Value) (i : ℕ) (x : Value) (is_first : Bool) (done s : List ℕ) (whole : Answer) → i < length xs → x ≡ get_or xs i x → None ≡ displayed (term_of x)
    → joined_past is_first done s (texts_of (drop i xs)) ≡ whole → whole ≡ Refuses (NoText x)
joined-none xs i x is_first done s whole lt at shown so_far =
    sym so_far
    ∙ (ap (joined_past is_first done s) (texts-at xs i x lt at)
    ∙ ap (λ o. joined_past is_first done s (text_before x o (texts_of (drop (i + 1) xs)))) (sym shown))

none-left : (is_first : Bool) (done s : List ℕ) → joined_past is_first done s (AllHave []) ≡ Gives (Str done)
none-left true done s = ap (λ l. Gives (Str l)) (append-nil done)
none-left false done s = ap (λ l. Gives (Str l)) (append-nil done)

pub joined-all : (xs : List Value) (i : ℕ) (is_first : Bool) (done s : List ℕ) (whole : Answer) → length xs ≤ i → joined_past is_first done s (texts_of (drop i xs)) ≡ whole → whole ≡ Gives (Str done)
joined-all xs i is_first done s whole le so_far = sym so_far ∙ (ap (λ zs. joined_past is_first done s (texts_of zs)) (drop_all i xs le) ∙ none-left is_first done s)
