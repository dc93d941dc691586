-- Lines cut, cleaned, joined and fed.
use Rattle.std.proofs.Common.{◌≡◌, ℕ, Bool, true, false, ◌||◌, cond, List, [], ◌∷◌, ◌++◌, Option, Some, None, map, refl, sym, ap, ◌∙◌, append_assoc}
use Rattle.std.specs.Prelude.{◌==◌, IfOk, Result, Ok, Err, chars, encode_utf8_all}
use Rattle.std.specs.Borrow.{Bor}
use Rattle.std.specs.List.{flat_map, join_with_byte, onto_first, slice_split}
use Rattle.std.proofs.lemmas.List.{append-nil, map-append}
use Rattle.livemd_lines.specs.declared.fences.Fence.{Fence}
use Rattle.blanks.specs.Blanks.{drop_end, drop_front, is_space}
use Rattle.livemd_lines.specs.Lines.{joined}
use Rattle.livemd_lines.specs.Written.{open_behind}
use Rattle.livemd_format.specs.Tidy.{changed, clean, clean_pieces, closed, closing_lines, spaced, tidy_markdown, tidy_name, unblanked}
use Rattle.livemd_write.specs.Texts.{closing_text, joined_by, space_for, texts}

-- texts joined are the first one and each other behind what stands between
pub joined-cons : (between l : List ℕ) (ls : List (List ℕ)) → joined_by between (l ∷ ls) ≡ l ++ flat_map (λ t. between ++ t) ls
joined-cons between l [] = sym (append-nil l)
joined-cons between l (m ∷ ls) = ap (λ w. l ++ w) (ap (λ w. between ++ w) (joined-cons between m ls) ∙ sym (append_assoc between m (flat_map (λ t. between ++ t) ls)))

-- what stands before the next text
abbrev pub gap : List ℕ → List (List ℕ) → List ℕ
gap between [] = []
gap between (x ∷ xs) = between

-- one text more
pub joined_on : (between : List ℕ) (xs : List (List ℕ)) (x : List ℕ) → joined_by between (xs ++ x ∷ []) ≡ (joined_by between xs ++ gap between xs) ++ x
joined_on between [] x = refl
joined_on between (y ∷ ys) x =
    joined-cons between y (ys ++ x ∷ [])
    ∙ (ap (λ w. y ++ w) (behind between ys x)
    ∙ (sym (append_assoc y (flat_map (λ t. between ++ t) ys) (between ++ x))
    ∙ (ap (λ w. w ++ (between ++ x)) (sym (joined-cons between y ys)) ∙ sym (append_assoc (joined_by between (y ∷ ys)) between x)))) where
      behind : (between : List ℕ) (ys : List (List ℕ)) (x : List ℕ) → flat_map (λ t. between ++ t) (ys ++ x ∷ []) ≡ flat_map (λ t. between ++ t) ys ++ (between ++ x)
      behind between [] x = append-nil (between ++ x)
      behind between (z ∷ zs) x = ap (λ w. (between ++ z) ++ w) (behind between zs x) ∙ sym (append_assoc (between ++ z) (flat_map (λ t. between ++ t) zs) (between ++ x))

pub gap_on : (between : List ℕ) (xs : List (List ℕ)) (x : List ℕ) → between ≡ gap between (xs ++ x ∷ [])
gap_on between [] x = refl
gap_on between (y ∷ ys) x = refl

pub texts-push : (xs : List (Bor (List ℕ))) (x : Bor (List ℕ)) → texts (xs ++ x ∷ []) ≡ texts xs ++ x.now ∷ []
texts-push [] x = refl
texts-push (y ∷ xs) x = ap (λ w. y.now ∷ w) (texts-push xs x)

-- these texts were joined, and this is put before the next
pub record IsJoined (between : List ℕ) (f : List ℕ → List ℕ) (xs : List (Bor (List ℕ))) (out next : List ℕ) : Type 0 where
  pub text : out ≡ joined_by between (map f (texts xs))
  pub gap : next ≡ gap between (map f (texts xs))

pub join_turn : (between : List ℕ) (f : List ℕ → List ℕ) (xs : List (Bor (List ℕ))) (x : Bor (List ℕ)) (out next a b : List ℕ) → IsJoined between f xs out next → a ≡ out ++ next → b ≡ a ++ f x.now → IsJoined between f (xs ++ x ∷ []) b between
join_turn between f xs x out next a b h e g =
    let on : map f (texts (xs ++ x ∷ [])) ≡ map f (texts xs) ++ f x.now ∷ [] = ap (map f) (texts-push xs x) ∙ map-append f (texts xs) (x.now ∷ []) in
    record {
      text = g ∙ (ap (λ w. w ++ f x.now) (e ∙ (ap (λ w. w ++ next) h.text ∙ ap (λ w. joined_by between (map f (texts xs)) ++ w) h.gap)) ∙ (sym (joined_on between (map f (texts xs)) (f x.now)) ∙ ap (joined_by between) (sym on)));
      gap = gap_on between (map f (texts xs)) (f x.now) ∙ ap (gap between) (sym on);
    }

same_texts : (ls : List (List ℕ)) → map (λ l. l) ls ≡ ls
same_texts [] = refl
same_texts (l ∷ ls) = ap (λ w. l ∷ w) (same_texts ls)

-- joining by a byte
pub joined_by-byte : (c : ℕ) (ls : List (List ℕ)) → joined_by (c ∷ []) ls ≡ join_with_byte c ls
joined_by-byte c [] = refl
joined_by-byte c (x ∷ []) = refl
joined_by-byte c (x ∷ y ∷ ls) = ap (λ w. x ++ c ∷ w) (joined_by-byte c (y ∷ ls))

-- ---- spaces for marks

spaced_onto : (m b : ℕ) (ps : List (List ℕ)) → join_with_byte 32 (onto_first b ps) ≡ b ∷ join_with_byte 32 ps
spaced_onto m b [] = refl
spaced_onto m b (p ∷ []) = refl
spaced_onto m b (p ∷ q ∷ ps) = refl

not_none : (p : ℕ → Bool) (t : List ℕ) → (q : List ℕ) × ((qs : List (List ℕ)) × (slice_split p t ≡ q ∷ qs))
not_none p [] = ([], ([], refl))
not_none p (b ∷ t) =
    let r = not_none p t in
    elim (p b)
    as (λ v. (q : List ℕ) × ((qs : List (List ℕ)) × (cond v ([] ∷ slice_split p t) (onto_first b (slice_split p t)) ≡ q ∷ qs)))
    [ true ↦ ([], (slice_split p t, refl)) | false ↦ (b ∷ r.0, (r.1.0, ap (onto_first b) r.1.1)) ]

space_behind : (ps : List (List ℕ)) → (q : List ℕ) × ((qs : List (List ℕ)) × (ps ≡ q ∷ qs)) → join_with_byte 32 ([] ∷ ps) ≡ 32 ∷ join_with_byte 32 ps
space_behind ps (q, (qs, e)) = ap (λ xs. join_with_byte 32 ([] ∷ xs)) e ∙ ap (λ xs. 32 ∷ join_with_byte 32 xs) (sym e)

pub spaced_pieces : (m : ℕ) (t : List ℕ) → join_with_byte 32 (slice_split (λ b. b == m) t) ≡ map (space_for m) t
spaced_pieces m [] = refl
spaced_pieces m (b ∷ t) =
    let r : join_with_byte 32 (slice_split (λ c. c == m) t) ≡ map (space_for m) t = spaced_pieces m t in
    elim (b == m)
    as (λ v. join_with_byte 32 (cond v ([] ∷ slice_split (λ c. c == m) t) (onto_first b (slice_split (λ c. c == m) t))) ≡ cond v 32 b ∷ map (space_for m) t) [
      | true ↦ space_behind (slice_split (λ c. c == m) t) (not_none (λ c. c == m) t) ∙ ap (λ w. 32 ∷ w) r
      | false ↦ spaced_onto m b (slice_split (λ c. c == m) t) ∙ ap (λ w. b ∷ w) r
    ]

two_spaces : (b : ℕ) → space_for 13 (space_for 10 b) ≡ spaced b
two_spaces b =
    elim (b == 10)
    as (λ v. space_for 13 (cond v 32 b) ≡ cond (v || (b == 13)) 32 b)
    [ true ↦ refl | false ↦ refl ]

pub all_spaced : (t : List ℕ) → map (space_for 13) (map (space_for 10) t) ≡ map spaced t
all_spaced [] = refl
all_spaced (b ∷ t) = ap (λ c. c ∷ map (space_for 13) (map (space_for 10) t)) (two_spaces b) ∙ ap (λ w. spaced b ∷ w) (all_spaced t)

-- ---- the tidy form of Markdown text, as the code makes it

-- text with a closing line behind it
closed_text : (ls : List (List ℕ)) (o : Option Fence) → open_behind None ls ≡ o → joined_by (10 ∷ []) ls ++ closing_text o ≡ joined (ls ++ closing_lines o)
closed_text ls None e = append-nil (joined_by (10 ∷ []) ls) ∙ (joined_by-byte 10 ls ∙ ap joined (sym (append-nil ls)))
closed_text [] (Some f) e = let h : None ≡ Some f = e in cc
closed_text (l ∷ ls) (Some f) e = ap (λ w. w ++ closing_text (Some f)) (joined_by-byte 10 (l ∷ ls)) ∙ behind l ls where
  behind : (l : List ℕ) (ls : List (List ℕ)) → joined (l ∷ ls) ++ closing_text (Some f) ≡ joined (l ∷ ls ++ closing_lines (Some f))
  behind l [] = refl
  behind l (m ∷ ls) = append_assoc l (10 ∷ joined (m ∷ ls)) (closing_text (Some f)) ∙ ap (λ w. l ++ 10 ∷ w) (behind m ls)

pub tidy_made : (t out new : List ℕ) (ls : List (List ℕ)) (o : Option Fence) → ls ≡ unblanked (clean_pieces t) → o ≡ open_behind None ls → out ≡ joined_by (10 ∷ []) ls → new ≡ out ++ closing_text o → new ≡ tidy_markdown t
tidy_made t out new ls o e g h k = k ∙ (ap (λ w. w ++ closing_text o) h ∙ (closed_text ls o (sym g) ∙ (ap (λ (p : Option Fence). joined (ls ++ closing_lines p)) g ∙ ap (λ ms. joined (closed ms)) e)))

-- ---- what the calls give, one after the other

pub weaker : {T E : Type 0} (P Q : T → Type 0) (r : Result T E) → ((x : T) → P x → Q x) → IfOk r P → IfOk r Q
weaker P Q (Ok x) f h = f x h
weaker P Q (Err e) f h = tt

pub clean_made : (t : List ℕ) (ls : List (List ℕ)) (new : List ℕ) → ls ≡ clean_pieces t → new ≡ joined_by (10 ∷ []) ls → new ≡ clean t
clean_made t ls new e f = f ∙ (joined_by-byte 10 ls ∙ ap joined e)

pub spaced_made : (m : ℕ) (t : List ℕ) (ls : List (List ℕ)) (new : List ℕ) → ls ≡ slice_split (λ b. b == m) t → new ≡ joined_by (32 ∷ []) (map (λ l. l) ls) → new ≡ map (space_for m) t
spaced_made m t ls new e f = f ∙ (ap (joined_by (32 ∷ [])) (same_texts ls) ∙ (joined_by-byte 32 ls ∙ (ap (join_with_byte 32) e ∙ spaced_pieces m t)))

pub name_made : (t a b c d : List ℕ) → a ≡ clean t → b ≡ map (space_for 10) a → c ≡ map (space_for 13) b → d ≡ drop_end is_space (drop_front is_space c) → d ≡ tidy_name t
name_made t a b c d e f g h =
    h ∙ ap (λ w. drop_end is_space (drop_front is_space w)) (g ∙ (ap (map (space_for 13)) (f ∙ ap (map (space_for 10)) e) ∙ all_spaced (clean t)))

pub text_made : (f : List ℕ → List ℕ) (t b : List ℕ) → b ≡ f (encode_utf8_all t) → (x : List ℕ) → x ≡ chars b → x ≡ changed f t
text_made f t b e x h = h ∙ ap chars e
