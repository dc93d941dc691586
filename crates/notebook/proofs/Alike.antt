-- Sections that differ in names and cells alone.
use Rattle.std.proofs.Common.{◌≡◌, ℕ, ◌<◌, true, false, List, [], ◌∷◌, ◌++◌, Option, Some, None, length, get_or, map, refl, sym, ap, ◌∙◌, arith, subst, suc, zero}
use Rattle.std.specs.Prelude.{◌==◌, if◌then◌else◌}
use Rattle.notebook.specs.declared.parts.Section.{Section}
use Rattle.notebook.specs.Rules.{section_number, IsParentAmong, ParentsStand}
use Rattle.notebook.specs.Change.{with_section, cut_cell}

-- the same number and parent
pub record IsAlike (s t : Section) : Type 0 where
  pub number : s.id ≡ t.id
  pub parent : s.parent ≡ t.parent

-- one by one
abbrev pub Alike : List Section → List Section → Type 0
Alike [] [] = Unit {0}
Alike [] (t ∷ ts) = ⊥
Alike (s ∷ ss) [] = ⊥
Alike (s ∷ ss) (t ∷ ts) = IsAlike s t × Alike ss ts

pub alike-itself : (ss : List Section) → Alike ss ss
alike-itself [] = tt
alike-itself (s ∷ ss) = (record { number = refl; parent = refl }, alike-itself ss)

pub alike-with : (section : ℕ) (f : Section → Section) (ss : List Section) → ((s : Section) → IsAlike (f s) s) → Alike (with_section section f ss) ss
alike-with section f [] keep = tt
alike-with section f (s ∷ ss) keep =
    (elim (s.id == section) as (λ b. IsAlike (if b then f s else s) s) [ true ↦ keep s | false ↦ record { number = refl; parent = refl } ], alike-with section f ss keep)

pub alike-cut : (id : ℕ) (ss : List Section) → Alike (cut_cell id ss) ss
alike-cut id [] = tt
alike-cut id (s ∷ ss) = (record { number = refl; parent = refl }, alike-cut id ss)

pub alike-join : (ss ts us : List Section) → Alike ss ts → Alike ts us → Alike ss us
alike-join [] [] us h k = k
alike-join [] (t ∷ ts) us h k = absurd h
alike-join (s ∷ ss) [] us h k = absurd h
alike-join (s ∷ ss) (t ∷ ts) [] h k = absurd k
alike-join (s ∷ ss) (t ∷ ts) (u ∷ us) h k = (record { number = h.0.number ∙ k.0.number; parent = h.0.parent ∙ k.0.parent }, alike-join ss ts us h.1 k.1)

pub alike-numbers : (ss ts : List Section) → Alike ss ts → map section_number ss ≡ map section_number ts
alike-numbers [] [] h = refl
alike-numbers [] (t ∷ ts) h = absurd h
alike-numbers (s ∷ ss) [] h = absurd h
alike-numbers (s ∷ ss) (t ∷ ts) h = ap (λ n. n ∷ map section_number ss) h.0.number ∙ ap (λ ns. t.id ∷ ns) (alike-numbers ss ts h.1)

pub alike-length : (ss ts : List Section) → Alike ss ts → length ss ≡ length ts
alike-length [] [] h = refl
alike-length [] (t ∷ ts) h = absurd h
alike-length (s ∷ ss) [] h = absurd h
alike-length (s ∷ ss) (t ∷ ts) h = ap (λ n. suc n) (alike-length ss ts h.1)

-- the section at a place
alike-at : (ss ts : List Section) (t : Section) (i k : ℕ) → Alike ss ts → i < length ts → get_or ts i t ≡ t → t.id ≡ k → t.parent ≡ None → IsParentAmong ss (Some k)
alike-at [] [] t i k h within at same main = absurd (let no : i < 0 = within in omega (arith, no))
alike-at [] (u ∷ ts) t i k h within at same main = absurd h
alike-at (s ∷ ss) [] t i k h within at same main = absurd h
alike-at (s ∷ ss) (u ∷ ts) t zero k h within at same main =
    (s, ((0, omega arith, refl), (h.0.number ∙ (ap (λ (v : Section). v.id) at ∙ same), h.0.parent ∙ (ap (λ (v : Section). v.parent) at ∙ main))))
alike-at (s ∷ ss) (u ∷ ts) t (suc i) k h within at same main =
    let p = alike-at ss ts t i k h.1 (omega (arith, within)) at same main in
    let there = p.1.0 in
    (p.0, ((suc there.0, omega (arith, there.1), there.2), p.1.1))

-- parents
alike-among : (ss ts : List Section) (k : ℕ) → Alike ss ts → IsParentAmong ts (Some k) → IsParentAmong ss (Some k)
alike-among ss ts k h (t, (here, is)) = alike-at ss ts t here.0 k h here.1 here.2 is.0 is.1

alike-some : (before after : List Section) (o : Option ℕ) → Alike after before → IsParentAmong before o → IsParentAmong after o
alike-some before after None h p = tt
alike-some before after (Some k) h p = alike-among after before k h p

alike-parent : (before after : List Section) (o o' : Option ℕ) → Alike after before → o ≡ o' → IsParentAmong before o' → IsParentAmong after o
alike-parent before after o o' h same p = subst (λ (q : Option ℕ). IsParentAmong after q) (sym same) (alike-some before after o' h p)

alike-push : (ss ts : List Section) (s t : Section) → Alike ss ts → IsAlike s t → Alike (ss ++ s ∷ []) (ts ++ t ∷ [])
alike-push [] [] s t h k = (k, tt)
alike-push [] (u ∷ ts) s t h k = absurd h
alike-push (v ∷ ss) [] s t h k = absurd h
alike-push (v ∷ ss) (u ∷ ts) s t h k = (h.0, alike-push ss ts s t h.1 k)

pub alike-stand : (before after ss ts : List Section) → Alike after before → Alike ss ts → ParentsStand before ts → ParentsStand after ss
alike-stand before after [] [] h k p = tt
alike-stand before after [] (t ∷ ts) h k p = absurd k
alike-stand before after (s ∷ ss) [] h k p = absurd k
alike-stand before after (s ∷ ss) (t ∷ ts) h k p =
    (alike-parent before after s.parent t.parent h k.0.parent p.0, alike-stand (before ++ t ∷ []) (after ++ s ∷ []) ss ts (alike-push after before s t h k.0) k.1 p.1)
