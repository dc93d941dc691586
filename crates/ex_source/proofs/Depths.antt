-- Levels, a token at a time.
use Rattle.std.proofs.Common.{◌≡◌, ℕ, zero, suc, ◌+◌, ◌<◌, ◌≤◌, List, [], ◌∷◌, length, drop, get_or, refl, sym, ap, arith, subst}
use Rattle.std.proofs.Math.ListN.{drop_of_length-le}
use Rattle.std.specs.List.{AllByRecursion}
use Rattle.ex_model.specs.Tokens.{Token}
use Rattle.ex_model.specs.Nests.{Open, levels, open_at, nests_from}
use Rattle.ex_model.specs.Reads.{NestsWithin}
use Rattle.ex_source.specs.declared.lexeme.Lexeme.{Lexeme}
use Rattle.ex_source.specs.Lexemes.{IsLexeme, is_integer, is_name, is_mark, is_separator, AreLexemes}
use Rattle.ex_source.specs.Levels.{IsOpen, shape}

-- the token at a place, and those after it
pub record At (xs : List Lexeme) (all : List Token) (i : ℕ) (x : Lexeme) : Type 0 where
  pub token : Token
  pub is : IsLexeme x token
  pub rest : drop i all ≡ token ∷ drop (i + 1) all

pub lexeme_at : (xs : List Lexeme) (all : List Token) → AreLexemes xs all → (i : ℕ) (d : Lexeme) → i < length xs → At xs all i (get_or xs i d)
lexeme_at [] [] h i d lt = absurd (omega arith)
lexeme_at [] (t ∷ ts) h i d lt = absurd h
lexeme_at (x ∷ xs) [] h i d lt = absurd h
lexeme_at (x ∷ xs) (t ∷ ts) h zero d lt = record { token = t; is = h.0; rest = refl }
lexeme_at (x ∷ xs) (t ∷ ts) h (suc i) d lt =
    let r = lexeme_at xs ts h.1 i d (omega arith) in
    let e : suc i + 1 ≡ suc (i + 1) = omega arith in
    record { token = r.token; is = r.is; rest = rw e r.rest }

pub same_length : (xs : List Lexeme) (all : List Token) → AreLexemes xs all → length xs ≡ length all
same_length [] [] h = refl
same_length [] (t ∷ ts) h = absurd h
same_length (x ∷ xs) [] h = absurd h
same_length (x ∷ xs) (t ∷ ts) h = omega (arith, same_length xs ts h.1)

shape_same : {x : Lexeme} {t : Token} → IsLexeme x t → (before : Open) → open_at before (shape x) ≡ open_at before t
shape_same (is_integer lt) before = refl
shape_same is_name before = refl
shape_same is_mark before = refl
shape_same is_separator before = refl

abbrev Small : List ℕ → Type 0
Small ns = AllByRecursion (λ n. n ≤ 256) ns

-- the loop: what is left to see of the levels
pub record Nested (xs : List Lexeme) (i count inner : ℕ) (outer : List ℕ) : Type 0 where
  pub before : Open
  pub is_open : IsOpen count inner outer before
  pub small : count ≤ 256
  pub forth : (ts : List Token) → AreLexemes xs ts → NestsWithin ts → Small (nests_from before (drop i ts))
  pub back : (ts : List Token) → AreLexemes xs ts → Small (nests_from before (drop i ts)) → NestsWithin ts

pub nested_start : (xs : List Lexeme) (outer : List ℕ) → outer ≡ [] → Nested xs 0 0 0 outer
nested_start xs outer e = record {
  before = record { inner = 0; outer = [] };
  is_open = record { in_all = refl; innermost = refl; around = e };
  small = omega arith;
  forth = λ ts h n. n;
  back = λ ts h n. n;
}

pub nested_turn : (xs : List Lexeme) (i count inner count' inner' : ℕ) (outer outer' : List ℕ) (d : Lexeme) (n : Nested xs i count inner outer) → i < length xs
    → IsOpen count' inner' outer' (open_at n.before (shape (get_or xs i d))) → count' ≤ 256 → Nested xs (i + 1) count' inner' outer'
nested_turn xs i count inner count' inner' outer outer' d n lt o small = record {
  before = open_at n.before (shape (get_or xs i d));
  is_open = o;
  small = small;
  forth = λ ts h s. let a = lexeme_at xs ts h i d lt in subst (λ v. Small (nests_from v (drop (i + 1) ts))) (sym (shape_same a.is n.before)) (rw a.rest at (n.forth ts h s)).1;
  back = λ ts h s.
      let a = lexeme_at xs ts h i d lt in
      let e = shape_same a.is n.before in
      let le : levels (open_at n.before a.token) ≤ 256 = subst (λ v. levels v ≤ 256) e (subst (λ k. k ≤ 256) o.in_all small) in
      let s' : Small (nests_from (open_at n.before a.token) (drop (i + 1) ts)) = subst (λ v. Small (nests_from v (drop (i + 1) ts))) e s in
      n.back ts h (subst (λ v. Small (nests_from n.before v)) (sym a.rest) (le, s'));
}

pub nested_over : (xs : List Lexeme) (i count inner count' inner' : ℕ) (outer outer' : List ℕ) (d : Lexeme) (n : Nested xs i count inner outer) → i < length xs
    → IsOpen count' inner' outer' (open_at n.before (shape (get_or xs i d))) → 256 < count' → (ts : List Token) → AreLexemes xs ts → NestsWithin ts → ⊥
nested_over xs i count inner count' inner' outer outer' d n lt o over ts h s =
    let a = lexeme_at xs ts h i d lt in
    let le = (rw a.rest at (n.forth ts h s)).0 in
    let e : levels (open_at n.before (shape (get_or xs i d))) ≡ levels (open_at n.before a.token) = ap levels (shape_same a.is n.before) in
    omega (arith, o.in_all, e, le)

pub nested_end : (xs : List Lexeme) (i count inner : ℕ) (outer : List ℕ) → Nested xs i count inner outer → length xs ≤ i → (ts : List Token) → AreLexemes xs ts → NestsWithin ts
nested_end xs i count inner outer n le ts h = n.back ts h (subst (λ v. Small (nests_from n.before v)) (sym (drop_of_length-le ts {i = i} (omega (arith, same_length xs ts h)))) tt)
