-- Levels, a token at a time.
use Rattle.std.proofs.Common.{◌≡◌, ℕ, zero, suc, ◌+◌, ◌<◌, ◌≤◌, true, false, List, [], ◌∷◌, ◌++◌, length, take, drop, get_or, refl, sym, ap, ◌∙◌, arith, subst, length-append}
use Rattle.std.specs.List.{AllByRecursion}
use Rattle.ex_grammar.specs.declared.token.Token.{Token as CodeToken}
use Rattle.ex_grammar.specs.declared.token.TokenKind.{TokenKind}
use Rattle.ex_grammar.specs.Tokens.{Token, Placed}
use Rattle.ex_grammar.specs.Newlines.{bare}
use Rattle.ex_grammar.specs.Nests as G
use Rattle.ex_grammar.specs.Nests.{Open, levels, around, open_at, nests_from, nothing_open, opened, ended, begun, closed, hole_closed}
use Rattle.ex_grammar.specs.Reading.{NestsWithin, NestsTooDeep}
use Rattle.ex_grammar.specs.Coded.{IsToken, is_integer, is_name, is_called, is_alias, is_key, is_atom, is_word, is_sign, is_text_begins, is_hole_begins, is_hole_ends, is_text_ends, is_separator, IsPlaced, ArePlaced}
use Rattle.ex_parser.specs.declared.nesting.Opener.{Opener}
use Rattle.ex_parser.specs.Levels.{opener_of, IsOuter, IsOpen, left, in_bracket}

-- what a token of the code stands for
pub token_same : {k : TokenKind} {t u : Token} → IsToken k t → IsToken k u → t ≡ u
token_same (is_integer lt) (is_integer lt') = refl
token_same is_name is_name = refl
token_same is_called is_called = refl
token_same is_alias is_alias = refl
token_same is_key is_key = refl
token_same is_atom is_atom = refl
token_same is_word is_word = refl
token_same is_sign is_sign = refl
token_same is_text_begins is_text_begins = refl
token_same is_hole_begins is_hole_begins = refl
token_same is_hole_ends is_hole_ends = refl
token_same is_text_ends is_text_ends = refl
token_same is_separator is_separator = refl

abbrev Small : List ℕ → Type 0
Small ns = AllByRecursion (λ n. n ≤ 256) ns

-- what is open after these tokens
abbrev pub run : Open → List Token → Open
run before [] = before
run before (t ∷ ts) = run (open_at before t) ts

run_and : (before : Open) (ts : List Token) (t : Token) → run before (ts ++ t ∷ []) ≡ open_at (run before ts) t
run_and before [] t = refl
run_and before (u ∷ ts) t = run_and (open_at before u) ts t

small_and : (before : Open) (ts : List Token) (t : Token) → Small (nests_from before ts) → levels (open_at (run before ts) t) ≤ 256 → Small (nests_from before (ts ++ t ∷ []))
small_and before [] t s le = (le, tt)
small_and before (u ∷ ts) t s le = (s.0, small_and (open_at before u) ts t s.1 le)

small_last : (before : Open) (ts : List Token) (t : Token) → Small (nests_from before (ts ++ t ∷ [])) → levels (open_at (run before ts) t) ≤ 256
small_last before [] t s = s.0
small_last before (u ∷ ts) t s = small_last (open_at before u) ts t s.1

bare_and : (ts : List Placed) (t : Placed) → bare (ts ++ t ∷ []) ≡ bare ts ++ t.token ∷ []
bare_and [] t = refl
bare_and (u ∷ ts) t = ap (λ v. u.token ∷ v) (bare_and ts t)

-- the token at a place
pub record At (xs : List CodeToken) (ts : List Placed) (i : ℕ) (x : CodeToken) : Type 0 where
  pub token : Placed
  pub is : IsPlaced x token
  pub split : ts ≡ take i ts ++ token ∷ drop (i + 1) ts
  pub more : take (i + 1) ts ≡ take i ts ++ token ∷ []

pub placed_at : (xs : List CodeToken) (ts : List Placed) → ArePlaced xs ts → (i : ℕ) (d : CodeToken) → i < length xs → At xs ts i (get_or xs i d)
placed_at [] [] h i d lt = absurd (omega arith)
placed_at [] (t ∷ ts) h i d lt = absurd h
placed_at (x ∷ xs) [] h i d lt = absurd h
placed_at (x ∷ xs) (t ∷ ts) h zero d lt = record { token = t; is = h.0; split = refl; more = refl }
placed_at (x ∷ xs) (t ∷ ts) h (suc i) d lt =
    let r = placed_at xs ts h.1 i d (omega arith) in
    let e : suc i + 1 ≡ suc (i + 1) = omega arith in
    record { token = r.token; is = r.is; split = rw e (ap (λ v. t ∷ v) r.split); more = rw e (ap (λ v. t ∷ v) r.more) }

pub placed_length : (xs : List CodeToken) (ts : List Placed) → ArePlaced xs ts → length xs ≡ length ts
placed_length [] [] h = refl
placed_length [] (t ∷ ts) h = absurd h
placed_length (x ∷ xs) [] h = absurd h
placed_length (x ∷ xs) (t ∷ ts) h = omega (arith, placed_length xs ts h.1)

take_whole : (ts : List Placed) (i : ℕ) → length ts ≤ i → take i ts ≡ ts
take_whole [] zero h = refl
take_whole [] (suc i) h = refl
take_whole (t ∷ ts) zero h = absurd (omega arith)
take_whole (t ∷ ts) (suc i) h = ap (λ v. t ∷ v) (take_whole ts i (omega arith))

-- the loop: the tokens before a place nest within the levels, and this is open after them
pub record Nested (xs : List CodeToken) (i count inner : ℕ) (outer : List (Opener × ℕ)) : Type 0 where
  pub before : Open
  pub is_open : IsOpen count inner outer before
  pub small : count ≤ 256
  pub within : (ts : List Placed) → ArePlaced xs ts → NestsWithin (bare (take i ts))
  pub ran : (ts : List Placed) → ArePlaced xs ts → run nothing_open (bare (take i ts)) ≡ before

pub nested_start : (xs : List CodeToken) (outer : List (Opener × ℕ)) → outer ≡ [] → Nested xs 0 0 0 outer
nested_start xs outer e = record {
  before = nothing_open;
  is_open = record { in_all = refl; innermost = refl; around = e };
  small = omega arith;
  within = λ ts h. tt;
  ran = λ ts h. refl;
}

module _ (xs : List CodeToken) (i count inner count' inner' : ℕ) (outer outer' : List (Opener × ℕ)) (d : CodeToken) (n : Nested xs i count inner outer) (lt : i < length xs)
    (o : (t : Token) → IsToken (get_or xs i d).kind t → IsOpen count' inner' outer' (open_at n.before t)) where
  levels_then : (ts : List Placed) → ArePlaced xs ts → (a : At xs ts i (get_or xs i d)) → count' ≡ levels (open_at (run nothing_open (bare (take i ts))) a.token.token)
  levels_then ts h a = (o a.token.token a.is.0).in_all ∙ ap (λ b. levels (open_at b a.token.token)) (sym (n.ran ts h))

  pub nested_turn : (ts0 : List Placed) → ArePlaced xs ts0 → count' ≤ 256 → Nested xs (i + 1) count' inner' outer'
  nested_turn ts0 h0 small =
      let a0 = placed_at xs ts0 h0 i d lt in
      record {
        before = open_at n.before a0.token.token;
        is_open = o a0.token.token a0.is.0;
        small = small;
        within = λ ts h.
            let a = placed_at xs ts h i d lt in
            let le : levels (open_at (run nothing_open (bare (take i ts))) a.token.token) ≤ 256 = subst (λ k. k ≤ 256) (levels_then ts h a) small in
            rw (a.more, bare_and (take i ts) a.token) (small_and nothing_open (bare (take i ts)) a.token.token (n.within ts h) le);
        ran = λ ts h.
            let a = placed_at xs ts h i d lt in
            ap (λ v. run nothing_open (bare v)) a.more ∙ (ap (run nothing_open) (bare_and (take i ts) a.token) ∙ (run_and nothing_open (bare (take i ts)) a.token.token
            ∙ (ap (λ b. open_at b a.token.token) (n.ran ts h) ∙ ap (open_at n.before) (token_same a.is.0 a0.is.0))));
      }

  pub nested_over : (ts : List Placed) → ArePlaced xs ts → 256 < count' → NestsTooDeep ts (get_or xs i d).from
  nested_over ts h over =
      let a = placed_at xs ts h i d lt in
      record {
        before = take i ts;
        first = a.token;
        after = drop (i + 1) ts;
        tokens_are = a.split;
        within = n.within ts h;
        opens = λ s.
            let le = small_last nothing_open (bare (take i ts)) a.token.token (subst (λ v. Small (nests_from nothing_open v)) (bare_and (take i ts) a.token) s) in
            omega (arith, levels_then ts h a);
        is_at = a.is.1;
      }

pub nested_end : (xs : List CodeToken) (i count inner : ℕ) (outer : List (Opener × ℕ)) → Nested xs i count inner outer → length xs ≤ i → (ts : List Placed) → ArePlaced xs ts → NestsWithin (bare ts)
nested_end xs i count inner outer n le ts h = subst (λ v. NestsWithin (bare v)) (take_whole ts i (omega (arith, placed_length xs ts h))) (n.within ts h)

-- what each call does to the levels
outer_and : (outer : List (Opener × ℕ)) (os : List (G.Opener × ℕ)) (p : Opener) (n : ℕ) → IsOuter outer os → IsOuter (outer ++ (p, n) ∷ []) ((opener_of p, n) ∷ os)
outer_and outer os p n h = (outer, p, refl, refl, h)

pub is_opened : (count inner count' inner' : ℕ) (outer outer' : List (Opener × ℕ)) (p : Opener) (before : Open) → count' ≡ count + 1 → inner' ≡ 0 → outer' ≡ outer ++ (p, inner) ∷ [] → IsOpen count inner outer before → IsOpen count' inner' outer' (opened (opener_of p) before)
is_opened count inner count' inner' outer outer' p before c i o h = record {
  in_all = omega (arith, h.in_all);
  innermost = i;
  around = rw (o, h.innermost) (outer_and outer before.outer p before.inner h.around);
}

pub is_ended : (count inner count' inner' : ℕ) (outer outer' : List (Opener × ℕ)) (before : Open) → count' + inner ≡ count → inner' ≡ 0 → outer' ≡ outer → IsOpen count inner outer before → IsOpen count' inner' outer' (ended before)
is_ended count inner count' inner' outer outer' before c i o h = record { in_all = omega (arith, h.in_all, h.innermost); innermost = i; around = rw o h.around }

pub is_begun : (count inner count' inner' : ℕ) (outer outer' : List (Opener × ℕ)) (before : Open) → count' ≡ count + 1 → inner' ≡ inner + 1 → outer' ≡ outer → IsOpen count inner outer before → IsOpen count' inner' outer' (begun before)
is_begun count inner count' inner' outer outer' before c i o h = record { in_all = omega (arith, h.in_all); innermost = omega (arith, h.innermost); around = rw o h.around }

pub closed_bracket : (os : List (G.Opener × ℕ)) → in_bracket os ≡ true → left os ≡ closed os
closed_bracket [] h = absurd (cc)
closed_bracket ((G.Bracket, n) ∷ os) h = refl
closed_bracket ((G.Hole, n) ∷ os) h = absurd (cc)

pub closed_none : (inner : ℕ) (os : List (G.Opener × ℕ)) → in_bracket os ≡ false → ended (record { inner = inner; outer = os }) ≡ closed os
closed_none inner [] h = refl
closed_none inner ((G.Bracket, n) ∷ os) h = absurd (cc)
closed_none inner ((G.Hole, n) ∷ os) h = refl

pub hole_goes_on : (os : List (G.Opener × ℕ)) → in_bracket os ≡ true → hole_closed (left os).outer ≡ hole_closed os
hole_goes_on [] h = absurd (cc)
hole_goes_on ((G.Bracket, n) ∷ os) h = refl
hole_goes_on ((G.Hole, n) ∷ os) h = absurd (cc)

pub hole_ends : (os : List (G.Opener × ℕ)) → in_bracket os ≡ false → left os ≡ hole_closed os
hole_ends [] h = refl
hole_ends ((G.Bracket, n) ∷ os) h = absurd (cc)
hole_ends ((G.Hole, n) ∷ os) h = refl

-- leaving takes a level
pub outer_length : (ns : List (Opener × ℕ)) (os : List (G.Opener × ℕ)) → IsOuter ns os → length ns ≡ length os
outer_length ns [] h = ap length h
outer_length ns (o ∷ os) h = omega (arith, ap length h.2, length-append h.0 ((h.1, o.1) ∷ []), outer_length h.0 os h.4)

pub left_shorter : (os : List (G.Opener × ℕ)) → in_bracket os ≡ true → length (left os).outer < length os
left_shorter [] h = absurd (cc)
left_shorter (o ∷ os) h = omega arith

-- the loop that ends a `#{`
pub record Closing (count0 inner0 count inner : ℕ) (outer0 outer : List (Opener × ℕ)) (before : Open) : Type 0 where
  pub now : Open
  pub is_open : IsOpen count inner outer now
  pub none : now.inner ≡ 0
  pub same : hole_closed now.outer ≡ hole_closed before.outer
