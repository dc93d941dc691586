-- What is read derives, at the end of what was begun.
use Rattle.std.proofs.Common.{◌≡◌, ℕ, ◌<◌, ◌≤◌, Bool, true, false, List, [], ◌∷◌, ◌++◌, Option, Some, None, refl, sym, ap, ◌∙◌, arith, subst, append_assoc}
use Rattle.std.proofs.lemmas.List.{append-nil}
use Rattle.ex_grammar.specs.declared.token.Sign.TheVariants as S
use Rattle.ex_grammar.specs.declared.token.Keyword.TheVariants as K
use Rattle.ex_grammar.specs.declared.operators.Operator.{Operator}
use Rattle.ex_grammar.specs.declared.operators.Infix.{Infix}
use Rattle.ex_grammar.specs.declared.operators.Infix.TheVariants as I
use Rattle.ex_grammar.specs.declared.operators.Prefix.{Prefix}
use Rattle.ex_grammar.specs.declared.operators.Prefix.TheVariants.{Negate, Keep, Not, StrictNot}
use Rattle.ex_grammar.specs.Tokens as T
use Rattle.ex_grammar.specs.Tokens.{Token, Mark, Word, Key, Called, Alias, TextBegins, HoleBegins, HoleEnds, TextEnds, Separator}
use Rattle.ex_grammar.specs.Operators.{level, left, right, infix_token, prefix_token, primary_level, unary_level, match_level}
use Rattle.ex_grammar.specs.Patterns as P
use Rattle.ex_grammar.specs.Patterns.{Pattern, Patterns, NoPattern, IsPattern, ArePatterns}
use Rattle.ex_grammar.specs.Trees as E
use Rattle.ex_grammar.specs.Trees.{Tree, Trees, NoTree, OneMore, Holes, NoHole, Clauses, NoClause, Choices, NoChoice, Parts, NoPart, Generator, Filter, joined}
use Rattle.ex_grammar.specs.Grammar as D
use Rattle.ex_grammar.specs.Grammar.{End, Closed, Open, OpenIf, reaching, Derives, DerivesCall, DeriveItems, DeriveKeys, DeriveEntries, DeriveAll, DerivesBody, MaySeparate, without, with, do_key, else_key, is_block_key, is_underscore, is_negation, may_precede, else_may_follow, arguments, pair}
use Rattle.ex_parser.specs.declared.follow.Bracket.{Bracket}
use Rattle.ex_parser.specs.declared.follow.Bracket.TheVariants.{Paren, Square}
use Rattle.ex_parser.specs.declared.follow.Next.{Next}
use Rattle.ex_parser.specs.declared.follow.Next.TheVariants as N
use Rattle.ex_parser.specs.declared.follow.TextGoes.{TextGoes}
use Rattle.ex_parser.specs.declared.follow.TextGoes.TheVariants as G
use Rattle.ex_parser.specs.Follow.{follow, first_infix, tail, text_goes, first_key}
use Rattle.ex_parser.specs.Machine.{first, bar, shut_by, item, next_key, shut_keys, keyed, then_tree, then_pattern, tail_end, hole_goes, hole, parens, condition, do_if, Value, value, made, onto, onto_patterns, Listed, Enclosure, InTuple, InList, InCall, Frame, Have, with_tree, floor, bracket_of, level_of, same_bracket, more_items, and_tree, and_pattern, with_keys, one, negates, prefixed, negative}
use Rattle.ex_parser.proofs.Levels.{infix_level}
use Rattle.ex_parser.proofs.Reach.{plain_negates, closing, joined_none}
use Rattle.ex_parser.proofs.Complete.{entry_tree, AllowsKeys, prefix_negates}
use Rattle.ex_parser.proofs.Inverses.{close_sign, FollowIs, TextIs, text_is, first_key_is}
use Rattle.ex_parser.proofs.Stacked.{Stacked, items_are, keyed_are, tail_are, hole_are, do_if_are, do_else_are, body_are, then_are, none_yet, TreesAre, no_tree, one_tree, PatternsAre, one_pattern, KeysAre, one_key, HolesAre, one_hole, Opener, square, opener_keys, trees_close, patterns_close, keys_close, holes_close, Ended, TreeIs, ValueIs}
use Rattle.ex_parser.proofs.Sound.{Good, floor_high, floor_primary, good_tree, tree_same, pattern_same, made_is, no_pattern_part, starts, reads, with_keys_plain, bracket_same, Whole, good_shut}

-- what follows is known
pub at_rest : (all before fs xs rest more : List Token) → all ≡ (before ++ fs) ++ (xs ++ rest) → rest ≡ more → all ≡ (before ++ fs) ++ (xs ++ more)
at_rest all before fs xs rest more sp h = sp ∙ ap (λ w. (before ++ fs) ++ (xs ++ w)) h

pub makes_tree : {all before ws rest : List Token} {s : List Frame} {l : ℕ} {e : End} {t : Tree} → Stacked s before → floor s ≤ l → Derives l e ws t → Ended e rest → is_negation ws t ≡ false → all ≡ before ++ (ws ++ rest) → Good all (Have s (made t l) rest)
makes_tree {rest = rest} st le d h n sp = reads st le (made_is rest d h n) sp

pub quiet_zero : (o : Option Infix) → ((j : Infix) → o ≡ Some j → infix_level j < 0) → o ≡ None
quiet_zero None h = refl
quiet_zero (Some j) h = absurd (omega (arith, h j refl))

pub may_else : (e : End) (ts : List Token) → Ended e ts → (follow ts).next ≡ N.CommaElse → else_may_follow e ≡ true
may_else Closed ts h q = refl
may_else Open ts h q = refl
may_else OpenIf ts h q = absurd (h.1 q)

pub reaches_on : (e : End) (ts : List Token) → first_infix ts ≡ None → Ended e ts → Ended (reaching e) ts
reaches_on Closed ts q h = q
reaches_on Open ts q h = q
reaches_on OpenIf ts q h = h

-- operators
pub end_operand : {all before ys xs rest : List Token} {s : List Frame} {v : Value} {a : Tree} (o : Operator) → Stacked s before → floor s ≤ level o → Derives (left o) Closed ys a → may_precede ys a o ≡ true → ValueIs v xs rest → right o ≤ v.level
    → all ≡ (before ++ (ys ++ infix_token (I.Operator o) ∷ [])) ++ (xs ++ rest) → Good all (with_tree v.tree (λ b. Have s (made (E.Apply o a b) (level o)) rest))
end_operand {all} {ys = ys} {xs} {rest} {s} {v} {a} o st le d m is lv sp = good_tree all v.tree (λ b. Have s (made (E.Apply o a b) (level o)) rest) (λ b q.
    let t = is.as_tree b q in
    makes_tree {ws = ys ++ infix_token (I.Operator o) ∷ xs} st le (D.apply d m (D.tighter lv t.derives)) t.ended (plain_negates (ys ++ infix_token (I.Operator o) ∷ xs) (E.Apply o a b) tt) (sp ∙ simp append_assoc))

pub end_matched : {all before ps xs rest : List Token} {s : List Frame} {v : Value} {p : Pattern} → Stacked s before → floor s ≤ 0 → IsPattern ps p → ValueIs v xs rest
    → all ≡ (before ++ (ps ++ Mark S.Equals ∷ [])) ++ (xs ++ rest) → Good all (with_tree v.tree (λ t. Have s (made (E.Match p t) match_level) rest))
end_matched {all} {ps = ps} {xs} {rest} {s} {v} {p} st le d is sp = good_tree all v.tree (λ t. Have s (made (E.Match p t) match_level) rest) (λ b q.
    let t = is.as_tree b q in
    let low : 0 ≤ v.level = omega arith in
    makes_tree {ws = ps ++ Mark S.Equals ∷ xs} st le (D.match d (D.tighter low t.derives)) t.ended (plain_negates (ps ++ Mark S.Equals ∷ xs) (E.Match p b) tt) (sp ∙ simp append_assoc))

number_only : {xs : List Token} {n : ℕ} → IsPattern xs (P.Integer n) → xs ≡ T.Number n ∷ []
number_only P.integer = refl

negative_is : (o : Prefix) (q : Option Pattern) (p : Pattern) (xs : List Token) → ((r : Pattern) → q ≡ Some r → IsPattern xs r) → negative o q ≡ Some p → IsPattern (prefix_token o ∷ xs) p
negative_is Negate None p xs h e = absurd (cc)
negative_is Negate (Some (P.Integer n)) p xs h e = subst (λ ts. IsPattern (Mark S.Minus ∷ ts) p) (sym (number_only (h (P.Integer n) refl))) (subst (λ r. IsPattern (Mark S.Minus ∷ T.Number n ∷ []) r) (pattern_same (P.Negative n) p e) P.negative)
negative_is Negate (Some r) p xs h e = absurd (cc)
negative_is Keep q p xs h e = absurd (cc)
negative_is Not q p xs h e = absurd (cc)
negative_is StrictNot q p xs h e = absurd (cc)

prefixed_is : (o : Prefix) (q : Option Tree) (t : Tree) → prefixed o q ≡ Some t → (a : Tree) × (q ≡ Some a) × (E.Prefixed o a ≡ t)
prefixed_is o None t e = absurd (cc)
prefixed_is o (Some a) t e = (a, refl, tree_same (E.Prefixed o a) t e)

pub end_prefixed : {all before xs rest : List Token} {s : List Frame} {v : Value} (o : Prefix) → Stacked s before → ValueIs v xs rest → unary_level ≤ v.level
    → all ≡ (before ++ (prefix_token o ∷ [])) ++ (xs ++ rest) → Good all (Have s (value (prefixed o v.tree) (negative o v.pattern) unary_level (negates o)) rest)
end_prefixed {all} {before} {xs} {rest} {s} {v} o st is lv sp = reads {xs = prefix_token o ∷ xs} st (floor_high s)
    (record {
      as_tree = λ t q.
          let a = prefixed_is o v.tree t q in
          let d = is.as_tree a.0 a.1 in
          subst (λ u. TreeIs unary_level (prefix_token o ∷ xs) u (negates o) rest) a.2 (record { e = d.e; derives = D.prefixed (D.tighter lv d.derives); ended = d.ended; is_negation = prefix_negates o xs a.0 });
      as_pattern = λ p q. negative_is o v.pattern p xs is.as_pattern q;
    })
    (sp ∙ append_assoc before (prefix_token o ∷ []) (xs ++ rest))

-- parentheses
pub end_parens : {all before xs rest : List Token} {s : List Frame} {v : Value} → Stacked s before → ValueIs v xs rest → (n : Next) (after : List Token) → FollowIs n rest after → all ≡ (before ++ (Mark S.OpenParen ∷ [])) ++ (xs ++ rest) → Good all (parens n after v s)
end_parens {all} {before} {xs} {rest} {s} {v} st is (N.Close Paren) after f sp = reads {xs = Mark S.OpenParen ∷ (xs ++ Mark S.CloseParen ∷ [])} st (floor_primary s)
    (record {
      as_tree = λ t q.
          let d = is.as_tree t q in
          let low : 0 ≤ v.level = omega arith in
          record { e = Closed; derives = D.parentheses (D.tighter low d.derives); ended = tt; is_negation = refl };
      as_pattern = λ p q. no_pattern_part p q;
    })
    (at_rest all before (Mark S.OpenParen ∷ []) xs rest (Mark S.CloseParen ∷ after) sp f ∙ simp append_assoc)
end_parens st is n after f sp = tt

-- items
and_tree_is : (o : Option Trees) (q : Option Tree) (done : Trees) → and_tree o q ≡ Some done → (d : Trees) × (t : Tree) × (o ≡ Some d) × (q ≡ Some t) × (OneMore t d ≡ done)
and_tree_is None q done e = absurd (cc)
and_tree_is (Some d) None done e = absurd (cc)
and_tree_is (Some d) (Some t) done e = (d, t, refl, refl, same (OneMore t d) done e)
  where
    same : (a b : Trees) → Some a ≡ Some b → a ≡ b
    same a b e = cc

and_pattern_is : (o : Option Patterns) (q : Option Pattern) (done : Patterns) → and_pattern o q ≡ Some done → (d : Patterns) × (p : Pattern) × (o ≡ Some d) × (q ≡ Some p) × (P.OneMore p d ≡ done)
and_pattern_is None q done e = absurd (cc)
and_pattern_is (Some d) None done e = absurd (cc)
and_pattern_is (Some d) (Some p) done e = (d, p, refl, refl, same (P.OneMore p d) done e)
  where
    same : (a b : Patterns) → Some a ≡ Some b → a ≡ b
    same a b e = cc

pub low : (v : Value) → 0 ≤ v.level
low v = omega arith

abbrev TreesIs : Trees → Option Trees → List Token → Type 0
TreesIs before o ts = (done : Trees) → o ≡ Some done → TreesAre before done ts

abbrev PatternsIs : Option Patterns → List Token → Type 0
PatternsIs o ts = (done : Patterns) → o ≡ Some done → PatternsAre done ts

-- all items with the last one
whole_items : {e : Enclosure} (first : Trees) (l : Listed) (v : Value) (ts xs rest : List Token) → TreesIs first l.trees ts → PatternsIs l.patterns ts → ValueIs v xs rest → Whole e first (more_items l v) (ts ++ xs)
whole_items first l v ts xs rest tr pa is = record {
  trees = λ done q.
      let a = and_tree_is l.trees v.tree done q in
      let c = trees_close (tr a.0 a.2) (D.last_item (D.tighter (low v) (is.as_tree a.1 a.3).derives)) in
      let w : onto a.0 (OneMore a.1 NoTree) ≡ onto first (joined (OneMore c.x c.more) NoTree) = c.whole NoTree in
      (OneMore c.x c.more, c.derives, ap (λ d. onto d NoTree) (sym a.4) ∙ (w ∙ ap (onto first) (joined_none (OneMore c.x c.more))));
  patterns = λ done q.
      let a = and_pattern_is l.patterns v.pattern done q in
      let c = patterns_close (pa a.0 a.2) (P.last_pattern (is.as_pattern a.1 a.3)) in
      (P.OneMore c.p c.more, c.are, ap (λ d. onto_patterns d NoPattern) (sym a.4) ∙ c.whole);
}

item_bar : {all before hs ts xs rest : List Token} {s : List Frame} {v : Value} {l : Listed} (e : Enclosure) {first : Trees} → Stacked s before → Opener e first hs → TreesIs first l.trees ts → PatternsIs l.patterns ts → ValueIs v xs rest → (after : List Token)
    → all ≡ (before ++ (hs ++ ts)) ++ (xs ++ Mark S.Bar ∷ after) → Good all (bar e (more_items l v) s after)
item_bar {ts = ts} {xs} {rest} {s} {v} {l} InList st square tr pa is after sp = starts {fs = Mark S.OpenBracket ∷ ((ts ++ xs) ++ Mark S.Bar ∷ [])} st (floor_primary s)
    (tail_are
    (λ done q.
    let a = and_tree_is l.trees v.tree done q in
    let c = trees_close (tr a.0 a.2) (D.last_item (D.tighter (low v) (is.as_tree a.1 a.3).derives)) in
    let w : onto a.0 (OneMore a.1 NoTree) ≡ OneMore c.x (joined c.more NoTree) = c.whole NoTree in
    (c.x, c.more, c.derives, ap (λ d. onto d NoTree) (sym a.4) ∙ (w ∙ ap (OneMore c.x) (joined_none c.more))))
    (λ done q.
    let a = and_pattern_is l.patterns v.pattern done q in
    let c = patterns_close (pa a.0 a.2) (P.last_pattern (is.as_pattern a.1 a.3)) in
    (c.p, c.more, c.are, ap (λ d. onto_patterns d NoPattern) (sym a.4) ∙ c.whole)))
    (sp ∙ simp append_assoc)
item_bar InTuple st o tr pa is after sp = tt
item_bar (InCall x n) st o tr pa is after sp = tt

item_shut : {all before hs ts xs rest : List Token} {s : List Frame} {v : Value} {l : Listed} (e : Enclosure) {first : Trees} → Stacked s before → floor s ≤ level_of e → Opener e first hs → TreesIs first l.trees ts → PatternsIs l.patterns ts → ValueIs v xs rest → (b : Bracket) (after : List Token)
    → rest ≡ close_sign b ∷ after → (c : Bool) → same_bracket b (bracket_of e) ≡ c → all ≡ (before ++ (hs ++ ts)) ++ (xs ++ rest) → Good all (shut_by c e (more_items l v) s after)
item_shut e st le o tr pa is b after f false h sp = tt
item_shut {all} {before} {hs} {ts} {xs} {rest} {v = v} {l} e {first} st le o tr pa is b after f true h sp =
    good_shut {ts = ts ++ xs} st le o (more_items l v) (whole_items first l v ts xs rest tr pa is)
    (at_rest all before (hs ++ ts) xs rest (closing e ∷ after) sp (f ∙ ap (λ c. c ∷ after) (bracket_same b e h)) ∙ simp append_assoc)

pub end_items : {all before hs ts xs rest : List Token} {s : List Frame} {v : Value} {l : Listed} (e : Enclosure) {first : Trees} → Stacked s before → floor s ≤ level_of e → Opener e first hs → TreesIs first l.trees ts → PatternsIs l.patterns ts → ValueIs v xs rest → (n : Next) (after : List Token)
    → FollowIs n rest after → all ≡ (before ++ (hs ++ ts)) ++ (xs ++ rest) → Good all (item n after e (more_items l v) s)
end_items {all} {before} {hs} {ts} {xs} {rest} {s} {v} {l} e {first} st le o tr pa is N.Comma after f sp = starts {fs = hs ++ (ts ++ (xs ++ Mark S.Comma ∷ []))} st le
    (items_are o
    (λ done q. let a = and_tree_is l.trees v.tree done q in subst (λ d. TreesAre first d (ts ++ (xs ++ Mark S.Comma ∷ []))) a.4 (one_tree (tr a.0 a.2) (D.tighter (low v) (is.as_tree a.1 a.3).derives)))
    (λ done q. let a = and_pattern_is l.patterns v.pattern done q in subst (λ d. PatternsAre d (ts ++ (xs ++ Mark S.Comma ∷ []))) a.4 (one_pattern (pa a.0 a.2) (is.as_pattern a.1 a.3))))
    (at_rest all before (hs ++ ts) xs rest (Mark S.Comma ∷ after) sp f ∙ simp append_assoc)
end_items {all} {before} {hs} {ts} {xs} {rest} e st le o tr pa is N.Bar after f sp = item_bar e st o tr pa is after (at_rest all before (hs ++ ts) xs rest (Mark S.Bar ∷ after) sp f)
end_items e st le o tr pa is (N.Close b) after f sp = item_shut e st le o tr pa is b after f (same_bracket b (bracket_of e)) refl sp
end_items e st le o tr pa is n after f sp = tt

-- keys
entries_close : {first items : Trees} {ts : List Token} → TreesAre first items ts → {us : List Token} {k : Tree} {ks : Trees} → DeriveKeys us (OneMore k ks)
    → (xs : Trees) × DeriveEntries (ts ++ us) xs (OneMore k ks) × ((vs : Trees) → onto items vs ≡ onto first (joined xs vs))
entries_close no_tree d = (NoTree, D.keys_alone d, λ vs. refl)
entries_close {first} (one_tree {done} {ts} {us = vs} {t = t} a v) {us} {k} {ks} d =
    let c = trees_close a (D.last_item v) in
    let e : (ts ++ vs) ++ Mark S.Comma ∷ us ≡ (ts ++ (vs ++ Mark S.Comma ∷ [])) ++ us = simp append_assoc in
    (OneMore c.x c.more, subst (λ w. DeriveEntries w (OneMore c.x c.more) (OneMore k ks)) e (D.items_keys c.derives d), c.whole)

keys_tree : (e : Enclosure) (items first xs keys : Trees) (k : Tree) (ks : Trees) → AllowsKeys e → ((vs : Trees) → onto items vs ≡ onto first (joined xs vs)) → onto keys NoTree ≡ OneMore k ks → entry_tree e first xs (OneMore k ks) ≡ with_keys e items keys
keys_tree InTuple items first xs keys k ks ok w h = absurd ok
keys_tree InList items first xs keys k ks ok w h = ap E.Items (sym (w (OneMore k ks)) ∙ ap (onto items) (sym h))
keys_tree (InCall x l) items first xs keys k ks ok w h = ap (E.Call x) (sym (w (OneMore (E.Items (OneMore k ks)) NoTree)) ∙ ap (λ u. onto items (OneMore (E.Items u) NoTree)) (sym h))

keyed_shut : {all before hs ts us xs rest : List Token} {s : List Frame} {items ks : Trees} {t : Tree} {g : End} (x : List ℕ) (e : Enclosure) {first : Trees} → Stacked s before → floor s ≤ level_of e → Opener e first hs → AllowsKeys e → TreesAre first items ts → KeysAre ks us → is_block_key x ≡ false → Derives 0 g xs t
    → (b : Bracket) (after : List Token) → rest ≡ close_sign b ∷ after → (c : Bool) → same_bracket b (bracket_of e) ≡ c → all ≡ (before ++ (hs ++ (ts ++ (us ++ Key x ∷ [])))) ++ (xs ++ rest) → Good all (shut_keys c e items (OneMore (pair x t) ks) s after)
keyed_shut x e st le o ok tr ka own d b after f false h sp = tt
keyed_shut {all} {before} {hs} {ts} {us} {xs} {rest} {s} {items} {ks} {t} x e {first} st le o ok tr ka own d b after f true h sp =
    let k = keys_close ka (D.last_key own d) in
    let c = entries_close tr k.derives in
    let ws : List Token = hs ++ ((ts ++ (us ++ Key x ∷ xs)) ++ closing e ∷ []) in
    let tree : Tree = with_keys e items (OneMore (pair x t) ks) in
    makes_tree {ws = ws} st le (subst (λ u. Derives (level_of e) Closed ws u) (keys_tree e items first c.0 (OneMore (pair x t) ks) k.k k.more ok c.2 k.whole) (opener_keys o ok c.1)) tt (plain_negates ws tree (with_keys_plain e items (OneMore (pair x t) ks)))
    (at_rest all before (hs ++ (ts ++ (us ++ Key x ∷ []))) xs rest (closing e ∷ after) sp (f ∙ ap (λ c. c ∷ after) (bracket_same b e h)) ∙ simp append_assoc)

keyed_goes : {all before hs ts us xs rest : List Token} {s : List Frame} {items ks : Trees} {t : Tree} {g : End} (x : List ℕ) (e : Enclosure) {first : Trees} → Stacked s before → floor s ≤ level_of e → Opener e first hs → AllowsKeys e → TreesAre first items ts → KeysAre ks us → is_block_key x ≡ false → Derives 0 g xs t
    → (after : List Token) → rest ≡ Mark S.Comma ∷ after → (o' : Option (List ℕ)) → ((y : List ℕ) → o' ≡ Some y → (is_block_key y ≡ false) × (after ≡ Key y ∷ tail after)) → all ≡ (before ++ (hs ++ (ts ++ (us ++ Key x ∷ [])))) ++ (xs ++ rest)
    → Good all (next_key o' e items (OneMore (pair x t) ks) s after)
keyed_goes x e st le o ok tr ka own d after f None n sp = tt
keyed_goes {all} {before} {hs} {ts} {us} {xs} {rest} x e st le o ok tr ka own d after f (Some y) n sp =
    let k = n y refl in
    starts {fs = hs ++ (ts ++ ((us ++ Key x ∷ (xs ++ Mark S.Comma ∷ [])) ++ Key y ∷ []))} st le (keyed_are o ok tr (one_key ka own d) k.0)
    (at_rest all before (hs ++ (ts ++ (us ++ Key x ∷ []))) xs rest (Mark S.Comma ∷ Key y ∷ tail after) sp (f ∙ ap (λ w. Mark S.Comma ∷ w) k.1) ∙ simp append_assoc)

pub end_keyed : {all before hs ts us xs : List Token} {s : List Frame} {items ks : Trees} {t : Tree} {g : End} (rest : List Token) (x : List ℕ) (e : Enclosure) {first : Trees} → Stacked s before → floor s ≤ level_of e → Opener e first hs → AllowsKeys e → TreesAre first items ts → KeysAre ks us → is_block_key x ≡ false → Derives 0 g xs t
    → (n : Next) (after : List Token) → FollowIs n rest after → all ≡ (before ++ (hs ++ (ts ++ (us ++ Key x ∷ [])))) ++ (xs ++ rest) → Good all (keyed n after e items (OneMore (pair x t) ks) s)
end_keyed rest x e st le o ok tr ka own d N.Comma after f sp = keyed_goes x e st le o ok tr ka own d after f (first_key after) (first_key_is after) sp
end_keyed rest x e st le o ok tr ka own d (N.Close b) after f sp = keyed_shut x e st le o ok tr ka own d b after f (same_bracket b (bracket_of e)) refl sp
end_keyed rest x e st le o ok tr ka own d n after f sp = tt

-- the rest of a list
then_tree_is : (o : Option Trees) (q : Option Tree) (u : Tree) → then_tree o q ≡ Some u → (done : Trees) × (t : Tree) × (o ≡ Some done) × (q ≡ Some t) × (E.ItemsThen (onto done NoTree) t ≡ u)
then_tree_is None q u e = absurd (cc)
then_tree_is (Some done) None u e = absurd (cc)
then_tree_is (Some done) (Some t) u e = (done, t, refl, refl, tree_same (E.ItemsThen (onto done NoTree) t) u e)

then_pattern_is : (o : Option Patterns) (q : Option Pattern) (u : Pattern) → then_pattern o q ≡ Some u → (done : Patterns) × (p : Pattern) × (o ≡ Some done) × (q ≡ Some p) × (P.ItemsThen (onto_patterns done NoPattern) p ≡ u)
then_pattern_is None q u e = absurd (cc)
then_pattern_is (Some done) None u e = absurd (cc)
then_pattern_is (Some done) (Some p) u e = (done, p, refl, refl, pattern_same (P.ItemsThen (onto_patterns done NoPattern) p) u e)

pub end_tail : {all before ts xs rest : List Token} {s : List Frame} {v : Value} {l : Listed} → Stacked s before
    → ((done : Trees) → l.trees ≡ Some done → (x : Tree) × (xs : Trees) × DeriveItems ts (OneMore x xs) × (onto done NoTree ≡ OneMore x xs))
    → ((done : Patterns) → l.patterns ≡ Some done → (p : Pattern) × (ps : Patterns) × ArePatterns ts (P.OneMore p ps) × (onto_patterns done NoPattern ≡ P.OneMore p ps))
    → ValueIs v xs rest → (n : Next) (after : List Token) → FollowIs n rest after → all ≡ (before ++ (Mark S.OpenBracket ∷ (ts ++ Mark S.Bar ∷ []))) ++ (xs ++ rest) → Good all (tail_end n after l v s)
end_tail {all} {before} {ts} {xs} {rest} {s} {v} {l} st tr pa is (N.Close Square) after f sp = reads {xs = Mark S.OpenBracket ∷ (ts ++ Mark S.Bar ∷ (xs ++ Mark S.CloseBracket ∷ []))} st (floor_primary s)
    (record {
      as_tree = λ u q.
          let a = then_tree_is l.trees v.tree u q in
          let d = tr a.0 a.2 in
          let same : E.ItemsThen (OneMore d.0 d.1) a.1 ≡ u = ap (λ w. E.ItemsThen w a.1) (sym d.3) ∙ a.4 in
          subst (λ w. TreeIs primary_level (Mark S.OpenBracket ∷ (ts ++ Mark S.Bar ∷ (xs ++ Mark S.CloseBracket ∷ []))) w false after) same
          (record { e = Closed; derives = D.list_then d.2 (D.tighter (low v) (is.as_tree a.1 a.3).derives); ended = tt; is_negation = refl });
      as_pattern = λ u q.
          let a = then_pattern_is l.patterns v.pattern u q in
          let d = pa a.0 a.2 in
          let same : P.ItemsThen (P.OneMore d.0 d.1) a.1 ≡ u = ap (λ w. P.ItemsThen w a.1) (sym d.3) ∙ a.4 in
          subst (λ w. IsPattern (Mark S.OpenBracket ∷ (ts ++ Mark S.Bar ∷ (xs ++ Mark S.CloseBracket ∷ []))) w) same (P.items_then d.2 (is.as_pattern a.1 a.3));
    })
    (at_rest all before (Mark S.OpenBracket ∷ (ts ++ Mark S.Bar ∷ [])) xs rest (Mark S.CloseBracket ∷ after) sp f ∙ simp append_assoc)
end_tail st tr pa is n after f sp = tt

-- texts
hole_goes_on : {all before ts xs : List Token} {s : List Frame} {hs : Holes} {t : Tree} {g : End} (more : List Token) (bytes says : List ℕ) → Stacked s before → HolesAre hs ts → Derives 0 g xs t → (n : TextGoes) → TextIs n more → all ≡ (before ++ (TextBegins bytes ∷ (ts ++ HoleBegins ∷ []))) ++ (xs ++ HoleEnds says ∷ more)
    → Good all (hole_goes n bytes (E.Hole t says hs) s more)
hole_goes_on {all} {before} {ts} {xs} {s} more bytes says st ho d G.Hole h sp = starts {fs = TextBegins bytes ∷ ((ts ++ HoleBegins ∷ (xs ++ HoleEnds says ∷ [])) ++ HoleBegins ∷ [])} st (floor_primary s) (hole_are (one_hole ho d))
    (sp ∙ (ap (λ w. (before ++ (TextBegins bytes ∷ (ts ++ HoleBegins ∷ []))) ++ (xs ++ HoleEnds says ∷ w)) h ∙ simp append_assoc))
hole_goes_on {all} {before} {ts} {xs} {s} {hs} {t} more bytes says st ho d G.Ends h sp = makes_tree {ws = TextBegins bytes ∷ ((ts ++ HoleBegins ∷ (xs ++ HoleEnds says ∷ [])) ++ TextEnds ∷ [])} st (floor_primary s)
    (D.text (holes_close ho (D.hole d D.no_hole))) tt refl
    (sp ∙ (ap (λ w. (before ++ (TextBegins bytes ∷ (ts ++ HoleBegins ∷ []))) ++ (xs ++ HoleEnds says ∷ w)) h ∙ simp append_assoc))
hole_goes_on more bytes says st ho d G.Other h sp = tt

pub end_hole : {all before ts xs rest : List Token} {s : List Frame} {hs : Holes} {t : Tree} {g : End} (bytes : List ℕ) → Stacked s before → HolesAre hs ts → Derives 0 g xs t → (o : Option (List ℕ)) → ((says : List ℕ) → o ≡ Some says → rest ≡ HoleEnds says ∷ tail rest)
    → all ≡ (before ++ (TextBegins bytes ∷ (ts ++ HoleBegins ∷ []))) ++ (xs ++ rest) → Good all (hole o bytes hs t s rest)
end_hole bytes st ho d None h sp = tt
end_hole {all} {before} {ts} {xs} {rest} bytes st ho d (Some says) h sp = hole_goes_on (tail rest) bytes says st ho d (text_goes (tail rest)) (text_is (tail rest)) (at_rest all before (TextBegins bytes ∷ (ts ++ HoleBegins ∷ [])) xs rest (HoleEnds says ∷ tail rest) sp (h says refl))

-- `if`
pub end_condition : {all before xs : List Token} {s : List Frame} {c : Tree} {g : End} (rest : List Token) → Stacked s before → Derives 0 g xs c → (n : Next) (after : List Token) → FollowIs n rest after → all ≡ (before ++ (Word K.If ∷ [])) ++ (xs ++ rest) → Good all (condition n after c s)
end_condition {all} {before} {xs} {s} rest st d N.Do after f sp = starts {fs = (Word K.If ∷ (xs ++ Word K.Do ∷ f.0)) ++ []} st (floor_primary s) (body_are (then_are d f.1) none_yet)
    (at_rest all before (Word K.If ∷ []) xs rest (Word K.Do ∷ (f.0 ++ after)) sp f.2 ∙ simp (append_assoc, append-nil))
end_condition {all} {before} {xs} {s} rest st d N.CommaDo after f sp = starts {fs = Word K.If ∷ (xs ++ Mark S.Comma ∷ Key do_key ∷ [])} st (floor_primary s) (do_if_are d)
    (at_rest all before (Word K.If ∷ []) xs rest (Mark S.Comma ∷ Key do_key ∷ after) sp f ∙ simp append_assoc)
end_condition rest st d n after f sp = tt

pub end_do_if : {all before cs xs : List Token} {s : List Frame} {c a : Tree} {e g : End} (rest : List Token) → Stacked s before → Derives 0 e cs c → Derives 0 g xs a → Ended g rest → first_infix rest ≡ None → (n : Next) (after : List Token) → (follow rest).next ≡ n → FollowIs n rest after
    → all ≡ (before ++ (Word K.If ∷ (cs ++ Mark S.Comma ∷ Key do_key ∷ []))) ++ (xs ++ rest) → Good all (do_if n after c a s rest)
end_do_if {all} {before} {cs} {xs} {s} {g = g} rest st dc d en q N.CommaElse after hn f sp = starts {fs = Word K.If ∷ (cs ++ Mark S.Comma ∷ Key do_key ∷ (xs ++ Mark S.Comma ∷ Key else_key ∷ []))} st (floor_primary s) (do_else_are dc d (may_else g rest en hn))
    (at_rest all before (Word K.If ∷ (cs ++ Mark S.Comma ∷ Key do_key ∷ [])) xs rest (Mark S.Comma ∷ Key else_key ∷ after) sp f ∙ simp append_assoc)
end_do_if {all} {before} {cs} {xs} {s} rest st dc d en q n after hn f sp = makes_tree {ws = Word K.If ∷ (cs ++ Mark S.Comma ∷ Key do_key ∷ xs)} st (floor_primary s) (D.if_do dc d) (q, λ h. off (sym hn ∙ h)) refl (sp ∙ simp append_assoc)
  where
    off : n ≡ N.CommaElse → ⊥
    off h = cc

pub end_do_else : {all before cs ts xs rest : List Token} {s : List Frame} {c a b : Tree} {e f g : End} → Stacked s before → Derives 0 e cs c → Derives 0 f ts a → else_may_follow f ≡ true → Derives 0 g xs b → Ended g rest → first_infix rest ≡ None
    → all ≡ (before ++ (Word K.If ∷ (cs ++ Mark S.Comma ∷ Key do_key ∷ (ts ++ Mark S.Comma ∷ Key else_key ∷ [])))) ++ (xs ++ rest) → Good all (Have s (made (E.IfElse c (one a) (one b)) primary_level) rest)
end_do_else {all} {before} {cs} {ts} {xs} {rest} {s} {g = g} st dc da m d en q sp = makes_tree {ws = Word K.If ∷ (cs ++ Mark S.Comma ∷ Key do_key ∷ (ts ++ Mark S.Comma ∷ Key else_key ∷ xs))} st (floor_primary s) (D.if_do_else dc da m d) (reaches_on g rest q en) refl (sp ∙ simp append_assoc)
