-- What is read derives, at the end of a body or a part; and so at every step.
use Rattle.std.proofs.Common.{◌≡◌, ◌<◌, ◌≤◌, Bool, true, false, List, [], ◌∷◌, ◌++◌, Option, Some, None, refl, sym, ap, ◌∙◌, subst, append_assoc}
use Rattle.std.specs.Prelude.{nat_le}
use Rattle.std.proofs.lemmas.List.{append-nil}
use Rattle.ex_grammar.specs.declared.token.Sign.TheVariants as S
use Rattle.ex_grammar.specs.declared.token.Keyword.TheVariants as K
use Rattle.ex_grammar.specs.declared.operators.Infix.{Infix}
use Rattle.ex_grammar.specs.Tokens.{Token, Mark, Word, Key, Separator}
use Rattle.ex_grammar.specs.Operators.{primary_level}
use Rattle.ex_grammar.specs.Patterns.{Pattern, IsPattern}
use Rattle.ex_grammar.specs.Trees as E
use Rattle.ex_grammar.specs.Trees.{Tree, Trees, NoTree, OneMore, Holes, NoHole, Clauses, NoClause, Choices, NoChoice, Parts, NoPart, Generator, Filter, joined}
use Rattle.ex_grammar.specs.Grammar as D
use Rattle.ex_grammar.specs.Grammar.{End, Closed, Open, OpenIf, reaching, Derives, DerivesCall, DeriveItems, DeriveKeys, DeriveEntries, DeriveAll, DerivesBody, MaySeparate, without, with, do_key, else_key, is_block_key, is_underscore, is_negation, may_precede, else_may_follow, arguments, pair}
use Rattle.ex_parser.specs.declared.follow.Next.{Next}
use Rattle.ex_parser.specs.declared.follow.Next.TheVariants as N
use Rattle.ex_parser.specs.Follow.{follow, first_infix, hole_says}
use Rattle.ex_parser.specs.Machine.{keyed, hole, condition, do_if, subject, first_pattern, first_condition, for_pattern, after_part, and_filter, and_generator, part, else_body, next_clause, body, take_or_end, have_by, Value, made, onto, onto_clauses, onto_choices, Head, head, Block, Then, Otherwise, InClause, InChoice, InFor, Frame, Operand, Matched, Prefixed, Parens, Items, Keyed, Tail, InHole, Condition, DoIf, DoElse, Body, Subject, FirstPattern, FirstCondition, ForPattern, ForSource, Part, PartSource, DoFor, State, Want, Have, Done, Stuck, with_tree, with_pattern, floor, one, block_tree, for_tree, end_by, ends, step, Reaches, here, there}
use Rattle.ex_parser.proofs.Levels.{le_is, gt_is, infix_level}
use Rattle.ex_parser.proofs.Reach.{NotPrefixed, plain_negates}
use Rattle.ex_parser.proofs.Inverses.{FollowIs, follow_is, hole_says_is}
use Rattle.ex_parser.proofs.Stacked.{Stacked, bottom, on_top, makes, FrameAre, operand_are, matched_are, prefixed_are, parens_are, items_are, keyed_are, tail_are, hole_are, condition_are, do_if_are, do_else_are, body_are, subject_are, first_pattern_are, first_condition_are, for_pattern_are, for_source_are, part_are, part_source_are, do_for_are, BlockAre, then_are, otherwise_are, clause_are, choice_are, for_are, HeadAre, head_are, AllAre, none_yet, one_yet, no_clause, one_clause, no_choice, one_choice, no_part, one_generator, one_filter, all_close, clauses_close, choices_close, parts_whole, Ended, ValueIs}
use Rattle.ex_parser.proofs.Sound.{Held, Front, Good, floor_primary, good_tree, good_pattern, starts, good_want, good_take}
use Rattle.ex_parser.proofs.SoundEnds.{at_rest, makes_tree, quiet_zero, reaches_on, end_operand, end_matched, end_prefixed, end_parens, end_items, end_keyed, end_tail, end_hole, end_condition, end_do_if, end_do_else, low}

-- a block with its last body
block_close : {b : Block} {hs : List Token} → BlockAre b hs → {ts sep : List Token} {xs : Trees} → DeriveAll ts xs → MaySeparate sep → Derives primary_level Closed (hs ++ (ts ++ (sep ++ Word K.End ∷ []))) (block_tree b xs)
block_close (then_are {c} {cs = cs} {sep = m} d h) {ts} {sep} {xs} da s =
    let e : Word K.If ∷ (cs ++ Word K.Do ∷ ((m ++ (ts ++ sep)) ++ Word K.End ∷ [])) ≡ (Word K.If ∷ (cs ++ Word K.Do ∷ m)) ++ (ts ++ (sep ++ Word K.End ∷ [])) = simp append_assoc in
    subst (λ w. Derives primary_level Closed w (E.If c xs)) e (D.if_block d (D.body h da s))
block_close (otherwise_are {c} {as'} {cs = cs} {ts = us} {sep = m} d b h) {ts} {sep} {xs} da s =
    let e : Word K.If ∷ (cs ++ Word K.Do ∷ (us ++ Word K.Else ∷ ((m ++ (ts ++ sep)) ++ Word K.End ∷ []))) ≡ (Word K.If ∷ (cs ++ Word K.Do ∷ (us ++ Word K.Else ∷ m))) ++ (ts ++ (sep ++ Word K.End ∷ [])) = simp append_assoc in
    subst (λ w. Derives primary_level Closed w (E.IfElse c as' xs)) e (D.if_else_block d b (D.body h da s))
block_close (clause_are {c} {ks} {p} {cs = cs} {sep = m} {ts = us} {ps} {sep' = m'} d h ka pa h') {ts} {sep} {xs} da s =
    let e : Word K.Case ∷ (cs ++ Word K.Do ∷ (m ++ ((us ++ (ps ++ Mark S.RightArrow ∷ (m' ++ ts))) ++ (sep ++ Word K.End ∷ [])))) ≡ (Word K.Case ∷ (cs ++ Word K.Do ∷ (m ++ (us ++ (ps ++ Mark S.RightArrow ∷ m'))))) ++ (ts ++ (sep ++ Word K.End ∷ [])) = simp append_assoc in
    subst (λ w. Derives primary_level Closed w (E.Case c (onto_clauses ks (E.Clause p xs NoClause)))) e (D.case_block d h (clauses_close ka (D.last_clause pa h' da)) s)
block_close (choice_are {ks} {c} {sep = m} {ts = us} {cs} {sep' = m'} h ka d h') {ts} {sep} {xs} da s =
    let e : Word K.Cond ∷ Word K.Do ∷ (m ++ ((us ++ (cs ++ Mark S.RightArrow ∷ (m' ++ ts))) ++ (sep ++ Word K.End ∷ []))) ≡ (Word K.Cond ∷ Word K.Do ∷ (m ++ (us ++ (cs ++ Mark S.RightArrow ∷ m')))) ++ (ts ++ (sep ++ Word K.End ∷ [])) = simp append_assoc in
    subst (λ w. Derives primary_level Closed w (E.Cond (onto_choices ks (E.Choice c xs NoChoice)))) e (D.cond_block h (choices_close ka (D.last_choice d h' da)) s)
block_close (for_are {h} {sep = m} (head_are {ps = ps} {gs} {rs} p g r) hm) {ts} {sep} {xs} da s =
    let e : Word K.For ∷ (ps ++ Mark S.LeftArrow ∷ (gs ++ (rs ++ Word K.Do ∷ ((m ++ (ts ++ sep)) ++ Word K.End ∷ [])))) ≡ ((Word K.For ∷ (ps ++ Mark S.LeftArrow ∷ (gs ++ rs))) ++ Word K.Do ∷ m) ++ (ts ++ (sep ++ Word K.End ∷ [])) = simp append_assoc in
    subst (λ w. Derives primary_level Closed w (for_tree h xs)) e (D.for_block p g (parts_whole r) (D.body hm da s))

block_plain : (b : Block) (xs : Trees) → NotPrefixed (block_tree b xs)
block_plain (Then c) xs = tt
block_plain (Otherwise c ys) xs = tt
block_plain (InClause c ks p) xs = tt
block_plain (InChoice ks c) xs = tt
block_plain (InFor h) xs = tt

-- the expressions of a body with its last
body_all : {done : Trees} {ts us : List Token} {g : End} {t : Tree} → AllAre done ts → Derives 0 g us t → DeriveAll (ts ++ us) (onto done (one t))
body_all a d = all_close a (D.last_one d)

body_end : {all before hs ts xs rest : List Token} {s : List Frame} {b : Block} {done : Trees} {g : End} (t : Tree) → Stacked s before → BlockAre b hs → AllAre done ts → Derives 0 g xs t → (after : List Token) → FollowIs N.End rest after → all ≡ (before ++ (hs ++ ts)) ++ (xs ++ rest)
    → Good all (Have s (made (block_tree b (onto done (one t))) primary_level) after)
body_end {all} {before} {hs} {ts} {xs} {rest} {s} {b} {done} t st ba aa d after f sp =
    let ws : List Token = hs ++ ((ts ++ xs) ++ (f.0 ++ Word K.End ∷ [])) in
    makes_tree {ws = ws} st (floor_primary s) (block_close ba (body_all aa d) f.1) tt (plain_negates ws (block_tree b (onto done (one t))) (block_plain b (onto done (one t))))
    (at_rest all before (hs ++ ts) xs rest (f.0 ++ Word K.End ∷ after) sp f.2 ∙ simp append_assoc)

body_else : {all before hs ts xs rest : List Token} {s : List Frame} {done : Trees} {g : End} (b : Block) (t : Tree) → Stacked s before → BlockAre b hs → AllAre done ts → Derives 0 g xs t → (after : List Token) → FollowIs N.Else rest after → all ≡ (before ++ (hs ++ ts)) ++ (xs ++ rest)
    → Good all (else_body b (onto done (one t)) s after)
body_else {all} {before} {ts = ts} {xs} {rest} {s} (Then c) t st (then_are {cs = cs} {sep = m} d h) aa dt after f sp =
    starts {fs = (Word K.If ∷ (cs ++ Word K.Do ∷ ((m ++ ((ts ++ xs) ++ f.0)) ++ Word K.Else ∷ f.1))) ++ []} st (floor_primary s) (body_are (otherwise_are d (D.body h (body_all aa dt) f.2) f.3) none_yet)
    (at_rest all before ((Word K.If ∷ (cs ++ Word K.Do ∷ m)) ++ ts) xs rest (f.0 ++ Word K.Else ∷ (f.1 ++ after)) sp f.4 ∙ simp (append_assoc, append-nil))
body_else (Otherwise c ys) t st ba aa d after f sp = tt
body_else (InClause c ks p) t st ba aa d after f sp = tt
body_else (InChoice ks c) t st ba aa d after f sp = tt
body_else (InFor h) t st ba aa d after f sp = tt

body_more : {all before hs ts xs rest : List Token} {s : List Frame} {b : Block} {done : Trees} {g : End} (t : Tree) → Stacked s before → BlockAre b hs → AllAre done ts → Derives 0 g xs t → (after : List Token) → rest ≡ Separator ∷ after → all ≡ (before ++ (hs ++ ts)) ++ (xs ++ rest)
    → Good all (Want (Body b (OneMore t done) ∷ s) after)
body_more {all} {before} {hs} {ts} {xs} {rest} {s} t st ba aa d after f sp =
    starts {fs = hs ++ (ts ++ (xs ++ Separator ∷ []))} st (floor_primary s) (body_are ba (one_yet aa d)) (at_rest all before (hs ++ ts) xs rest (Separator ∷ after) sp f ∙ simp append_assoc)

-- what was a body's end
record Ended' (xs : Trees) (ts : List Token) : Type 0 where
  us : List Token
  is : ts ≡ us ++ Separator ∷ []
  derives : DeriveAll us (onto xs NoTree)

all_ended : {x : Tree} {xs : Trees} {ts : List Token} → AllAre (OneMore x xs) ts → Ended' (OneMore x xs) ts
all_ended (one_yet {ts = ts} {us} a d) = record { us = ts ++ us; is = sym (append_assoc ts us (Separator ∷ [])); derives = body_all a d }

clause_next : {all before hs ts xs rest : List Token} {s : List Frame} {v : Value} {c : Tree} {ks : Clauses} {p : Pattern} (x : Tree) (ys : Trees) → Stacked s before → BlockAre (InClause c ks p) hs → AllAre (OneMore x ys) ts → ValueIs v xs rest → (after : List Token) → FollowIs N.RightArrow rest after
    → all ≡ (before ++ (hs ++ ts)) ++ (xs ++ rest) → Good all (with_pattern v.pattern (λ q. Want (Body (InClause c (E.Clause p (onto (OneMore x ys) NoTree) ks) q) NoTree ∷ s) after))
clause_next {all} {before} {ts = ts} {xs} {rest} {s} {v} {c} {ks} {p} x ys st (clause_are {cs = cs} {sep = m} {ts = us} {ps} {sep' = m'} d h ka pa h') aa is after f sp =
    good_pattern all v.pattern (λ q. Want (Body (InClause c (E.Clause p (onto (OneMore x ys) NoTree) ks) q) NoTree ∷ s) after) (λ q e.
    let a = all_ended aa in
    starts {fs = (Word K.Case ∷ (cs ++ Word K.Do ∷ (m ++ ((us ++ (ps ++ Mark S.RightArrow ∷ (m' ++ (a.us ++ Separator ∷ [])))) ++ (xs ++ Mark S.RightArrow ∷ f.0))))) ++ []} st (floor_primary s)
    (body_are (clause_are d h (one_clause ka pa h' a.derives) (is.as_pattern q e) f.1) none_yet)
    (at_rest all before ((Word K.Case ∷ (cs ++ Word K.Do ∷ (m ++ (us ++ (ps ++ Mark S.RightArrow ∷ m'))))) ++ ts) xs rest (Mark S.RightArrow ∷ (f.0 ++ after)) sp f.2
    ∙ (ap (λ w. (before ++ ((Word K.Case ∷ (cs ++ Word K.Do ∷ (m ++ (us ++ (ps ++ Mark S.RightArrow ∷ m'))))) ++ w)) ++ (xs ++ Mark S.RightArrow ∷ (f.0 ++ after))) a.is ∙ simp (append_assoc, append-nil))))

choice_next : {all before hs ts xs rest : List Token} {s : List Frame} {v : Value} {ks : Choices} {c : Tree} (x : Tree) (ys : Trees) → Stacked s before → BlockAre (InChoice ks c) hs → AllAre (OneMore x ys) ts → ValueIs v xs rest → (after : List Token) → FollowIs N.RightArrow rest after
    → all ≡ (before ++ (hs ++ ts)) ++ (xs ++ rest) → Good all (with_tree v.tree (λ d. Want (Body (InChoice (E.Choice c (onto (OneMore x ys) NoTree) ks) d) NoTree ∷ s) after))
choice_next {all} {before} {ts = ts} {xs} {rest} {s} {v} {ks} {c} x ys st (choice_are {sep = m} {ts = us} {cs} {sep' = m'} h ka d h') aa is after f sp =
    good_tree all v.tree (λ d. Want (Body (InChoice (E.Choice c (onto (OneMore x ys) NoTree) ks) d) NoTree ∷ s) after) (λ q e.
    let a = all_ended aa in
    let t = is.as_tree q e in
    starts {fs = (Word K.Cond ∷ Word K.Do ∷ (m ++ ((us ++ (cs ++ Mark S.RightArrow ∷ (m' ++ (a.us ++ Separator ∷ [])))) ++ (xs ++ Mark S.RightArrow ∷ f.0)))) ++ []} st (floor_primary s)
    (body_are (choice_are h (one_choice ka d h' a.derives) (D.tighter (low v) t.derives) f.1) none_yet)
    (at_rest all before ((Word K.Cond ∷ Word K.Do ∷ (m ++ (us ++ (cs ++ Mark S.RightArrow ∷ m')))) ++ ts) xs rest (Mark S.RightArrow ∷ (f.0 ++ after)) sp f.2
    ∙ (ap (λ w. (before ++ ((Word K.Cond ∷ Word K.Do ∷ (m ++ (us ++ (cs ++ Mark S.RightArrow ∷ m')))) ++ w)) ++ (xs ++ Mark S.RightArrow ∷ (f.0 ++ after))) a.is ∙ simp (append_assoc, append-nil))))

end_next : {all before hs ts xs rest : List Token} {s : List Frame} {v : Value} (b : Block) (done : Trees) → Stacked s before → BlockAre b hs → AllAre done ts → ValueIs v xs rest → (after : List Token) → FollowIs N.RightArrow rest after → all ≡ (before ++ (hs ++ ts)) ++ (xs ++ rest)
    → Good all (next_clause b done v s after)
end_next b NoTree st ba aa is after f sp = tt
end_next (Then c) (OneMore x ys) st ba aa is after f sp = tt
end_next (Otherwise c zs) (OneMore x ys) st ba aa is after f sp = tt
end_next (InClause c ks p) (OneMore x ys) st ba aa is after f sp = clause_next x ys st ba aa is after f sp
end_next (InChoice ks c) (OneMore x ys) st ba aa is after f sp = choice_next x ys st ba aa is after f sp
end_next (InFor h) (OneMore x ys) st ba aa is after f sp = tt

end_body : {all before hs ts xs : List Token} {s : List Frame} {v : Value} (rest : List Token) (b : Block) (done : Trees) → Stacked s before → BlockAre b hs → AllAre done ts → ValueIs v xs rest → (n : Next) (after : List Token) → FollowIs n rest after → all ≡ (before ++ (hs ++ ts)) ++ (xs ++ rest)
    → Good all (body n after b done v s)
end_body {all} {s = s} {v} rest b done st ba aa is N.Separator after f sp = good_tree all v.tree (λ t. Want (Body b (OneMore t done) ∷ s) after) (λ t q. body_more t st ba aa (D.tighter (low v) (is.as_tree t q).derives) after f sp)
end_body rest b done st ba aa is N.RightArrow after f sp = end_next b done st ba aa is after f sp
end_body {all} {s = s} {v} rest b done st ba aa is N.Else after f sp = good_tree all v.tree (λ t. else_body b (onto done (one t)) s after) (λ t q. body_else b t st ba aa (D.tighter (low v) (is.as_tree t q).derives) after f sp)
end_body {all} {s = s} {v} rest b done st ba aa is N.End after f sp = good_tree all v.tree (λ t. Have s (made (block_tree b (onto done (one t))) primary_level) after) (λ t q. body_end t st ba aa (D.tighter (low v) (is.as_tree t q).derives) after f sp)
end_body rest b done st ba aa is n after f sp = tt

-- `case` and `cond`
end_subject : {all before xs : List Token} {s : List Frame} {c : Tree} {g : End} (rest : List Token) → Stacked s before → Derives 0 g xs c → (n : Next) (after : List Token) → FollowIs n rest after → all ≡ (before ++ (Word K.Case ∷ [])) ++ (xs ++ rest) → Good all (subject n after c s)
end_subject {all} {before} {xs} {s} rest st d N.Do after f sp = starts {fs = Word K.Case ∷ (xs ++ Word K.Do ∷ f.0)} st (floor_primary s) (first_pattern_are d f.1)
    (at_rest all before (Word K.Case ∷ []) xs rest (Word K.Do ∷ (f.0 ++ after)) sp f.2 ∙ simp append_assoc)
end_subject rest st d n after f sp = tt

end_first_pattern : {all before cs sep xs : List Token} {s : List Frame} {c : Tree} {p : Pattern} {g : End} (rest : List Token) → Stacked s before → Derives 0 g cs c → MaySeparate sep → IsPattern xs p → (n : Next) (after : List Token) → FollowIs n rest after
    → all ≡ (before ++ (Word K.Case ∷ (cs ++ Word K.Do ∷ sep))) ++ (xs ++ rest) → Good all (first_pattern n after c p s)
end_first_pattern {all} {before} {cs} {sep} {xs} {s} rest st d m pa N.RightArrow after f sp = starts {fs = (Word K.Case ∷ (cs ++ Word K.Do ∷ (sep ++ ([] ++ (xs ++ Mark S.RightArrow ∷ f.0))))) ++ []} st (floor_primary s) (body_are (clause_are d m no_clause pa f.1) none_yet)
    (at_rest all before (Word K.Case ∷ (cs ++ Word K.Do ∷ sep)) xs rest (Mark S.RightArrow ∷ (f.0 ++ after)) sp f.2 ∙ simp (append_assoc, append-nil))
end_first_pattern rest st d m pa n after f sp = tt

end_first_condition : {all before sep xs : List Token} {s : List Frame} {c : Tree} {g : End} (rest : List Token) → Stacked s before → MaySeparate sep → Derives 0 g xs c → (n : Next) (after : List Token) → FollowIs n rest after
    → all ≡ (before ++ (Word K.Cond ∷ Word K.Do ∷ sep)) ++ (xs ++ rest) → Good all (first_condition n after c s)
end_first_condition {all} {before} {sep} {xs} {s} rest st m d N.RightArrow after f sp = starts {fs = (Word K.Cond ∷ Word K.Do ∷ (sep ++ ([] ++ (xs ++ Mark S.RightArrow ∷ f.0)))) ++ []} st (floor_primary s) (body_are (choice_are m no_choice d f.1) none_yet)
    (at_rest all before (Word K.Cond ∷ Word K.Do ∷ sep) xs rest (Mark S.RightArrow ∷ (f.0 ++ after)) sp f.2 ∙ simp (append_assoc, append-nil))
end_first_condition rest st m d n after f sp = tt

-- `for`
end_for_pattern : {all before xs : List Token} {s : List Frame} {p : Pattern} (rest : List Token) → Stacked s before → IsPattern xs p → (n : Next) (after : List Token) → FollowIs n rest after → all ≡ (before ++ (Word K.For ∷ [])) ++ (xs ++ rest) → Good all (for_pattern n after p s)
end_for_pattern {all} {before} {xs} {s} rest st d N.LeftArrow after f sp = starts {fs = Word K.For ∷ (xs ++ Mark S.LeftArrow ∷ [])} st (floor_primary s) (for_source_are d)
    (at_rest all before (Word K.For ∷ []) xs rest (Mark S.LeftArrow ∷ after) sp f ∙ simp append_assoc)
end_for_pattern rest st d n after f sp = tt

good_after_part : {all before ts : List Token} {s : List Frame} {h : Head} (rest : List Token) → Stacked s before → HeadAre h ts → (n : Next) (after : List Token) → FollowIs n rest after → all ≡ before ++ (ts ++ rest) → Good all (after_part n after h s)
good_after_part {all} {before} {ts} {s} rest st h N.Comma after f sp = starts {fs = ts ++ Mark S.Comma ∷ []} st (floor_primary s) (part_are h) (sp ∙ (ap (λ w. before ++ (ts ++ w)) f ∙ simp append_assoc))
good_after_part {all} {before} {ts} {s} rest st h N.CommaDo after f sp = starts {fs = ts ++ Mark S.Comma ∷ Key do_key ∷ []} st (floor_primary s) (do_for_are h) (sp ∙ (ap (λ w. before ++ (ts ++ w)) f ∙ simp append_assoc))
good_after_part {all} {before} {ts} {s} rest st h N.Do after f sp = starts {fs = (ts ++ Word K.Do ∷ f.0) ++ []} st (floor_primary s) (body_are (for_are h f.1) none_yet) (sp ∙ (ap (λ w. before ++ (ts ++ w)) f.2 ∙ simp (append_assoc, append-nil)))
good_after_part rest st h n after f sp = tt

head_filter : {h : Head} {ts fs : List Token} {f : Tree} {g : End} → HeadAre h ts → Derives 0 g fs f → HeadAre (and_filter h f) (ts ++ Mark S.Comma ∷ fs)
head_filter {h} {fs = fs} {f} (head_are {ps = ps} {gs} {rs} p g r) d =
    let e : Word K.For ∷ (ps ++ Mark S.LeftArrow ∷ (gs ++ (rs ++ Mark S.Comma ∷ fs))) ≡ (Word K.For ∷ (ps ++ Mark S.LeftArrow ∷ (gs ++ rs))) ++ Mark S.Comma ∷ fs = simp append_assoc in
    subst (λ w. HeadAre (and_filter h f) w) e (head_are p g (one_filter r d))

head_generator : {h : Head} {ts qs us : List Token} {q : Pattern} {u : Tree} {g : End} → HeadAre h ts → IsPattern qs q → Derives 0 g us u → HeadAre (and_generator h q u) (ts ++ Mark S.Comma ∷ (qs ++ Mark S.LeftArrow ∷ us))
head_generator {h} {qs = qs} {us} {q} {u} (head_are {ps = ps} {gs} {rs} p g r) dq d =
    let e : Word K.For ∷ (ps ++ Mark S.LeftArrow ∷ (gs ++ (rs ++ Mark S.Comma ∷ (qs ++ Mark S.LeftArrow ∷ us)))) ≡ (Word K.For ∷ (ps ++ Mark S.LeftArrow ∷ (gs ++ rs))) ++ Mark S.Comma ∷ (qs ++ Mark S.LeftArrow ∷ us) = simp append_assoc in
    subst (λ w. HeadAre (and_generator h q u) w) e (head_are p g (one_generator r dq d))

head_source : {p : Pattern} {ps gs : List Token} {g : Tree} {e : End} → IsPattern ps p → Derives 0 e gs g → HeadAre (head p g NoPart) (Word K.For ∷ (ps ++ Mark S.LeftArrow ∷ gs))
head_source {p} {ps} {gs} {g} pa d = subst (λ w. HeadAre (head p g NoPart) (Word K.For ∷ (ps ++ Mark S.LeftArrow ∷ w))) (append-nil gs) (head_are pa d no_part)

end_part : {all before ts xs : List Token} {s : List Frame} {h : Head} (rest : List Token) (v : Value) → Stacked s before → HeadAre h ts → ValueIs v xs rest → (n : Next) (after : List Token) → FollowIs n rest after → all ≡ (before ++ (ts ++ Mark S.Comma ∷ [])) ++ (xs ++ rest) → Good all (part n after h v s)
end_part {all} {before} {ts} {xs} {s} {h} rest v st hd is N.LeftArrow after f sp = good_pattern all v.pattern (λ p. Want (PartSource h p ∷ s) after) (λ p q.
    starts {fs = ts ++ Mark S.Comma ∷ (xs ++ Mark S.LeftArrow ∷ [])} st (floor_primary s) (part_source_are hd (is.as_pattern p q)) (at_rest all before (ts ++ Mark S.Comma ∷ []) xs rest (Mark S.LeftArrow ∷ after) sp f ∙ simp append_assoc))
end_part {all} {before} {ts} {xs} {s} {h} rest v st hd is n after f sp = good_tree all v.tree (λ t. after_part n after (and_filter h t) s) (λ t q.
    good_after_part rest st (head_filter hd (D.tighter (low v) (is.as_tree t q).derives)) n after f (sp ∙ simp append_assoc))

end_do_for : {all before ts xs : List Token} {s : List Frame} {h : Head} {t : Tree} {g : End} (rest : List Token) → Stacked s before → HeadAre h ts → Derives 0 g xs t → Ended g rest → first_infix rest ≡ None → all ≡ (before ++ (ts ++ Mark S.Comma ∷ Key do_key ∷ [])) ++ (xs ++ rest)
    → Good all (Have s (made (for_tree h (one t)) primary_level) rest)
end_do_for {all} {before} {xs = xs} {s} {h} {g = g} rest st (head_are {ps = ps} {gs} {rs} p gd r) d en q sp =
    makes_tree {ws = Word K.For ∷ (ps ++ Mark S.LeftArrow ∷ (gs ++ (rs ++ Mark S.Comma ∷ Key do_key ∷ xs)))} st (floor_primary s) (D.for_do p gd (parts_whole r) d) (reaches_on g rest q en) refl (sp ∙ simp append_assoc)

-- what was begun last goes on
abbrev Quiet : Frame → List Frame → List Token → Type 0
Quiet f s rest = (j : Infix) → first_infix rest ≡ Some j → infix_level j < floor (f ∷ s)

good_end : {all before fs xs : List Token} {s : List Frame} (rest : List Token) (f : Frame) (v : Value) → Stacked s before → floor s ≤ makes f → FrameAre f fs → ValueIs v xs rest → floor (f ∷ s) ≤ v.level → Quiet f s rest → (n : Next) (after : List Token) → (follow rest).next ≡ n → FollowIs n rest after
    → all ≡ (before ++ fs) ++ (xs ++ rest) → Good all (end_by f s v rest n after)
good_end rest (Operand o a) v st le (operand_are d m) is lv q n after hn f sp = end_operand o st le d m is lv sp
good_end rest (Matched p) v st le (matched_are d) is lv q n after hn f sp = end_matched st le d is sp
good_end rest (Prefixed o) v st le prefixed_are is lv q n after hn f sp = end_prefixed o st is lv sp
good_end rest Parens v st le parens_are is lv q n after hn f sp = end_parens st is n after f sp
good_end rest (Items e l) v st le (items_are o ht hp) is lv q n after hn f sp = end_items e st le o ht hp is n after f sp
good_end {all} {s = s} rest (Keyed e xs ks x) v st le (keyed_are o ok ht hk own) is lv q n after hn f sp = good_tree all v.tree (λ t. keyed n after e xs (OneMore (pair x t) ks) s) (λ t h. end_keyed rest x e st le o ok ht hk own (D.tighter (low v) (is.as_tree t h).derives) n after f sp)
good_end rest (Tail l) v st le (tail_are ht hp) is lv q n after hn f sp = end_tail st ht hp is n after f sp
good_end {all} {s = s} rest (InHole bytes hs) v st le (hole_are hh) is lv q n after hn f sp = good_tree all v.tree (λ t. hole (hole_says rest) bytes hs t s rest) (λ t h. end_hole bytes st hh (D.tighter (low v) (is.as_tree t h).derives) (hole_says rest) (hole_says_is rest) sp)
good_end {all} {s = s} rest Condition v st le condition_are is lv q n after hn f sp = good_tree all v.tree (λ c. condition n after c s) (λ t h. end_condition rest st (D.tighter (low v) (is.as_tree t h).derives) n after f sp)
good_end {all} {s = s} rest (DoIf c) v st le (do_if_are d) is lv q n after hn f sp = good_tree all v.tree (λ a. do_if n after c a s rest) (λ t h. let i = is.as_tree t h in end_do_if rest st d (D.tighter (low v) i.derives) i.ended (quiet_zero (first_infix rest) q) n after hn f sp)
good_end {all} {s = s} rest (DoElse c a) v st le (do_else_are d da m) is lv q n after hn f sp = good_tree all v.tree (λ b. Have s (made (E.IfElse c (one a) (one b)) primary_level) rest) (λ t h. let i = is.as_tree t h in end_do_else st d da m (D.tighter (low v) i.derives) i.ended (quiet_zero (first_infix rest) q) sp)
good_end rest (Body b xs) v st le (body_are hb ha) is lv q n after hn f sp = end_body rest b xs st hb ha is n after f sp
good_end {all} {s = s} rest Subject v st le subject_are is lv q n after hn f sp = good_tree all v.tree (λ c. subject n after c s) (λ t h. end_subject rest st (D.tighter (low v) (is.as_tree t h).derives) n after f sp)
good_end {all} {s = s} rest (FirstPattern c) v st le (first_pattern_are d m) is lv q n after hn f sp = good_pattern all v.pattern (λ p. first_pattern n after c p s) (λ p h. end_first_pattern rest st d m (is.as_pattern p h) n after f sp)
good_end {all} {s = s} rest FirstCondition v st le (first_condition_are m) is lv q n after hn f sp = good_tree all v.tree (λ c. first_condition n after c s) (λ t h. end_first_condition rest st m (D.tighter (low v) (is.as_tree t h).derives) n after f sp)
good_end {all} {s = s} rest ForPattern v st le for_pattern_are is lv q n after hn f sp = good_pattern all v.pattern (λ p. for_pattern n after p s) (λ p h. end_for_pattern rest st (is.as_pattern p h) n after f sp)
good_end {all} {s = s} rest (ForSource p) v st le (for_source_are d) is lv q n after hn f sp = good_tree all v.tree (λ g. after_part n after (head p g NoPart) s) (λ t h. good_after_part rest st (head_source d (D.tighter (low v) (is.as_tree t h).derives)) n after f (sp ∙ simp append_assoc))
good_end rest (Part h) v st le (part_are hd) is lv q n after hn f sp = end_part rest v st hd is n after f sp
good_end {all} {s = s} rest (PartSource h p) v st le (part_source_are hd d) is lv q n after hn f sp = good_tree all v.tree (λ g. after_part n after (and_generator h p g) s) (λ t e. good_after_part rest st (head_generator hd d (D.tighter (low v) (is.as_tree t e).derives)) n after f (sp ∙ simp append_assoc))
good_end {all} {s = s} rest (DoFor h) v st le (do_for_are hd) is lv q n after hn f sp = good_tree all v.tree (λ a. Have s (made (for_tree h (one a)) primary_level) rest) (λ t e. let i = is.as_tree t e in end_do_for rest st hd (D.tighter (low v) i.derives) i.ended (quiet_zero (first_infix rest) q) sp)

nothing_before : {before : List Token} → Stacked [] before → before ≡ []
nothing_before bottom = refl

good_ends : (all : List Token) (s : List Frame) (v : Value) (rest : List Token) {before xs : List Token} → Stacked s before → floor s ≤ v.level → ValueIs v xs rest → ((j : Infix) → first_infix rest ≡ Some j → infix_level j < floor s) → all ≡ before ++ (xs ++ rest) → Good all (ends s v rest)
good_ends all [] v rest {before} {xs} st lv is q sp = good_tree all v.tree (λ t. Done t rest) (λ t h. let i = is.as_tree t h in record { xs = xs; e = i.e; derives = D.tighter (low v) i.derives; split = sp ∙ ap (λ w. w ++ (xs ++ rest)) (nothing_before st) })
good_ends all (f ∷ s) v rest (on_top st le h) lv is q sp = good_end rest f v st le h is lv q (follow rest).next (follow rest).rest refl (follow_is rest) sp

good_take_or_end : (all : List Token) (s : List Frame) (v : Value) (rest : List Token) (i : Infix) (b : Bool) → Held all s v rest → first_infix rest ≡ Some i → nat_le (floor s) (infix_level i) ≡ b → Good all (take_or_end b i s v rest)
good_take_or_end all s v rest i true r h e = good_take all s v rest i r h (le_is (floor s) (infix_level i) e)
good_take_or_end all s v rest i false r h e = good_ends all s v rest r.stacked r.admits r.is (λ j q. subst (λ k. infix_level k < floor s) (same i j (sym h ∙ q)) (gt_is (floor s) (infix_level i) e)) r.split
  where
    same : (a b : Infix) → Some a ≡ Some b → a ≡ b
    same a b e = cc

good_have_by : (all : List Token) (s : List Frame) (v : Value) (rest : List Token) (o : Option Infix) → Held all s v rest → first_infix rest ≡ o → Good all (have_by o s v rest)
good_have_by all s v rest None r h = good_ends all s v rest r.stacked r.admits r.is (λ j q. absurd (off j (sym h ∙ q))) r.split
  where
    off : (j : Infix) → None ≡ Some j → ⊥
    off j e = cc
good_have_by all s v rest (Some i) r h = good_take_or_end all s v rest i (nat_le (floor s) (infix_level i)) r h refl

pub good_step : (all : List Token) (st : State) → Good all st → Good all (step st)
good_step all (Want s ts) g = good_want all s ts g
good_step all (Have s v ts) g = good_have_by all s v ts (first_infix ts) g refl
good_step all (Done t ts) g = g
good_step all Stuck g = tt

-- what the machine comes to is good
pub good_reach : (all : List Token) {a b : State} → Reaches a b → Good all a → Good all b
good_reach all here g = g
good_reach all (there {a} r) g = good_reach all r (good_step all a g)

-- the front of the tokens derives the tree that was read
pub front_of : (all : List Token) (t : Tree) (rest : List Token) → Reaches (Want [] all) (Done t rest) → Front all t rest
front_of all t rest r = good_reach all r (record { before = []; stacked = bottom; split = refl })
