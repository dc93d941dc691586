-- What derives is read.
use Rattle.std.proofs.Common.{◌≡◌, ℕ, ◌≤◌, false, List, [], ◌∷◌, ◌++◌, Some, None, refl, sym, ap, ◌∙◌, arith, subst, append_assoc}
use Rattle.ex_grammar.specs.declared.token.Sign.TheVariants as S
use Rattle.ex_grammar.specs.declared.token.Keyword.{Keyword}
use Rattle.ex_grammar.specs.declared.token.Keyword.TheVariants as K
use Rattle.ex_grammar.specs.declared.operators.Infix.TheVariants as I
use Rattle.ex_grammar.specs.declared.operators.Operator.{Operator}
use Rattle.ex_grammar.specs.declared.operators.Prefix.{Prefix}
use Rattle.ex_grammar.specs.declared.operators.Prefix.TheVariants.{Negate, Keep, Not, StrictNot}
use Rattle.ex_grammar.specs.Tokens as T
use Rattle.ex_grammar.specs.Tokens.{Token, Mark, Word, Key, Called, Alias, TextBegins, HoleBegins, HoleEnds, TextEnds, Separator}
use Rattle.ex_grammar.specs.Operators.{level, left, right, infix_token, prefix_token, primary_level, pipe_level, unary_level}
use Rattle.ex_grammar.specs.Patterns as P
use Rattle.ex_grammar.specs.Patterns.{Pattern}
use Rattle.ex_grammar.specs.Trees as E
use Rattle.ex_grammar.specs.Trees.{Tree, Trees, NoTree, OneMore, Holes, NoHole, Clauses, NoClause, Choices, NoChoice, Parts, NoPart, joined}
use Rattle.ex_grammar.specs.Grammar as D
use Rattle.ex_grammar.specs.Grammar.{End, Closed, OpenIf, reaching, else_may_follow, Derives, DerivesCall, DeriveItems, DeriveKeys, DeriveEntries, DeriveHoles, DeriveAll, DerivesBody, DeriveClauses, DeriveChoices, DeriveParts, MaySeparate, without, with, do_key, else_key, is_block_key, is_underscore, is_negation, arguments, pair}
use Rattle.ex_parser.specs.declared.follow.Next.{Next}
use Rattle.ex_parser.specs.declared.follow.Next.TheVariants as N
use Rattle.ex_parser.specs.Follow.{follow, after_separator, first_infix, text_goes, Begun, call_head}
use Rattle.ex_parser.specs.Machine.{part, Value, value, made, plain, negates, prefixed, negative, onto, onto_holes, onto_clauses, onto_choices, onto_parts, Listed, listed, Enclosure, InTuple, InList, InCall, Head, head, Block, Then, Otherwise, InClause, InChoice, InFor, Frame, Operand, Matched, Prefixed, Parens, Items, Keyed, Tail, InHole, Condition, DoIf, DoElse, Body, Subject, FirstPattern, FirstCondition, ForPattern, ForSource, Part, PartSource, DoFor, Want, Have, floor, level_of, enclosed, closed_tree, closed_pattern, then_tree, then_pattern, opened, called, more_items, with_keys, in_parens, one, after_part, and_filter, and_generator, for_tree, block_tree, want_text, hole_goes, step, Reaches, here, there}
use Rattle.ex_parser.proofs.Fronts.{Begins, begins_more, pattern_begins, derives_begin, all_begin, items_begin, clauses_begin, choices_begin, begins_after_comma, own_is_no_block, Calm, calm_comma, calm_key, calm_separator}
use Rattle.ex_parser.proofs.Levels.{StopsBy, infix_back, prefix_back, level_le_left, level_le_right, Stops, stops_tighter, calm_stops, quiet_ends, prefix_ends, may_be_taken}
use Rattle.ex_parser.proofs.Reach.{and_on, on, from, tree_goes, plain_negates, closing, joined_none, skips}
use Rattle.ex_parser.proofs.Shapes.{pattern_read, opens_more, opens_closed, item_shuts, item_goes, item_bars, tail_shuts}
use Rattle.ex_parser.proofs.Comes.{Comes, IsTree, made_tree, comes_by, word_comes, variable_comes, parens_shut, operator_takes, operand_done, pipe_takes, match_takes, match_done, condition_does, condition_begins, do_if_done, do_if_elses, do_else_done, do_for_done, inside, inside_if, else_stops, IsLast, at_end, at_else, body_goes, body_ends, body_elses, last_calm, subject_begins, first_clause, clause_goes, first_choice, choice_goes, for_begins, part_begins, call_wanted, call_negates}

-- all expressions between commas but the last are among the items
pub record ComesAll (e : Enclosure) (l : Listed) (done : Trees) (s : List Frame) (ts rest : List Token) (xs : Trees) : Type 0 where
  pub l' : Listed
  pub done' : Trees
  pub v : Value
  pub t : Tree
  pub reaches : Reaches (Want (Items e l ∷ s) (ts ++ rest)) (Have (Items e l' ∷ s) v rest)
  pub trees : l'.trees ≡ Some done'
  pub tree : v.tree ≡ Some t
  pub whole : (us : Trees) → onto (OneMore t done') us ≡ onto done (joined xs us)

abbrev pub AllCome : Enclosure → Listed → Trees → List Frame → List Token → List Token → Trees → Type 0
AllCome e l done s ts rest NoTree = ts ≡ []
AllCome e l done s ts rest (OneMore x xs) = Begins ts × ComesAll e l done s ts rest (OneMore x xs)

-- the keys but the last are there
pub record KeysCome (e : Enclosure) (xs done : Trees) (s : List Frame) (ts rest : List Token) (ks : Trees) : Type 0 where
  pub some : (k : Tree) × (more : Trees) × (ks ≡ OneMore k more)
  pub x : List ℕ
  pub us : List Token
  pub is : ts ≡ Key x ∷ us
  pub own : is_block_key x ≡ false
  pub y : List ℕ
  pub done' : Trees
  pub v : Value
  pub t : Tree
  pub reaches : Reaches (Want (Keyed e xs done x ∷ s) (us ++ rest)) (Have (Keyed e xs done' y ∷ s) v rest)
  pub tree : v.tree ≡ Some t
  pub whole : onto (OneMore (pair y t) done') NoTree ≡ onto done ks

-- what stands between brackets is there
abbrev pub entry_tree : Enclosure → Trees → Trees → Trees → Tree
entry_tree (InCall x l) done xs ks = E.Call x (onto done (arguments xs ks))
entry_tree e done xs ks = enclosed e (onto done (joined xs ks))

abbrev pub AllowsKeys : Enclosure → Type 0
AllowsKeys InTuple = ⊥
AllowsKeys InList = Unit {0}
AllowsKeys (InCall x l) = Unit {0}

pub record Shuts (e : Enclosure) (l : Listed) (s : List Frame) (ts rest : List Token) (t : Tree) : Type 0 where
  pub v : Value
  pub reaches : Reaches (opened e l s (ts ++ closing e ∷ rest)) (Have s v rest)
  pub is_tree : IsTree v (level_of e) t

more_trees : (l : Listed) (v : Value) (done : Trees) (t : Tree) → l.trees ≡ Some done → v.tree ≡ Some t → (more_items l v).trees ≡ Some (OneMore t done)
more_trees l v done t e f = rw (e, f) refl

shut_tree : (e : Enclosure) (l : Listed) (done : Trees) → l.trees ≡ Some done → IsTree (value (closed_tree e l.trees) (closed_pattern e l.patterns) (level_of e) false) (level_of e) (enclosed e (onto done NoTree))
shut_tree e l done h = record { tree = rw h refl; level = refl; negates = refl }

shut_trees : (e : Enclosure) (l : Listed) (done : Trees) (s : List Frame) (ts rest : List Token) (xs : Trees) → l.trees ≡ Some done → AllCome e l done s ts (closing e ∷ rest) xs → Shuts e l s ts rest (enclosed e (onto done xs))
shut_trees e l done s ts rest NoTree h a = record {
  v = value (closed_tree e l.trees) (closed_pattern e l.patterns) (level_of e) false;
  reaches = rw a (from (opens_closed e l s rest) here);
  is_tree = shut_tree e l done h;
}
shut_trees e l done s ts rest (OneMore x xs) h a =
    let r = a.1 in
    record {
      v = value (closed_tree e (more_items r.l' r.v).trees) (closed_pattern e (more_items r.l' r.v).patterns) (level_of e) false;
      reaches = from (opens_more e l s (ts ++ closing e ∷ rest) (begins_more ts _ a.0)) (and_on r.reaches (on (item_shuts e r.l' s r.v rest) here));
      is_tree = subst (λ ys. IsTree (value (closed_tree e (more_items r.l' r.v).trees) (closed_pattern e (more_items r.l' r.v).patterns) (level_of e) false) (level_of e) (enclosed e ys)) (r.whole NoTree ∙ ap (onto done) (joined_none (OneMore x xs)))
          (shut_tree e (more_items r.l' r.v) (OneMore r.t r.done') (more_trees r.l' r.v r.done' r.t r.trees r.tree));
    }

entry_alone : (e : Enclosure) (done xs : Trees) → enclosed e (onto done xs) ≡ entry_tree e done xs NoTree
entry_alone InTuple done xs = rw (joined_none xs) refl
entry_alone InList done xs = rw (joined_none xs) refl
entry_alone (InCall x l) done xs = refl

-- keys begin
key_first : (e : Enclosure) (l : Listed) (done : Trees) (s : List Frame) (x : List ℕ) (ts : List Token) → AllowsKeys e → l.trees ≡ Some done → is_block_key x ≡ false → step (Want (Items e l ∷ s) (Key x ∷ ts)) ≡ Want (Keyed e done NoTree x ∷ s) ts
key_first InTuple l done s x ts ok h k = absurd ok
key_first InList l done s x ts ok h k = rw (own_is_no_block x k, h) refl
key_first (InCall y n) l done s x ts ok h k = rw (own_is_no_block x k, h) refl

opens_keys : (e : Enclosure) (l : Listed) (s : List Frame) (x : List ℕ) (ts : List Token) → opened e l s (Key x ∷ ts) ≡ Want (Items e l ∷ s) (Key x ∷ ts)
opens_keys e l s x ts = refl

keys_after_item : (e : Enclosure) (l : Listed) (s : List Frame) (v : Value) (x : List ℕ) (ts : List Token) → is_block_key x ≡ false → step (Have (Items e l ∷ s) v (Mark S.Comma ∷ Key x ∷ ts)) ≡ Want (Items e (more_items l v) ∷ s) (Key x ∷ ts)
keys_after_item e l s v x ts k = rw (own_is_no_block x k) refl

key_after_key : (e : Enclosure) (xs done : Trees) (x : List ℕ) (s : List Frame) (v : Value) (t : Tree) (y : List ℕ) (us us' rest : List Token) → us ≡ Key y ∷ us' → is_block_key y ≡ false → v.tree ≡ Some t
    → step (Have (Keyed e xs done x ∷ s) v (Mark S.Comma ∷ (us ++ rest))) ≡ Want (Keyed e xs (OneMore (pair x t) done) y ∷ s) (us' ++ rest)
key_after_key e xs done x s v t y us us' rest is k q = rw (is, own_is_no_block y k, q, own_is_no_block y k) refl

calm_keys : (y : List ℕ) (us us' rest : List Token) → us ≡ Key y ∷ us' → is_block_key y ≡ false → Calm (Mark S.Comma ∷ (us ++ rest))
calm_keys y us us' rest is k = subst (λ w. Calm (Mark S.Comma ∷ (w ++ rest))) (sym is) (calm_key y (us' ++ rest) k)

keys_shut : (e : Enclosure) (xs done : Trees) (x : List ℕ) (s : List Frame) (v : Value) (t : Tree) (rest : List Token) → v.tree ≡ Some t → step (Have (Keyed e xs done x ∷ s) v (closing e ∷ rest)) ≡ Have s (made (with_keys e xs (OneMore (pair x t) done)) (level_of e)) rest
keys_shut InTuple xs done x s v t rest q = rw q refl
keys_shut InList xs done x s v t rest q = rw q refl
keys_shut (InCall y n) xs done x s v t rest q = rw q refl

closing_calm : (e : Enclosure) (rest : List Token) → Calm (closing e ∷ rest)
closing_calm InTuple rest = record { quiet = refl; no_else = λ q. cc }
closing_calm InList rest = record { quiet = refl; no_else = λ q. cc }
closing_calm (InCall x l) rest = record { quiet = refl; no_else = λ q. cc }

-- the keys are the last
arguments_of : (xs ks : Trees) → (k : Tree) × (more : Trees) × (ks ≡ OneMore k more) → arguments xs ks ≡ joined xs (OneMore (E.Items ks) NoTree)
arguments_of xs ks h = rw h.2 refl

entry_keys : (e : Enclosure) (items done xs ks keys : Trees) → AllowsKeys e → ((us : Trees) → onto items us ≡ onto done (joined xs us)) → onto keys NoTree ≡ ks → (k : Tree) × (more : Trees) × (ks ≡ OneMore k more) → with_keys e items keys ≡ entry_tree e done xs ks
entry_keys InTuple items done xs ks keys ok w h some = absurd ok
entry_keys InList items done xs ks keys ok w h some = ap E.Items (ap (onto items) h ∙ w ks)
entry_keys (InCall x l) items done xs ks keys ok w h some =
    ap (E.Call x) (ap (λ u. onto items (OneMore (E.Items u) NoTree)) h ∙ (w (OneMore (E.Items ks) NoTree) ∙ ap (onto done) (sym (arguments_of xs ks some))))

shut_keys_tree : (e : Enclosure) (t u : Tree) → t ≡ u → IsTree (made t (level_of e)) (level_of e) u
shut_keys_tree e t u h = record { tree = ap Some h; level = refl; negates = refl }

keys_shuts : (e : Enclosure) (l : Listed) (done : Trees) (s : List Frame) (ts rest : List Token) (ks : Trees) → AllowsKeys e → l.trees ≡ Some done → KeysCome e done NoTree s ts (closing e ∷ rest) ks → Shuts e l s ts rest (entry_tree e done NoTree ks)
keys_shuts e l done s ts rest ks ok h k = record {
  v = made (with_keys e done (OneMore (pair k.y k.t) k.done')) (level_of e);
  reaches = rw k.is (on (key_first e l done s k.x (k.us ++ closing e ∷ rest) ok h k.own) (and_on k.reaches (on (keys_shut e done k.done' k.y s k.v k.t rest k.tree) here)));
  is_tree = shut_keys_tree e _ _ (entry_keys e done done NoTree ks (OneMore (pair k.y k.t) k.done') ok (λ us. refl) k.whole k.some);
}

items_keys_shut : (e : Enclosure) (l : Listed) (done : Trees) (s : List Frame) (ts us rest : List Token) (x : Tree) (xs ks : Trees) → AllowsKeys e → l.trees ≡ Some done → (a : AllCome e l done s ts (Mark S.Comma ∷ (us ++ closing e ∷ rest)) (OneMore x xs))
    → KeysCome e (OneMore a.1.t a.1.done') NoTree s us (closing e ∷ rest) ks → Shuts e l s (ts ++ Mark S.Comma ∷ us) rest (entry_tree e done (OneMore x xs) ks)
items_keys_shut e l done s ts us rest x xs ks ok h a k =
    let r = a.1 in
    let items : Trees = OneMore r.t r.done' in
    record {
      v = made (with_keys e items (OneMore (pair k.y k.t) k.done')) (level_of e);
      reaches = rw (append_assoc ts (Mark S.Comma ∷ us) (closing e ∷ rest))
          (from (opens_more e l s (ts ++ Mark S.Comma ∷ (us ++ closing e ∷ rest)) (begins_more ts _ a.0))
          (and_on r.reaches (on (next r.l' r.v) (on (key_first e (more_items r.l' r.v) items s k.x (k.us ++ closing e ∷ rest) ok (more_trees r.l' r.v r.done' r.t r.trees r.tree) k.own)
          (and_on k.reaches (on (keys_shut e items k.done' k.y s k.v k.t rest k.tree) here))))));
      is_tree = shut_keys_tree e _ _ (entry_keys e items done (OneMore x xs) ks (OneMore (pair k.y k.t) k.done') ok r.whole k.whole k.some);
    }
  where
    next : (l' : Listed) (v : Value) → step (Have (Items e l' ∷ s) v (Mark S.Comma ∷ (us ++ closing e ∷ rest))) ≡ Want (Items e (more_items l' v) ∷ s) (Key k.x ∷ (k.us ++ closing e ∷ rest))
    next l' v = subst (λ w. step (Have (Items e l' ∷ s) v (Mark S.Comma ∷ (w ++ closing e ∷ rest))) ≡ Want (Items e (more_items l' v) ∷ s) (Key k.x ∷ (k.us ++ closing e ∷ rest))) (sym k.is) (keys_after_item e l' s v k.x (k.us ++ closing e ∷ rest) k.own)

-- a call
pub record CallIs (l : ℕ) (done : Trees) (s : List Frame) (rest : List Token) (begun : Begun) (x : List ℕ) (xs : Trees) : Type 0 where
  pub v : Value
  pub reaches : Reaches (called begun l done s) (Have s v rest)
  pub is_tree : IsTree v l (E.Call x (onto done xs))

pub record CallComes (ts rest : List Token) (x : List ℕ) (xs : Trees) : Type 0 where
  pub begun : Begun
  pub head : call_head (ts ++ rest) ≡ Some begun
  pub comes : (l : ℕ) (done : Trees) (s : List Frame) → CallIs l done s rest begun x xs

call_is : (l : ℕ) (done : Trees) (s : List Frame) (ts rest : List Token) (x : List ℕ) (xs ks : Trees) → Shuts (InCall x l) (listed (Some done) None) s ts rest (entry_tree (InCall x l) done xs ks)
    → CallIs l done s rest (record { name = x; rest = (ts ++ Mark S.CloseParen ∷ []) ++ rest }) x (arguments xs ks)
call_is l done s ts rest x xs ks h = record { v = h.v; reaches = rw (append_assoc ts (Mark S.CloseParen ∷ []) rest) h.reaches; is_tree = h.is_tree }

plain_head : (x : List ℕ) (ts : List Token) → is_underscore x ≡ false → call_head (Called x ∷ Mark S.OpenParen ∷ ts) ≡ Some (record { name = x; rest = ts })
plain_head x ts u = rw u refl

alias_head : (a x : List ℕ) (ts : List Token) → is_underscore x ≡ false → call_head (Alias a ∷ Mark S.Dot ∷ Called x ∷ Mark S.OpenParen ∷ ts) ≡ Some (record { name = a ++ 46 ∷ x; rest = ts })
alias_head a x ts u = rw u refl

-- a text
pub record TextComes (bytes : List ℕ) (s : List Frame) (ts rest : List Token) (hs : Holes) : Type 0 where
  pub v : Value
  pub reaches : Reaches (want_text (text_goes (ts ++ TextEnds ∷ rest)) bytes s (ts ++ TextEnds ∷ rest)) (Have s v rest)
  pub is_tree : IsTree v primary_level (E.Text bytes hs)

hole_shuts : (bytes : List ℕ) (hs : Holes) (s : List Frame) (v : Value) (t : Tree) (more : List ℕ) (ts : List Token) → v.tree ≡ Some t → step (Have (InHole bytes hs ∷ s) v (HoleEnds more ∷ ts)) ≡ hole_goes (text_goes ts) bytes (E.Hole t more hs) s ts
hole_shuts bytes hs s v t more ts e = rw e refl

hole_calm : (more : List ℕ) (ts : List Token) → Calm (HoleEnds more ∷ ts)
hole_calm more ts = record { quiet = refl; no_else = λ q. cc }

-- a body
pub record BodyGoes (b : Block) (done : Trees) (s : List Frame) (ts rest : List Token) (xs : Trees) : Type 0 where
  pub done' : Trees
  pub v : Value
  pub t : Tree
  pub reaches : Reaches (Want (Body b done ∷ s) (ts ++ rest)) (Have (Body b done' ∷ s) v rest)
  pub tree : v.tree ≡ Some t
  pub whole : onto (OneMore t done') NoTree ≡ onto done xs

pub record BodyComes (b : Block) (s : List Frame) (ts : List Token) (k : Keyword) (rest : List Token) (xs : Trees) : Type 0 where
  pub done' : Trees
  pub v : Value
  pub t : Tree
  pub sep : List Token
  pub separates : MaySeparate sep
  pub reaches : Reaches (Want (Body b NoTree ∷ s) (after_separator (ts ++ Word k ∷ rest))) (Have (Body b done' ∷ s) v (sep ++ Word k ∷ rest))
  pub tree : v.tree ≡ Some t
  pub whole : onto (OneMore t done') NoTree ≡ xs

-- clauses
abbrev pub Opens : Frame → Tree → Clauses → List Frame → Type 0
Opens f c done s = (v : Value) (p : Pattern) (ts : List Token) → v.pattern ≡ Some p → step (Have (f ∷ s) v (Mark S.RightArrow ∷ ts)) ≡ Want (Body (InClause c done p) NoTree ∷ s) (after_separator ts)

pub record ClausesCome (f : Frame) (c : Tree) (done : Clauses) (s : List Frame) (ts rest : List Token) (ks : Clauses) : Type 0 where
  pub done' : Clauses
  pub p : Pattern
  pub xs : Trees
  pub v : Value
  pub t : Tree
  pub reaches : Reaches (Want (f ∷ s) (ts ++ rest)) (Have (Body (InClause c done' p) xs ∷ s) v rest)
  pub tree : v.tree ≡ Some t
  pub whole : onto_clauses done' (E.Clause p (onto xs (one t)) NoClause) ≡ onto_clauses done ks

abbrev pub Chooses : Frame → Choices → List Frame → Type 0
Chooses f done s = (v : Value) (c : Tree) (ts : List Token) → v.tree ≡ Some c → step (Have (f ∷ s) v (Mark S.RightArrow ∷ ts)) ≡ Want (Body (InChoice done c) NoTree ∷ s) (after_separator ts)

pub record ChoicesCome (f : Frame) (done : Choices) (s : List Frame) (ts rest : List Token) (ks : Choices) : Type 0 where
  pub done' : Choices
  pub c : Tree
  pub xs : Trees
  pub v : Value
  pub t : Tree
  pub reaches : Reaches (Want (f ∷ s) (ts ++ rest)) (Have (Body (InChoice done' c) xs ∷ s) v rest)
  pub tree : v.tree ≡ Some t
  pub whole : onto_choices done' (E.Choice c (onto xs (one t)) NoChoice) ≡ onto_choices done ks

-- the parts of a `for`: what was read ends a part
abbrev pub EndsPart : Frame → Value → Head → List Frame → Type 0
EndsPart f v h s = (ts : List Token) → first_infix ts ≡ None → ((follow ts).next ≡ N.LeftArrow → ⊥) → step (Have (f ∷ s) v ts) ≡ after_part (follow ts).next (follow ts).rest h s

pub record PartsCome (f : Frame) (v : Value) (h : Head) (s : List Frame) (ts rest : List Token) (parts : Parts) : Type 0 where
  pub f' : Frame
  pub v' : Value
  pub h' : Head
  pub ends_part : EndsPart f' v' h' s
  pub reaches : Reaches (Have (f ∷ s) v (ts ++ rest)) (Have (f' ∷ s) v' rest)
  pub pattern : h'.pattern ≡ h.pattern
  pub source : h'.source ≡ h.source
  pub whole : onto_parts h'.parts NoPart ≡ onto_parts h.parts parts

source_ends : (p : Pattern) (s : List Frame) (v : Value) (g : Tree) → v.tree ≡ Some g → EndsPart (ForSource p) v (head p g NoPart) s
source_ends p s v g e ts q n = quiet_ends (ForSource p ∷ s) v ts q ∙ tree_goes v.tree g (λ g. after_part (follow ts).next (follow ts).rest (head p g NoPart) s) e

part_source_ends : (h : Head) (p : Pattern) (s : List Frame) (v : Value) (g : Tree) → v.tree ≡ Some g → EndsPart (PartSource h p) v (and_generator h p g) s
part_source_ends h p s v g e ts q n = quiet_ends (PartSource h p ∷ s) v ts q ∙ tree_goes v.tree g (λ g. after_part (follow ts).next (follow ts).rest (and_generator h p g) s) e

filter_by : (n : Next) (ts : List Token) (h : Head) (v : Value) (f : Tree) (s : List Frame) → (n ≡ N.LeftArrow → ⊥) → v.tree ≡ Some f → part n ts h v s ≡ after_part n ts (and_filter h f) s
filter_by N.LeftArrow ts h v f s n e = absurd (n refl)
filter_by m ts h v f s n e = tree_goes v.tree f (λ f. after_part m ts (and_filter h f) s) e

filter_ends : (h : Head) (s : List Frame) (v : Value) (f : Tree) → v.tree ≡ Some f → EndsPart (Part h) v (and_filter h f) s
filter_ends h s v f e ts q n = quiet_ends (Part h ∷ s) v ts q ∙ filter_by (follow ts).next (follow ts).rest h v f s n e

parts_calm : {ts : List Token} {parts : Parts} → DeriveParts ts parts → (rest : List Token) → Calm rest → Calm (ts ++ rest)
parts_calm D.no_part rest c = c
parts_calm (D.generator {ps = ps} {gs = gs} {rs = rs} p g r) rest c = calm_comma _ (begins_more (ps ++ Mark S.LeftArrow ∷ (gs ++ rs)) rest (begins_more ps _ (pattern_begins p)))
parts_calm (D.filter {fs = fs} {rs = rs} f r) rest c = calm_comma _ (begins_more (fs ++ rs) rest (begins_more fs rs (derives_begin f)))

part_goes : (f : Frame) (v : Value) (h : Head) (s : List Frame) (ts : List Token) → EndsPart f v h s → Begins ts → step (Have (f ∷ s) v (Mark S.Comma ∷ ts)) ≡ Want (Part h ∷ s) ts
part_goes f v h s ts e b = e (Mark S.Comma ∷ ts) refl (λ q. off (sym (ap (λ w. w.next) (begins_after_comma ts b)) ∙ q)) ∙ ap (λ w. after_part w.next w.rest h s) (begins_after_comma ts b)
  where
    off : N.Comma ≡ N.LeftArrow → ⊥
    off e = cc

part_does : (f : Frame) (v : Value) (h : Head) (s : List Frame) (ts : List Token) → EndsPart f v h s → step (Have (f ∷ s) v (Mark S.Comma ∷ Key do_key ∷ ts)) ≡ Want (DoFor h ∷ s) ts
part_does f v h s ts e = e (Mark S.Comma ∷ Key do_key ∷ ts) refl (λ q. cc)

part_blocks : (f : Frame) (v : Value) (h : Head) (s : List Frame) (ts : List Token) → EndsPart f v h s → step (Have (f ∷ s) v (Word K.Do ∷ ts)) ≡ Want (Body (InFor h) NoTree ∷ s) (after_separator ts)
part_blocks f v h s ts e = e (Word K.Do ∷ ts) refl (λ q. cc)

pub for_is : (h : Head) (p : Pattern) (g : Tree) (parts : Parts) (xs : Trees) → h.pattern ≡ p → h.source ≡ g → onto_parts h.parts NoPart ≡ parts → for_tree h xs ≡ E.For p g parts xs
for_is h p g parts xs a b c = rw (a, b, c) refl

prefix_wants : (o : Prefix) (s : List Frame) (ts : List Token) → step (Want s (prefix_token o ∷ ts)) ≡ Want (Prefixed o ∷ s) ts
prefix_wants o s ts = rw (prefix_back o) refl

pub prefix_negates : (o : Prefix) (ts : List Token) (t : Tree) → negates o ≡ is_negation (prefix_token o ∷ ts) (E.Prefixed o t)
prefix_negates Negate ts t = refl
prefix_negates Keep ts t = refl
prefix_negates Not ts t = refl
prefix_negates StrictNot ts t = refl

operator_stops : (l : ℕ) (o : Operator) (ts : List Token) → left o ≤ l → Stops l Closed (infix_token (I.Operator o) ∷ ts)
operator_stops l o ts h = record { before = subst (λ i. StopsBy i l Closed) (sym (infix_back o)) (h, refl); may_else = λ q. refl }

pub le_self : (n : ℕ) → n ≤ n
le_self n = omega arith

-- the trees of blocks whose bodies are known
is_if : (c : Tree) (xs ys : Trees) → xs ≡ ys → IsTree (made (E.If c xs) primary_level) primary_level (E.If c ys)
is_if c xs ys e = record { tree = ap (λ zs. Some (E.If c zs)) e; level = refl; negates = refl }

is_if_else : (c : Tree) (xs ys us vs : Trees) → xs ≡ ys → us ≡ vs → IsTree (made (E.IfElse c xs us) primary_level) primary_level (E.IfElse c ys vs)
is_if_else c xs ys us vs e f = record { tree = rw (e, f) refl; level = refl; negates = refl }

is_case : (c : Tree) (js ks : Clauses) → js ≡ ks → IsTree (made (E.Case c js) primary_level) primary_level (E.Case c ks)
is_case c js ks e = record { tree = ap (λ zs. Some (E.Case c zs)) e; level = refl; negates = refl }

is_cond : (js ks : Choices) → js ≡ ks → IsTree (made (E.Cond js) primary_level) primary_level (E.Cond ks)
is_cond js ks e = record { tree = ap (λ zs. Some (E.Cond zs)) e; level = refl; negates = refl }

is_for : (t : Tree) (p : Pattern) (g : Tree) (parts : Parts) (xs ys : Trees) → t ≡ E.For p g parts xs → xs ≡ ys → IsTree (made t primary_level) primary_level (E.For p g parts ys)
is_for t p g parts xs ys e f = record { tree = ap Some (e ∙ ap (E.For p g parts) f); level = refl; negates = refl }

then_is : (l : Listed) (done : Trees) (v : Value) (t : Tree) (xs : Trees) → l.trees ≡ Some done → v.tree ≡ Some t → onto done NoTree ≡ xs → IsTree (plain (then_tree l.trees v.tree) (then_pattern l.patterns v.pattern)) primary_level (E.ItemsThen xs t)
then_is l done v t xs e f w = record { tree = rw (e, f, w) refl; level = refl; negates = refl }

mutual
  pub complete : {l : ℕ} {e : End} {ts : List Token} {t : Tree} → Derives l e ts t → (s : List Frame) (rest : List Token) → floor s ≤ l → Stops l e rest → Comes s ts rest l t
  complete (D.integer {n}) s rest f h = comes_by s (T.Number n ∷ []) rest primary_level (E.Integer n) (plain (Some (E.Integer n)) (Some (P.Integer n))) (record { tree = refl; level = refl; negates = refl }) refl (there here)
  complete (D.atom {x}) s rest f h = comes_by s (T.Atom x ∷ []) rest primary_level (E.Atom x) (plain (Some (E.Atom x)) (Some (P.Atom x))) (record { tree = refl; level = refl; negates = refl }) refl (there here)
  complete (D.word {k} {w} e) s rest f h = word_comes k w s rest e
  complete (D.variable {x} u) s rest f h = variable_comes x s rest u
  complete (D.text {bytes} {ts} {hs} d) s rest f h =
      let c = text_read d bytes s rest in
      comes_by s (TextBegins bytes ∷ (ts ++ TextEnds ∷ [])) rest primary_level (E.Text bytes hs) c.v c.is_tree refl (there (rw (append_assoc ts (TextEnds ∷ []) rest) c.reaches))
  complete (D.parentheses {e} {ts} {t} d) s rest f h =
      let c = complete d (Parens ∷ s) (Mark S.CloseParen ∷ rest) (omega arith) (calm_stops 0 e (Mark S.CloseParen ∷ rest) (closing_calm (InCall [] 0) rest)) in
      comes_by s (Mark S.OpenParen ∷ (ts ++ Mark S.CloseParen ∷ [])) rest primary_level t (in_parens c.v) (record { tree = c.tree; level = refl; negates = refl }) refl
      (there (rw (append_assoc ts (Mark S.CloseParen ∷ []) rest) (and_on c.reaches (on (parens_shut s c.v rest) here))))
  complete (D.tuple {ts} {xs} d) s rest f h =
      let l : Listed = listed (Some NoTree) (Some P.NoPattern) in
      let c = shut_trees InTuple l NoTree s ts rest xs refl (items_read d InTuple l NoTree refl s (Mark S.CloseBrace ∷ rest) (closing_calm InTuple rest)) in
      comes_by s (Mark S.OpenBrace ∷ (ts ++ Mark S.CloseBrace ∷ [])) rest primary_level (E.Tuple xs) c.v c.is_tree refl (there (rw (append_assoc ts (Mark S.CloseBrace ∷ []) rest) c.reaches))
  complete (D.list {ts} {xs} {ks} d) s rest f h =
      let c = entries_read d InList (listed (Some NoTree) (Some P.NoPattern)) NoTree tt refl s rest in
      comes_by s (Mark S.OpenBracket ∷ (ts ++ Mark S.CloseBracket ∷ [])) rest primary_level (E.Items (joined xs ks)) c.v c.is_tree refl (there (rw (append_assoc ts (Mark S.CloseBracket ∷ []) rest) c.reaches))
  complete (D.list_then {e} {ts} {us} {x} {t} {xs} d g) s rest f h =
      let l0 : Listed = listed (Some NoTree) (Some P.NoPattern) in
      let after : List Token = Mark S.Bar ∷ (us ++ Mark S.CloseBracket ∷ rest) in
      let a = items_read d InList l0 NoTree refl s after (record { quiet = refl; no_else = λ q. cc }) in
      let r = a.1 in
      let l : Listed = more_items r.l' r.v in
      let c = complete g (Tail l ∷ s) (Mark S.CloseBracket ∷ rest) (omega arith) (calm_stops 0 e (Mark S.CloseBracket ∷ rest) (closing_calm InList rest)) in
      comes_by s (Mark S.OpenBracket ∷ (ts ++ Mark S.Bar ∷ (us ++ Mark S.CloseBracket ∷ []))) rest primary_level (E.ItemsThen (OneMore x xs) t)
      (plain (then_tree l.trees c.v.tree) (then_pattern l.patterns c.v.pattern)) (then_is l (OneMore r.t r.done') c.v t (OneMore x xs) (more_trees r.l' r.v r.done' r.t r.trees r.tree) c.tree (r.whole NoTree ∙ joined_none (OneMore x xs))) refl
      (there (rw (append_assoc ts (Mark S.Bar ∷ (us ++ Mark S.CloseBracket ∷ [])) rest, append_assoc us (Mark S.CloseBracket ∷ []) rest)
      (from (opens_more InList l0 s (ts ++ after) (begins_more ts after a.0))
      (and_on r.reaches (on (item_bars r.l' s r.v (us ++ Mark S.CloseBracket ∷ rest)) (and_on c.reaches (on (tail_shuts l s c.v rest) here)))))))
  complete (D.call {ts} {x} {xs} d) s rest f h =
      let c = call_read d rest in
      let k = c.comes primary_level NoTree s in
      comes_by s ts rest primary_level (E.Call x xs) k.v k.is_tree (call_negates d xs) (on (call_wanted d s rest c.begun c.head) k.reaches)
  complete (D.if_block {e} {cs} {ts} {c} {as'} d b) s rest f h =
      let tokens : List Token = ts ++ Word K.End ∷ rest in
      let k = complete d (Condition ∷ s) (Word K.Do ∷ tokens) (omega arith) (calm_stops 0 e (Word K.Do ∷ tokens) (record { quiet = refl; no_else = λ q. cc })) in
      let r = body_read b (Then c) s at_end rest in
      comes_by s (Word K.If ∷ (cs ++ Word K.Do ∷ (ts ++ Word K.End ∷ []))) rest primary_level (E.If c as') (made (E.If c (onto r.done' (one r.t))) primary_level) (is_if c (onto r.done' (one r.t)) as' r.whole) refl
      (there (rw (append_assoc cs (Word K.Do ∷ (ts ++ Word K.End ∷ [])) rest, append_assoc ts (Word K.End ∷ []) rest)
      (and_on k.reaches (on (condition_begins s k.v c tokens k.tree) (and_on r.reaches (on (body_ends r.separates (Then c) r.done' s r.v r.t rest r.tree) here))))))
  complete (D.if_else_block {e} {cs} {ts} {us} {c} {as'} {bs} d b g) s rest f h =
      let last : List Token = us ++ Word K.End ∷ rest in
      let tokens : List Token = ts ++ Word K.Else ∷ last in
      let k = complete d (Condition ∷ s) (Word K.Do ∷ tokens) (omega arith) (calm_stops 0 e (Word K.Do ∷ tokens) (record { quiet = refl; no_else = λ q. cc })) in
      let r = body_read b (Then c) s at_else last in
      let q = body_read g (Otherwise c (onto r.done' (one r.t))) s at_end rest in
      comes_by s (Word K.If ∷ (cs ++ Word K.Do ∷ (ts ++ Word K.Else ∷ (us ++ Word K.End ∷ [])))) rest primary_level (E.IfElse c as' bs) (made (E.IfElse c (onto r.done' (one r.t)) (onto q.done' (one q.t))) primary_level)
      (is_if_else c (onto r.done' (one r.t)) as' (onto q.done' (one q.t)) bs r.whole q.whole) refl
      (there (rw (append_assoc cs (Word K.Do ∷ (ts ++ Word K.Else ∷ (us ++ Word K.End ∷ []))) rest, append_assoc ts (Word K.Else ∷ (us ++ Word K.End ∷ [])) rest, append_assoc us (Word K.End ∷ []) rest)
      (and_on k.reaches (on (condition_begins s k.v c tokens k.tree) (and_on r.reaches (on (body_elses r.separates c r.done' s r.v r.t last r.tree)
      (and_on q.reaches (on (body_ends q.separates (Otherwise c (onto r.done' (one r.t))) q.done' s q.v q.t rest q.tree) here))))))))
  complete (D.if_do {e} {f = g} {cs} {ts} {c} {a} d b) s rest f h =
      let tokens : List Token = Mark S.Comma ∷ Key do_key ∷ (ts ++ rest) in
      let k = complete d (Condition ∷ s) tokens (omega arith) (calm_stops 0 e tokens (record { quiet = refl; no_else = λ q. cc })) in
      let r = complete b (DoIf c ∷ s) rest (omega arith) (inside_if primary_level g rest h) in
      comes_by s (Word K.If ∷ (cs ++ Mark S.Comma ∷ Key do_key ∷ ts)) rest primary_level (E.If c (OneMore a NoTree)) (made (E.If c (one a)) primary_level) (made_tree (E.If c (one a)) primary_level) refl
      (there (rw (append_assoc cs (Mark S.Comma ∷ Key do_key ∷ ts) rest)
      (and_on k.reaches (on (condition_does s k.v c (ts ++ rest) k.tree) (and_on r.reaches (on (do_if_done c a s r.v rest h r.tree) here))))))
  complete (D.if_do_else {e} {f = f2} {g} {cs} {ts} {us} {c} {a} {b} d x m y) s rest f h =
      let last : List Token = Mark S.Comma ∷ Key else_key ∷ (us ++ rest) in
      let tokens : List Token = Mark S.Comma ∷ Key do_key ∷ (ts ++ last) in
      let k = complete d (Condition ∷ s) tokens (omega arith) (calm_stops 0 e tokens (record { quiet = refl; no_else = λ q. cc })) in
      let r = complete x (DoIf c ∷ s) last (omega arith) (else_stops f2 (us ++ rest) m) in
      let q = complete y (DoElse c a ∷ s) rest (omega arith) (inside primary_level g rest h) in
      comes_by s (Word K.If ∷ (cs ++ Mark S.Comma ∷ Key do_key ∷ (ts ++ Mark S.Comma ∷ Key else_key ∷ us))) rest primary_level (E.IfElse c (OneMore a NoTree) (OneMore b NoTree)) (made (E.IfElse c (one a) (one b)) primary_level) (made_tree (E.IfElse c (one a) (one b)) primary_level) refl
      (there (rw (append_assoc cs (Mark S.Comma ∷ Key do_key ∷ (ts ++ Mark S.Comma ∷ Key else_key ∷ us)) rest, append_assoc ts (Mark S.Comma ∷ Key else_key ∷ us) rest)
      (and_on k.reaches (on (condition_does s k.v c (ts ++ last) k.tree) (and_on r.reaches (on (do_if_elses c a s r.v (us ++ rest) r.tree) (and_on q.reaches (on (do_else_done c a b g s q.v rest h q.tree) here))))))))
  complete (D.case_block {e} {cs} {ts} {sep} {sep'} {c} {ks} d m g m') s rest f h =
      let last : List Token = sep' ++ Word K.End ∷ rest in
      let tokens : List Token = sep ++ (ts ++ last) in
      let k = complete d (Subject ∷ s) (Word K.Do ∷ tokens) (omega arith) (calm_stops 0 e (Word K.Do ∷ tokens) (record { quiet = refl; no_else = λ q. cc })) in
      let r = clauses_read g (FirstPattern c) c NoClause s last (last_calm m' at_end rest) (λ v p us q. first_clause c s v p us q) in
      comes_by s (Word K.Case ∷ (cs ++ Word K.Do ∷ (sep ++ (ts ++ (sep' ++ Word K.End ∷ []))))) rest primary_level (E.Case c ks) (made (block_tree (InClause c r.done' r.p) (onto r.xs (one r.t))) primary_level) (is_case c (onto_clauses r.done' (E.Clause r.p (onto r.xs (one r.t)) NoClause)) ks r.whole) refl
      (there (rw (append_assoc cs (Word K.Do ∷ (sep ++ (ts ++ (sep' ++ Word K.End ∷ [])))) rest, append_assoc sep (ts ++ (sep' ++ Word K.End ∷ [])) rest, append_assoc ts (sep' ++ Word K.End ∷ []) rest, append_assoc sep' (Word K.End ∷ []) rest)
      (and_on k.reaches (on (subject_begins s k.v c tokens k.tree ∙ ap (Want (FirstPattern c ∷ s)) (skips m (ts ++ last) (begins_more ts last (clauses_begin g)))) (and_on r.reaches (on (body_ends m' (InClause c r.done' r.p) r.xs s r.v r.t rest r.tree) here))))))
  complete (D.cond_block {ts} {sep} {sep'} {ks} m g m') s rest f h =
      let last : List Token = sep' ++ Word K.End ∷ rest in
      let r = choices_read g FirstCondition NoChoice s last (omega arith) (last_calm m' at_end rest) (λ v p us q. first_choice s v p us q) in
      comes_by s (Word K.Cond ∷ Word K.Do ∷ (sep ++ (ts ++ (sep' ++ Word K.End ∷ [])))) rest primary_level (E.Cond ks) (made (block_tree (InChoice r.done' r.c) (onto r.xs (one r.t))) primary_level) (is_cond (onto_choices r.done' (E.Choice r.c (onto r.xs (one r.t)) NoChoice)) ks r.whole) refl
      (there (rw (append_assoc sep (ts ++ (sep' ++ Word K.End ∷ [])) rest, append_assoc ts (sep' ++ Word K.End ∷ []) rest, append_assoc sep' (Word K.End ∷ []) rest)
      (from (ap (Want (FirstCondition ∷ s)) (skips m (ts ++ last) (begins_more ts last (choices_begin g)))) (and_on r.reaches (on (body_ends m' (InChoice r.done' r.c) r.xs s r.v r.t rest r.tree) here)))))
  complete (D.for_block {e} {ps} {gs} {rs} {ts} {p} {g} {parts} {as'} a b c d) s rest f h =
      let tokens : List Token = ts ++ Word K.End ∷ rest in
      let last : List Token = Word K.Do ∷ tokens in
      let calm : Calm last = record { quiet = refl; no_else = λ q. cc } in
      let w = pattern_read a (ForPattern ∷ s) (Mark S.LeftArrow ∷ (gs ++ (rs ++ last))) in
      let k = complete b (ForSource p ∷ s) (rs ++ last) (omega arith) (calm_stops 0 e (rs ++ last) (parts_calm c last calm)) in
      let r = parts_read c (ForSource p) k.v (head p g NoPart) s last calm (source_ends p s k.v g k.tree) in
      let q = body_read d (InFor r.h') s at_end rest in
      comes_by s (Word K.For ∷ (ps ++ Mark S.LeftArrow ∷ (gs ++ (rs ++ Word K.Do ∷ (ts ++ Word K.End ∷ []))))) rest primary_level (E.For p g parts as') (made (for_tree r.h' (onto q.done' (one q.t))) primary_level)
      (is_for (for_tree r.h' (onto q.done' (one q.t))) p g parts (onto q.done' (one q.t)) as' (for_is r.h' p g parts (onto q.done' (one q.t)) r.pattern r.source r.whole) q.whole) refl
      (there (rw (append_assoc ps (Mark S.LeftArrow ∷ (gs ++ (rs ++ Word K.Do ∷ (ts ++ Word K.End ∷ [])))) rest, append_assoc gs (rs ++ Word K.Do ∷ (ts ++ Word K.End ∷ [])) rest, append_assoc rs (Word K.Do ∷ (ts ++ Word K.End ∷ [])) rest, append_assoc ts (Word K.End ∷ []) rest)
      (and_on w.reaches (on (for_begins s w.v p (gs ++ (rs ++ last)) w.pattern) (and_on k.reaches (and_on r.reaches (on (part_blocks r.f' r.v' r.h' s tokens r.ends_part) (and_on q.reaches (on (body_ends q.separates (InFor r.h') q.done' s q.v q.t rest q.tree) here)))))))))
  complete (D.for_do {e} {f = f2} {ps} {gs} {rs} {ts} {p} {g} {a} {parts} x b c d) s rest f h =
      let last : List Token = Mark S.Comma ∷ Key do_key ∷ (ts ++ rest) in
      let calm : Calm last = record { quiet = refl; no_else = λ q. cc } in
      let w = pattern_read x (ForPattern ∷ s) (Mark S.LeftArrow ∷ (gs ++ (rs ++ last))) in
      let k = complete b (ForSource p ∷ s) (rs ++ last) (omega arith) (calm_stops 0 e (rs ++ last) (parts_calm c last calm)) in
      let r = parts_read c (ForSource p) k.v (head p g NoPart) s last calm (source_ends p s k.v g k.tree) in
      let q = complete d (DoFor r.h' ∷ s) rest (omega arith) (inside primary_level f2 rest h) in
      comes_by s (Word K.For ∷ (ps ++ Mark S.LeftArrow ∷ (gs ++ (rs ++ Mark S.Comma ∷ Key do_key ∷ ts)))) rest primary_level (E.For p g parts (OneMore a NoTree)) (made (for_tree r.h' (one a)) primary_level)
      (is_for (for_tree r.h' (one a)) p g parts (one a) (one a) (for_is r.h' p g parts (one a) r.pattern r.source r.whole) refl) refl
      (there (rw (append_assoc ps (Mark S.LeftArrow ∷ (gs ++ (rs ++ Mark S.Comma ∷ Key do_key ∷ ts))) rest, append_assoc gs (rs ++ Mark S.Comma ∷ Key do_key ∷ ts) rest, append_assoc rs (Mark S.Comma ∷ Key do_key ∷ ts) rest)
      (and_on w.reaches (on (for_begins s w.v p (gs ++ (rs ++ last)) w.pattern) (and_on k.reaches (and_on r.reaches (on (part_does r.f' r.v' r.h' s (ts ++ rest) r.ends_part) (and_on q.reaches (on (do_for_done r.h' a f2 s q.v rest h q.tree) here)))))))))
  complete (D.prefixed {o} {e} {ts} {t} d) s rest f h =
      let c = complete d (Prefixed o ∷ s) rest (omega arith) h in
      record {
        v = value (prefixed o c.v.tree) (negative o c.v.pattern) unary_level (negates o);
        reaches = on (prefix_wants o s (ts ++ rest)) (and_on c.reaches (on (prefix_ends o s c.v rest) here));
        tree = ap (prefixed o) c.tree;
        high = omega arith;
        negates = prefix_negates o ts t;
      }
  complete (D.apply {o} {e} {xs} {ys} {a} {b} x m y) s rest f h =
      let c = complete x s (infix_token (I.Operator o) ∷ (ys ++ rest)) (omega (arith, f, level_le_left o)) (operator_stops (left o) o (ys ++ rest) (le_self (left o))) in
      let d = complete y (Operand o a ∷ s) rest (le_self (right o)) (stops_tighter (level o) (right o) e rest (level_le_right o) h) in
      comes_by s (xs ++ infix_token (I.Operator o) ∷ ys) rest (level o) (E.Apply o a b) (made (E.Apply o a b) (level o)) (made_tree (E.Apply o a b) (level o)) (plain_negates (xs ++ infix_token (I.Operator o) ∷ ys) (E.Apply o a b) tt)
      (rw (append_assoc xs (infix_token (I.Operator o) ∷ ys) rest)
      (and_on c.reaches (on (operator_takes o s c.v a (ys ++ rest) c.tree f (may_be_taken o c.v xs a c.high c.negates m)) (and_on d.reaches (on (operand_done o a b e s d.v rest h d.tree) here)))))
  complete (D.pipe {xs} {ys} {a} {x} {bs} d g) s rest f h =
      let c = complete d s (Mark S.Pipe ∷ (ys ++ rest)) f (record { before = (le_self 5, refl); may_else = λ q. refl }) in
      let k = call_read g rest in
      let r = k.comes pipe_level (OneMore a NoTree) s in
      comes_by s (xs ++ Mark S.Pipe ∷ ys) rest pipe_level (E.Call x (OneMore a bs)) r.v r.is_tree (plain_negates (xs ++ Mark S.Pipe ∷ ys) (E.Call x (OneMore a bs)) tt)
      (rw (append_assoc xs (Mark S.Pipe ∷ ys) rest) (and_on c.reaches (on (pipe_takes s c.v a k.begun (ys ++ rest) c.tree f c.high k.head) r.reaches)))
  complete (D.match {e} {xs} {ys} {p} {t} d g) s rest f h =
      let c = pattern_read d s (Mark S.Equals ∷ (ys ++ rest)) in
      let k = complete g (Matched p ∷ s) rest (le_self 0) h in
      comes_by s (xs ++ Mark S.Equals ∷ ys) rest 0 (E.Match p t) (made (E.Match p t) 0) (made_tree (E.Match p t) 0) (plain_negates (xs ++ Mark S.Equals ∷ ys) (E.Match p t) tt)
      (rw (append_assoc xs (Mark S.Equals ∷ ys) rest) (and_on c.reaches (on (match_takes s c.v p (ys ++ rest) c.pattern f) (and_on k.reaches (on (match_done p t e s k.v rest h k.tree) here)))))
  complete (D.tighter {l} {m} {e} {ts} {t} le d) s rest f h =
      let c = complete d s rest (omega (arith, f, le)) (stops_tighter l m e rest le h) in
      record { v = c.v; reaches = c.reaches; tree = c.tree; high = omega (arith, c.high, le); negates = c.negates }

  pub call_read : {ts : List Token} {x : List ℕ} {xs : Trees} → DerivesCall ts x xs → (rest : List Token) → CallComes ts rest x xs
  call_read (D.plain_call {x} {ts} {xs} {ks} u d) rest = record {
    begun = record { name = x; rest = (ts ++ Mark S.CloseParen ∷ []) ++ rest };
    head = plain_head x ((ts ++ Mark S.CloseParen ∷ []) ++ rest) u;
    comes = λ l done s. call_is l done s ts rest x xs ks (entries_read d (InCall x l) (listed (Some done) None) done tt refl s rest);
  }
  call_read (D.alias_call {a} {x} {ts} {xs} {ks} u d) rest = record {
    begun = record { name = a ++ 46 ∷ x; rest = (ts ++ Mark S.CloseParen ∷ []) ++ rest };
    head = alias_head a x ((ts ++ Mark S.CloseParen ∷ []) ++ rest) u;
    comes = λ l done s. call_is l done s ts rest (a ++ 46 ∷ x) xs ks (entries_read d (InCall (a ++ 46 ∷ x) l) (listed (Some done) None) done tt refl s rest);
  }

  pub items_read : {ts : List Token} {xs : Trees} → DeriveItems ts xs → (e : Enclosure) (l : Listed) (done : Trees) → l.trees ≡ Some done → (s : List Frame) (rest : List Token) → Calm rest → AllCome e l done s ts rest xs
  items_read D.no_item e l done h s rest c = refl
  items_read (D.last_item {e = g} {ts} {t} d) e l done h s rest c =
      let r = complete d (Items e l ∷ s) rest (omega arith) (calm_stops 0 g rest c) in
      (derives_begin d, record { l' = l; done' = done; v = r.v; t = t; reaches = r.reaches; trees = h; tree = r.tree; whole = λ us. refl })
  items_read (D.more_items {e = g} {ts} {us} {t} {u} {xs} d ds) e l done h s rest c =
      let begins : Begins (us ++ rest) = begins_more us rest (items_begin ds) in
      let r = complete d (Items e l ∷ s) (Mark S.Comma ∷ (us ++ rest)) (omega arith) (calm_stops 0 g (Mark S.Comma ∷ (us ++ rest)) (calm_comma (us ++ rest) begins)) in
      let a = items_read ds e (more_items l r.v) (OneMore t done) (more_trees l r.v done t h r.tree) s rest c in
      let k = a.1 in (
        begins_more ts _ (derives_begin d),
        record {
          l' = k.l';
          done' = k.done';
          v = k.v;
          t = k.t;
          reaches = rw (append_assoc ts (Mark S.Comma ∷ us) rest) (and_on r.reaches (on (item_goes e l s r.v (us ++ rest) begins) k.reaches));
          trees = k.trees;
          tree = k.tree;
          whole = k.whole;
        },
      )

  pub keys_read : {ts : List Token} {ks : Trees} → DeriveKeys ts ks → (e : Enclosure) (xs done : Trees) (s : List Frame) (rest : List Token) → Calm rest → KeysCome e xs done s ts rest ks
  keys_read (D.last_key {x} {e = g} {ts} {t} own d) e xs done s rest c =
      let r = complete d (Keyed e xs done x ∷ s) rest (omega arith) (calm_stops 0 g rest c) in
      record { some = (pair x t, NoTree, refl); x = x; us = ts; is = refl; own = own; y = x; done' = done; v = r.v; t = t; reaches = r.reaches; tree = r.tree; whole = refl }
  keys_read (D.more_keys {x} {e = g} {ts} {us} {t} {u} {ks} own d ds) e xs done s rest c =
      let k = keys_read ds e xs (OneMore (pair x t) done) s rest c in
      let r = complete d (Keyed e xs done x ∷ s) (Mark S.Comma ∷ (us ++ rest)) (omega arith) (calm_stops 0 g (Mark S.Comma ∷ (us ++ rest)) (calm_keys k.x us k.us rest k.is k.own)) in
      record {
        some = (pair x t, OneMore u ks, refl);
        x = x;
        us = ts ++ Mark S.Comma ∷ us;
        is = refl;
        own = own;
        y = k.y;
        done' = k.done';
        v = k.v;
        t = k.t;
        reaches = rw (append_assoc ts (Mark S.Comma ∷ us) rest) (and_on r.reaches (on (key_after_key e xs done x s r.v t k.x us k.us rest k.is k.own r.tree) k.reaches));
        tree = k.tree;
        whole = k.whole;
      }

  pub entries_read : {ts : List Token} {xs ks : Trees} → DeriveEntries ts xs ks → (e : Enclosure) (l : Listed) (done : Trees) → AllowsKeys e → l.trees ≡ Some done → (s : List Frame) (rest : List Token) → Shuts e l s ts rest (entry_tree e done xs ks)
  entries_read (D.items_alone {ts} {xs} d) e l done ok h s rest =
      let c = shut_trees e l done s ts rest xs h (items_read d e l done h s (closing e ∷ rest) (closing_calm e rest)) in
      record { v = c.v; reaches = c.reaches; is_tree = subst (IsTree c.v (level_of e)) (entry_alone e done xs) c.is_tree }
  entries_read (D.keys_alone {ts} {ks} d) e l done ok h s rest = keys_shuts e l done s ts rest ks ok h (keys_read d e done NoTree s (closing e ∷ rest) (closing_calm e rest))
  entries_read (D.items_keys {ts} {us} {x} {xs} {ks} d k) e l done ok h s rest =
      let first = keys_read k e NoTree NoTree s (closing e ∷ rest) (closing_calm e rest) in
      let a = items_read d e l done h s (Mark S.Comma ∷ (us ++ closing e ∷ rest)) (calm_keys first.x us first.us (closing e ∷ rest) first.is first.own) in
      items_keys_shut e l done s ts us rest x xs ks ok h a (keys_read k e (OneMore a.1.t a.1.done') NoTree s (closing e ∷ rest) (closing_calm e rest))

  pub text_read : {ts : List Token} {hs : Holes} → DeriveHoles ts hs → (bytes : List ℕ) (s : List Frame) (rest : List Token) → TextComes bytes s ts rest hs
  text_read D.no_hole bytes s rest = record { v = plain (Some (E.Text bytes NoHole)) (Some (P.Text bytes)); reaches = here; is_tree = record { tree = refl; level = refl; negates = refl } }
  text_read (D.hole {e} {ts} {us} {t} {bytes = more} {hs} d ds) bytes s rest =
      let after : List Token = HoleEnds more ∷ (us ++ TextEnds ∷ rest) in
      let c = complete d (InHole bytes NoHole ∷ s) after (omega arith) (calm_stops 0 e after (hole_calm more (us ++ TextEnds ∷ rest))) in
      record {
        v = made (E.Text bytes (E.Hole t more hs)) primary_level;
        reaches = rw (append_assoc ts (HoleEnds more ∷ us) (TextEnds ∷ rest)) (and_on c.reaches (on (hole_shuts bytes NoHole s c.v t more (us ++ TextEnds ∷ rest) c.tree) (holes_read ds bytes (E.Hole t more NoHole) s rest)));
        is_tree = made_tree (E.Text bytes (E.Hole t more hs)) primary_level;
      }

  pub holes_read : {ts : List Token} {hs : Holes} → DeriveHoles ts hs → (bytes : List ℕ) (done : Holes) (s : List Frame) (rest : List Token)
      → Reaches (hole_goes (text_goes (ts ++ TextEnds ∷ rest)) bytes done s (ts ++ TextEnds ∷ rest)) (Have s (made (E.Text bytes (onto_holes done hs)) primary_level) rest)
  holes_read D.no_hole bytes done s rest = here
  holes_read (D.hole {e} {ts} {us} {t} {bytes = more} {hs} d ds) bytes done s rest =
      let after : List Token = HoleEnds more ∷ (us ++ TextEnds ∷ rest) in
      let c = complete d (InHole bytes done ∷ s) after (omega arith) (calm_stops 0 e after (hole_calm more (us ++ TextEnds ∷ rest))) in
      rw (append_assoc ts (HoleEnds more ∷ us) (TextEnds ∷ rest)) (and_on c.reaches (on (hole_shuts bytes done s c.v t more (us ++ TextEnds ∷ rest) c.tree) (holes_read ds bytes (E.Hole t more done) s rest)))

  pub all_read : {ts : List Token} {xs : Trees} → DeriveAll ts xs → (b : Block) (done : Trees) (s : List Frame) (rest : List Token) → Calm rest → BodyGoes b done s ts rest xs
  all_read (D.last_one {e} {ts} {t} d) b done s rest c =
      let r = complete d (Body b done ∷ s) rest (omega arith) (calm_stops 0 e rest c) in
      record { done' = done; v = r.v; t = t; reaches = r.reaches; tree = r.tree; whole = refl }
  all_read (D.one_more {e} {ts} {us} {t} {u} {xs} d ds) b done s rest c =
      let r = complete d (Body b done ∷ s) (Separator ∷ (us ++ rest)) (omega arith) (calm_stops 0 e (Separator ∷ (us ++ rest)) (calm_separator (us ++ rest))) in
      let k = all_read ds b (OneMore t done) s rest c in
      record {
        done' = k.done';
        v = k.v;
        t = k.t;
        reaches = rw (append_assoc ts (Separator ∷ us) rest) (and_on r.reaches (on (body_goes b done s r.v t (us ++ rest) (begins_more us rest (all_begin ds)) r.tree) k.reaches));
        tree = k.tree;
        whole = k.whole;
      }

  pub body_read : {ts : List Token} {xs : Trees} → DerivesBody ts xs → (b : Block) (s : List Frame) {k : Keyword} → IsLast k → (rest : List Token) → BodyComes b s ts k rest xs
  body_read (D.body {ts} {sep} {sep'} {xs} m d m') b s {k} last rest =
      let r = all_read d b NoTree s (sep' ++ Word k ∷ rest) (last_calm m' last rest) in
      record {
        done' = r.done';
        v = r.v;
        t = r.t;
        sep = sep';
        separates = m';
        reaches = rw (append_assoc sep (ts ++ sep') (Word k ∷ rest), append_assoc ts sep' (Word k ∷ rest)) (from (ap (Want (Body b NoTree ∷ s)) (skips m (ts ++ (sep' ++ Word k ∷ rest)) (begins_more ts _ (all_begin d)))) r.reaches);
        tree = r.tree;
        whole = r.whole;
      }

  pub clauses_read : {ts : List Token} {ks : Clauses} → DeriveClauses ts ks → (f : Frame) (c : Tree) (done : Clauses) (s : List Frame) (rest : List Token) → Calm rest → Opens f c done s → ClausesCome f c done s ts rest ks
  clauses_read (D.last_clause {ps} {sep} {ts} {p} {xs} d m g) f c done s rest calm opens =
      let w = pattern_read d (f ∷ s) (Mark S.RightArrow ∷ (sep ++ (ts ++ rest))) in
      let r = all_read g (InClause c done p) NoTree s rest calm in
      record {
        done' = done;
        p = p;
        xs = r.done';
        v = r.v;
        t = r.t;
        reaches = rw (append_assoc ps (Mark S.RightArrow ∷ (sep ++ ts)) rest, append_assoc sep ts rest)
            (and_on w.reaches (on (opens w.v p (sep ++ (ts ++ rest)) w.pattern ∙ ap (Want (Body (InClause c done p) NoTree ∷ s)) (skips m (ts ++ rest) (begins_more ts rest (all_begin g)))) r.reaches));
        tree = r.tree;
        whole = ap (λ ys. onto_clauses done (E.Clause p ys NoClause)) r.whole;
      }
  clauses_read (D.more_clauses {ps} {sep} {ts} {us} {p} {xs} {ks} d m g ds) f c done s rest calm opens =
      let after : List Token = Separator ∷ (us ++ rest) in
      let w = pattern_read d (f ∷ s) (Mark S.RightArrow ∷ (sep ++ (ts ++ after))) in
      let r = all_read g (InClause c done p) NoTree s after (calm_separator (us ++ rest)) in
      let k = clauses_read ds (Body (InClause c done p) (OneMore r.t r.done')) c (E.Clause p (onto (OneMore r.t r.done') NoTree) done) s rest calm (λ v q vs e. clause_goes c done p r.t r.done' s v q vs e) in
      record {
        done' = k.done';
        p = k.p;
        xs = k.xs;
        v = k.v;
        t = k.t;
        reaches = rw (append_assoc ps (Mark S.RightArrow ∷ (sep ++ (ts ++ Separator ∷ us))) rest, append_assoc sep (ts ++ Separator ∷ us) rest, append_assoc ts (Separator ∷ us) rest)
            (and_on w.reaches (on (opens w.v p (sep ++ (ts ++ after)) w.pattern ∙ ap (Want (Body (InClause c done p) NoTree ∷ s)) (skips m (ts ++ after) (begins_more ts after (all_begin g))))
            (and_on r.reaches (on (body_goes (InClause c done p) r.done' s r.v r.t (us ++ rest) (begins_more us rest (clauses_begin ds)) r.tree) k.reaches))));
        tree = k.tree;
        whole = k.whole ∙ ap (λ ys. onto_clauses done (E.Clause p ys ks)) r.whole;
      }

  pub choices_read : {ts : List Token} {ks : Choices} → DeriveChoices ts ks → (f : Frame) (done : Choices) (s : List Frame) (rest : List Token) → floor (f ∷ s) ≤ 0 → Calm rest → Chooses f done s → ChoicesCome f done s ts rest ks
  choices_read (D.last_choice {e} {cs} {sep} {ts} {c} {xs} d m g) f done s rest low calm opens =
      let next : List Token = Mark S.RightArrow ∷ (sep ++ (ts ++ rest)) in
      let w = complete d (f ∷ s) next low (calm_stops 0 e next (record { quiet = refl; no_else = λ q. cc })) in
      let r = all_read g (InChoice done c) NoTree s rest calm in
      record {
        done' = done;
        c = c;
        xs = r.done';
        v = r.v;
        t = r.t;
        reaches = rw (append_assoc cs (Mark S.RightArrow ∷ (sep ++ ts)) rest, append_assoc sep ts rest)
            (and_on w.reaches (on (opens w.v c (sep ++ (ts ++ rest)) w.tree ∙ ap (Want (Body (InChoice done c) NoTree ∷ s)) (skips m (ts ++ rest) (begins_more ts rest (all_begin g)))) r.reaches));
        tree = r.tree;
        whole = ap (λ ys. onto_choices done (E.Choice c ys NoChoice)) r.whole;
      }
  choices_read (D.more_choices {e} {cs} {sep} {ts} {us} {c} {xs} {ks} d m g ds) f done s rest low calm opens =
      let after : List Token = Separator ∷ (us ++ rest) in
      let next : List Token = Mark S.RightArrow ∷ (sep ++ (ts ++ after)) in
      let w = complete d (f ∷ s) next low (calm_stops 0 e next (record { quiet = refl; no_else = λ q. cc })) in
      let r = all_read g (InChoice done c) NoTree s after (calm_separator (us ++ rest)) in
      let k = choices_read ds (Body (InChoice done c) (OneMore r.t r.done')) (E.Choice c (onto (OneMore r.t r.done') NoTree) done) s rest (omega arith) calm (λ v q vs e. choice_goes done c r.t r.done' s v q vs e) in
      record {
        done' = k.done';
        c = k.c;
        xs = k.xs;
        v = k.v;
        t = k.t;
        reaches = rw (append_assoc cs (Mark S.RightArrow ∷ (sep ++ (ts ++ Separator ∷ us))) rest, append_assoc sep (ts ++ Separator ∷ us) rest, append_assoc ts (Separator ∷ us) rest)
            (and_on w.reaches (on (opens w.v c (sep ++ (ts ++ after)) w.tree ∙ ap (Want (Body (InChoice done c) NoTree ∷ s)) (skips m (ts ++ after) (begins_more ts after (all_begin g))))
            (and_on r.reaches (on (body_goes (InChoice done c) r.done' s r.v r.t (us ++ rest) (begins_more us rest (choices_begin ds)) r.tree) k.reaches))));
        tree = k.tree;
        whole = k.whole ∙ ap (λ ys. onto_choices done (E.Choice c ys ks)) r.whole;
      }

  pub parts_read : {ts : List Token} {parts : Parts} → DeriveParts ts parts → (f : Frame) (v : Value) (h : Head) (s : List Frame) (rest : List Token) → Calm rest → EndsPart f v h s → PartsCome f v h s ts rest parts
  parts_read D.no_part f v h s rest calm ends_part = record { f' = f; v' = v; h' = h; ends_part = ends_part; reaches = here; pattern = refl; source = refl; whole = refl }
  parts_read (D.generator {e} {ps} {gs} {rs} {p} {g} {parts} a b c) f v h s rest calm ends_part =
      let w = pattern_read a (Part h ∷ s) (Mark S.LeftArrow ∷ (gs ++ (rs ++ rest))) in
      let k = complete b (PartSource h p ∷ s) (rs ++ rest) (omega arith) (calm_stops 0 e (rs ++ rest) (parts_calm c rest calm)) in
      let r = parts_read c (PartSource h p) k.v (and_generator h p g) s rest calm (part_source_ends h p s k.v g k.tree) in
      record {
        f' = r.f';
        v' = r.v';
        h' = r.h';
        ends_part = r.ends_part;
        reaches = rw (append_assoc ps (Mark S.LeftArrow ∷ (gs ++ rs)) rest, append_assoc gs rs rest)
            (on (part_goes f v h s (ps ++ Mark S.LeftArrow ∷ (gs ++ (rs ++ rest))) ends_part (begins_more ps _ (pattern_begins a))) (and_on w.reaches (on (part_begins h s w.v p (gs ++ (rs ++ rest)) w.pattern) (and_on k.reaches r.reaches))));
        pattern = r.pattern;
        source = r.source;
        whole = r.whole;
      }
  parts_read (D.filter {e} {fs} {rs} {f = t} {parts} a c) f v h s rest calm ends_part =
      let k = complete a (Part h ∷ s) (rs ++ rest) (omega arith) (calm_stops 0 e (rs ++ rest) (parts_calm c rest calm)) in
      let r = parts_read c (Part h) k.v (and_filter h t) s rest calm (filter_ends h s k.v t k.tree) in
      record {
        f' = r.f';
        v' = r.v';
        h' = r.h';
        ends_part = r.ends_part;
        reaches = rw (append_assoc fs rs rest) (on (part_goes f v h s (fs ++ (rs ++ rest)) ends_part (begins_more fs _ (derives_begin a))) (and_on k.reaches r.reaches));
        pattern = r.pattern;
        source = r.source;
        whole = r.whole;
      }
