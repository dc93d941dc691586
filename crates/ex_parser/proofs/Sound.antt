-- What is read derives.
use Rattle.std.proofs.Common.{◌≡◌, ℕ, ◌≤◌, Bool, true, false, List, [], ◌∷◌, ◌++◌, Option, Some, None, refl, sym, ap, ◌∙◌, arith, subst, append_assoc}
use Rattle.std.specs.Prelude.{nat_le, not, ◌&&◌}
use Rattle.std.proofs.lemmas.List.{append-nil}
use Rattle.ex_grammar.specs.declared.token.Sign.{Sign}
use Rattle.ex_grammar.specs.declared.token.Sign.TheVariants as S
use Rattle.ex_grammar.specs.declared.token.Keyword.{Keyword}
use Rattle.ex_grammar.specs.declared.token.Keyword.TheVariants as K
use Rattle.ex_grammar.specs.declared.operators.Operator.{Operator}
use Rattle.ex_grammar.specs.declared.operators.Operator.TheVariants.{Member}
use Rattle.ex_grammar.specs.declared.operators.Infix.{Infix}
use Rattle.ex_grammar.specs.declared.operators.Infix.TheVariants as I
use Rattle.ex_grammar.specs.declared.operators.Prefix.{Prefix}
use Rattle.ex_grammar.specs.Tokens as T
use Rattle.ex_grammar.specs.Tokens.{Token, Mark, Word, Key, Called, Alias, TextBegins, HoleBegins, HoleEnds, TextEnds, Separator}
use Rattle.ex_grammar.specs.Operators.{level, left, infix_token, prefix_of, prefix_token, primary_level, pipe_level}
use Rattle.ex_grammar.specs.Patterns as P
use Rattle.ex_grammar.specs.Patterns.{Pattern, Patterns, NoPattern, IsPattern, ArePatterns}
use Rattle.ex_grammar.specs.Trees.{Tree, Trees, NoTree, OneMore}
use Rattle.ex_grammar.specs.Grammar as D
use Rattle.ex_grammar.specs.Grammar.{End, Closed, Open, OpenIf, reaching, Derives, DerivesCall, DeriveItems, DeriveKeys, DeriveEntries, DeriveAll, DerivesBody, MaySeparate, without, with, do_key, else_key, is_block_key, is_underscore, is_negation, may_precede, else_may_follow, arguments, pair}
use Rattle.ex_parser.specs.declared.follow.Bracket.{Bracket}
use Rattle.ex_parser.specs.declared.follow.Bracket.TheVariants.{Paren, Square, Brace}
use Rattle.ex_parser.specs.declared.follow.Next.{Next}
use Rattle.ex_parser.specs.declared.follow.Next.TheVariants as N
use Rattle.ex_parser.specs.declared.follow.TextGoes.{TextGoes}
use Rattle.ex_parser.specs.declared.follow.TextGoes.TheVariants as G
use Rattle.ex_parser.specs.Follow.{follow, first_infix, tail, text_goes, own_key, Begun, call_head}
use Rattle.ex_parser.specs.Machine.{want_own_key, first_keys, want_cond, want_word, want_pinned, want_sign, want_text, first, want_called, want_by, want, take_operand, take_pipe, take_call, take, Value, value, made, plain, onto, onto_patterns, Listed, listed, Enclosure, InTuple, InList, InCall, Frame, Operand, Matched, Prefixed, Items, State, Want, Have, Done, Stuck, with_tree, with_pattern, floor, bracket_of, level_of, same_bracket, closes, enclosed, enclosed_pattern, closed_tree, closed_pattern, shut, open_by, opened, called, name_tree, with_keys, may_take, is_member}
use Rattle.ex_parser.proofs.Levels.{le_is, infix_level, right_high}
use Rattle.ex_parser.proofs.Reach.{NotPrefixed, plain_negates, closing}
use Rattle.ex_parser.proofs.Inverses.{first_infix_is, prefix_inverse, close_sign, FollowIs, follow_is, TextIs, text_is, own_is, HeadIs, call_head_is}
use Rattle.ex_parser.proofs.Stacked.{Stacked, on_top, makes, FrameAre, operand_are, matched_are, prefixed_are, parens_are, items_are, keyed_are, hole_are, condition_are, subject_are, first_condition_are, for_pattern_are, TreesAre, no_tree, PatternsAre, no_pattern, no_key, no_hole, Opener, brace, square, round, piped, opener_items, Ended, TreeIs, ValueIs}

-- the machine has come so far in these tokens
pub record Opened (all : List Token) (s : List Frame) (rest : List Token) : Type 0 where
  pub before : List Token
  pub stacked : Stacked s before
  pub split : all ≡ before ++ rest

pub record Held (all : List Token) (s : List Frame) (v : Value) (rest : List Token) : Type 0 where
  pub before : List Token
  pub xs : List Token
  pub stacked : Stacked s before
  pub admits : floor s ≤ v.level
  pub is : ValueIs v xs rest
  pub split : all ≡ before ++ (xs ++ rest)

pub record Front (all : List Token) (t : Tree) (rest : List Token) : Type 0 where
  pub xs : List Token
  pub e : End
  pub derives : Derives 0 e xs t
  pub split : all ≡ xs ++ rest

abbrev pub Good : List Token → State → Type 0
Good all (Want s rest) = Opened all s rest
Good all (Have s v rest) = Held all s v rest
Good all (Done t rest) = Front all t rest
Good all Stuck = Unit {0}

pub floor_high : (s : List Frame) → floor s ≤ 10
floor_high [] = omega arith
floor_high (Operand o a ∷ s) = right_high o
floor_high (Prefixed o ∷ s) = omega arith
floor_high (f ∷ s) = omega arith

pub floor_primary : (s : List Frame) → floor s ≤ primary_level
floor_primary s = omega (arith, floor_high s)

-- go on where there is a tree, or a pattern
pub good_tree : (all : List Token) (o : Option Tree) (go : Tree → State) → ((t : Tree) → o ≡ Some t → Good all (go t)) → Good all (with_tree o go)
good_tree all None go g = tt
good_tree all (Some t) go g = g t refl

pub good_pattern : (all : List Token) (o : Option Pattern) (go : Pattern → State) → ((p : Pattern) → o ≡ Some p → Good all (go p)) → Good all (with_pattern o go)
good_pattern all None go g = tt
good_pattern all (Some p) go g = g p refl

pub tree_same : (t u : Tree) → Some t ≡ Some u → t ≡ u
tree_same t u e = cc

pub pattern_same : (p q : Pattern) → Some p ≡ Some q → p ≡ q
pattern_same p q e = cc

-- values
pub made_is : {l : ℕ} {e : End} {xs : List Token} {t : Tree} (rest : List Token) → Derives l e xs t → Ended e rest → is_negation xs t ≡ false → ValueIs (made t l) xs rest
made_is {l} {e} {xs} {t} rest d h n = record {
  as_tree = λ u q. subst (λ w. TreeIs l xs w false rest) (tree_same t u q) (record { e = e; derives = d; ended = h; is_negation = sym n });
  as_pattern = λ p q. absurd (off p q);
}
  where
    off : (p : Pattern) → None ≡ Some p → ⊥
    off p q = cc

pub tree_part : {l : ℕ} {xs : List Token} {t : Tree} (rest : List Token) → Derives l Closed xs t → is_negation xs t ≡ false → (u : Tree) → Some t ≡ Some u → TreeIs l xs u false rest
tree_part {l} {xs} {t} rest d n u q = subst (λ w. TreeIs l xs w false rest) (tree_same t u q) (record { e = Closed; derives = d; ended = tt; is_negation = sym n })

pub pattern_part : {xs : List Token} {p : Pattern} → IsPattern xs p → (q : Pattern) → Some p ≡ Some q → IsPattern xs q
pattern_part {xs} {p} d q e = subst (λ r. IsPattern xs r) (pattern_same p q e) d

pub no_tree_part : {l : ℕ} {xs rest : List Token} {b : Bool} (u : Tree) → None ≡ Some u → TreeIs l xs u b rest
no_tree_part u q = absurd (cc)

pub no_pattern_part : {xs : List Token} (q : Pattern) → None ≡ Some q → IsPattern xs q
no_pattern_part q e = absurd (cc)

pub plain_is : {xs : List Token} {t : Tree} {p : Pattern} (rest : List Token) → Derives primary_level Closed xs t → is_negation xs t ≡ false → IsPattern xs p → ValueIs (plain (Some t) (Some p)) xs rest
plain_is rest d n h = record { as_tree = tree_part rest d n; as_pattern = pattern_part h }

-- a frame begins, and something was read
pub starts : {all before fs rest : List Token} {s : List Frame} {f : Frame} → Stacked s before → floor s ≤ makes f → FrameAre f fs → all ≡ before ++ (fs ++ rest) → Opened all (f ∷ s) rest
starts {all} {before} {fs} {rest} st le h e = record { before = before ++ fs; stacked = on_top st le h; split = e ∙ sym (append_assoc before fs rest) }

pub reads : {all before xs rest : List Token} {s : List Frame} {v : Value} → Stacked s before → floor s ≤ v.level → ValueIs v xs rest → all ≡ before ++ (xs ++ rest) → Held all s v rest
reads {all} {before} {xs} st le h e = record { before = before; xs = xs; stacked = st; admits = le; is = h; split = e }

-- what stands after a frame's tokens
pub after_frame : (all before fs more : List Token) → all ≡ (before ++ fs) ++ more → all ≡ before ++ (fs ++ more)
after_frame all before fs more e = e ∙ append_assoc before fs more

-- brackets
pub enclosed_plain : (e : Enclosure) (xs : Trees) → NotPrefixed (enclosed e xs)
enclosed_plain InTuple xs = tt
enclosed_plain InList xs = tt
enclosed_plain (InCall x l) xs = tt

pub with_keys_plain : (e : Enclosure) (xs ks : Trees) → NotPrefixed (with_keys e xs ks)
with_keys_plain InTuple xs ks = tt
with_keys_plain InList xs ks = tt
with_keys_plain (InCall x l) xs ks = tt

pub bracket_same : (b : Bracket) (e : Enclosure) → same_bracket b (bracket_of e) ≡ true → close_sign b ≡ closing e
bracket_same Paren InTuple h = absurd (cc)
bracket_same Paren InList h = absurd (cc)
bracket_same Paren (InCall x l) h = refl
bracket_same Square InTuple h = absurd (cc)
bracket_same Square InList h = refl
bracket_same Square (InCall x l) h = absurd (cc)
bracket_same Brace InTuple h = refl
bracket_same Brace InList h = absurd (cc)
bracket_same Brace (InCall x l) h = absurd (cc)

pub closes_is : (n : Next) (e : Enclosure) (ts us : List Token) → closes n (bracket_of e) ≡ true → FollowIs n ts us → ts ≡ closing e ∷ us
closes_is (N.Close b) e ts us h f = f ∙ ap (λ c. c ∷ us) (bracket_same b e h)
closes_is n e ts us h f = absurd (cc)

pub opener_pattern : {e : Enclosure} {before : Trees} {hs : List Token} → Opener e before hs → {ts : List Token} {ps : Patterns} → ArePatterns ts ps → (p : Pattern) → enclosed_pattern e ps ≡ Some p → IsPattern (hs ++ (ts ++ closing e ∷ [])) p
opener_pattern brace {ts} {ps} d p h = subst (λ q. IsPattern (Mark S.OpenBrace ∷ (ts ++ Mark S.CloseBrace ∷ [])) q) (pattern_same (P.Tuple ps) p h) (P.tuple d)
opener_pattern square {ts} {ps} d p h = subst (λ q. IsPattern (Mark S.OpenBracket ∷ (ts ++ Mark S.CloseBracket ∷ [])) q) (pattern_same (P.Items ps) p h) (P.items d)
opener_pattern (round c) d p h = absurd (cc)
opener_pattern (piped a c) d p h = absurd (cc)

-- what the items so far are, if they are
abbrev TreesIs : Trees → Option Trees → List Token → Type 0
TreesIs before o ts = (done : Trees) → o ≡ Some done → TreesAre before done ts

abbrev PatternsIs : Option Patterns → List Token → Type 0
PatternsIs o ts = (done : Patterns) → o ≡ Some done → PatternsAre done ts

-- the whole bracket
pub record Whole (e : Enclosure) (before : Trees) (l : Listed) (ts : List Token) : Type 0 where
  pub trees : (done : Trees) → l.trees ≡ Some done → (xs : Trees) × DeriveItems ts xs × (onto done NoTree ≡ onto before xs)
  pub patterns : (done : Patterns) → l.patterns ≡ Some done → (ps : Patterns) × ArePatterns ts ps × (onto_patterns done NoPattern ≡ ps)

pub closed_tree_is : (e : Enclosure) (o : Option Trees) (t : Tree) → closed_tree e o ≡ Some t → (done : Trees) × (o ≡ Some done) × (enclosed e (onto done NoTree) ≡ t)
closed_tree_is e None t h = absurd (cc)
closed_tree_is e (Some done) t h = (done, refl, tree_same (enclosed e (onto done NoTree)) t h)

pub closed_pattern_is : (e : Enclosure) (o : Option Patterns) (p : Pattern) → closed_pattern e o ≡ Some p → (done : Patterns) × (o ≡ Some done) × (enclosed_pattern e (onto_patterns done NoPattern) ≡ Some p)
closed_pattern_is e None p h = absurd (cc)
closed_pattern_is e (Some done) p h = (done, refl, h)

pub whole_is : {e : Enclosure} {before : Trees} {hs : List Token} → Opener e before hs → (l : Listed) (ts rest : List Token) → Whole e before l ts → ValueIs (value (closed_tree e l.trees) (closed_pattern e l.patterns) (level_of e) false) (hs ++ (ts ++ closing e ∷ [])) rest
whole_is {e} {before} {hs} o l ts rest w = record {
  as_tree = λ t q.
      let c = closed_tree_is e l.trees t q in
      let d = w.trees c.0 c.1 in
      let same : enclosed e (onto before d.0) ≡ t = ap (enclosed e) (sym d.2) ∙ c.2 in
      subst (λ u. TreeIs (level_of e) (hs ++ (ts ++ closing e ∷ [])) u false rest) same
      (record { e = Closed; derives = opener_items o d.1; ended = tt; is_negation = sym (plain_negates (hs ++ (ts ++ closing e ∷ [])) (enclosed e (onto before d.0)) (enclosed_plain e (onto before d.0))) });
  as_pattern = λ p q.
      let c = closed_pattern_is e l.patterns p q in
      let d = w.patterns c.0 c.1 in
      opener_pattern o d.1 p (ap (enclosed_pattern e) (sym d.2) ∙ c.2);
}

pub good_shut : {all before hs ts rest : List Token} {s : List Frame} {e : Enclosure} {first : Trees} → Stacked s before → floor s ≤ level_of e → Opener e first hs → (l : Listed) → Whole e first l ts → all ≡ before ++ ((hs ++ (ts ++ closing e ∷ [])) ++ rest) → Good all (shut e l s rest)
good_shut {ts = ts} {rest = rest} st le o l w sp = reads st le (whole_is o l ts rest w) sp

-- a bracket opens
good_open_by : {all before hs : List Token} {s : List Frame} {e : Enclosure} {first : Trees} → Stacked s before → floor s ≤ level_of e → Opener e first hs → (l : Listed) → l.trees ≡ Some first → ((done : Patterns) → l.patterns ≡ Some done → done ≡ NoPattern)
    → (ts after : List Token) (b : Bool) → (b ≡ true → ts ≡ closing e ∷ after) → all ≡ before ++ (hs ++ ts) → Good all (open_by b e l s ts after)
good_open_by {all} {before} {hs} {e = e} {first} st le o l tr pa ts after true c sp =
    good_shut {ts = []} st le o l
    (record {
      trees = λ done q. (NoTree, D.no_item, ap (λ v. onto v NoTree) (sym (trees_same first done (sym tr ∙ q))));
      patterns = λ done q. (NoPattern, P.no_pattern, ap (λ v. onto_patterns v NoPattern) (pa done q));
    })
    (sp ∙ (ap (λ v. before ++ (hs ++ v)) (c refl) ∙ ap (λ v. before ++ v) (sym (append_assoc hs (closing e ∷ []) after))))
  where
    trees_same : (a b : Trees) → Some a ≡ Some b → a ≡ b
    trees_same a b q = cc
good_open_by {all} {before} {hs} {first = first} st le o l tr pa ts after false c sp =
    starts {fs = hs ++ []} st le
    (items_are {ts = []} o (λ done q. subst (λ d. TreesAre first d []) (trees_same first done (sym tr ∙ q)) no_tree) (λ done q. subst (λ d. PatternsAre d []) (sym (pa done q)) no_pattern))
    (sp ∙ ap (λ v. before ++ (v ++ ts)) (sym (append-nil hs)))
  where
    trees_same : (a b : Trees) → Some a ≡ Some b → a ≡ b
    trees_same a b q = cc

good_opened : {all before hs : List Token} {s : List Frame} {e : Enclosure} {first : Trees} → Stacked s before → floor s ≤ level_of e → Opener e first hs → (l : Listed) → l.trees ≡ Some first → ((done : Patterns) → l.patterns ≡ Some done → done ≡ NoPattern)
    → (ts : List Token) → all ≡ before ++ (hs ++ ts) → Good all (opened e l s ts)
good_opened {e = e} st le o l tr pa ts sp =
    good_open_by st le o l tr pa ts (follow ts).rest (closes (follow ts).next (bracket_of e)) (λ h. closes_is (follow ts).next e ts (follow ts).rest h (follow_is ts)) sp

no_patterns : (done : Patterns) → None ≡ Some done → done ≡ NoPattern
no_patterns done q = absurd (cc)

first_patterns : (done : Patterns) → Some NoPattern ≡ Some done → done ≡ NoPattern
first_patterns done q = cc

good_called : {all before hs : List Token} {s : List Frame} (b : Begun) (l : ℕ) (first : Trees) → Stacked s before → floor s ≤ l → Opener (InCall b.name l) first hs → all ≡ before ++ (hs ++ b.rest) → Good all (called b l first s)
good_called b l first st le o sp = good_opened st le o (listed (Some first) None) refl no_patterns b.rest sp

-- something is wanted
name_is : (x : List ℕ) (rest : List Token) (u : Bool) → is_underscore x ≡ u → ValueIs (plain (name_tree u x) (Some (P.Named x))) (T.Name x ∷ []) rest
name_is x rest true h = record { as_tree = no_tree_part; as_pattern = pattern_part P.name }
name_is x rest false h = record { as_tree = tree_part rest (D.variable h) refl; as_pattern = pattern_part P.name }

read_one : {all : List Token} {s : List Frame} {v : Value} (t : Token) (ts : List Token) → Opened all s (t ∷ ts) → v.level ≡ primary_level → ValueIs v (t ∷ []) ts → Held all s v ts
read_one {s = s} {v} t ts o l h = reads o.stacked (subst (λ n. floor s ≤ n) (sym l) (floor_primary s)) h o.split

start_one : {all : List Token} {s : List Frame} {f : Frame} (t : Token) (ts : List Token) → Opened all s (t ∷ ts) → makes f ≡ primary_level → FrameAre f (t ∷ []) → Opened all (f ∷ s) ts
start_one {s = s} t ts o l h = starts o.stacked (subst (λ n. floor s ≤ n) (sym l) (floor_primary s)) h o.split

good_keys : {all before us : List Token} {s : List Frame} {l : Listed} (e : Enclosure) (x : List ℕ) (ts : List Token) → Stacked s before → floor s ≤ level_of e → FrameAre (Items e l) us → is_block_key x ≡ false → all ≡ before ++ (us ++ Key x ∷ ts) → Good all (first_keys e l.trees x s ts)
good_keys InTuple x ts st le h own sp = tt
good_keys {all} {before} {s = s} {l} InList x ts st le (items_are {before = begun} {hs = hs} {ts = vs} o tr pa) own sp = of l.trees tr
  where
    of : (o' : Option Trees) → TreesIs begun o' vs → Good all (first_keys InList o' x s ts)
    of None tr = tt
    of (Some done) tr = starts st le (keyed_are o tt (tr done refl) no_key own) (sp ∙ simp append_assoc)
good_keys {all} {before} {s = s} {l} (InCall y n) x ts st le (items_are {before = begun} {hs = hs} {ts = vs} o tr pa) own sp = of l.trees tr
  where
    of : (o' : Option Trees) → TreesIs begun o' vs → Good all (first_keys (InCall y n) o' x s ts)
    of None tr = tt
    of (Some done) tr = starts st le (keyed_are o tt (tr done refl) no_key own) (sp ∙ simp append_assoc)

good_own_key : {all before : List Token} (s : List Frame) (o : Option (List ℕ)) (x : List ℕ) (ts : List Token) → Stacked s before → ((y : List ℕ) → o ≡ Some y → (is_block_key x ≡ false) × (x ≡ y)) → all ≡ before ++ Key x ∷ ts → Good all (want_own_key o s ts)
good_own_key s None x ts st own sp = tt
good_own_key [] (Some y) x ts st own sp = tt
good_own_key {all} (Items e l ∷ s) (Some y) x ts (on_top {before = below} {ts = fs} st le h) own sp =
    let k = own y refl in
    subst (λ z. Good all (first_keys e l.trees z s ts)) k.1 (good_keys e x ts st le h k.0 (after_frame all below fs (Key x ∷ ts) sp))
good_own_key (f ∷ s) (Some y) x ts st own sp = tt

good_cond : {all : List Token} {s : List Frame} (n : Next) (ts us : List Token) → Opened all s (Word K.Cond ∷ ts) → FollowIs n ts us → Good all (want_cond n us s)
good_cond {s = s} N.Do ts us o f = starts o.stacked (floor_primary s) (first_condition_are f.1) (o.split ∙ ap (λ v. o.before ++ Word K.Cond ∷ v) f.2)
good_cond n ts us o f = tt

good_word : (all : List Token) (s : List Frame) (k : Keyword) (ts : List Token) → Opened all s (Word k ∷ ts) → Good all (want_word k s ts)
good_word all s K.True ts o = read_one (Word K.True) ts o refl (plain_is ts (D.word refl) refl (P.word refl))
good_word all s K.False ts o = read_one (Word K.False) ts o refl (plain_is ts (D.word refl) refl (P.word refl))
good_word all s K.Nil ts o = read_one (Word K.Nil) ts o refl (plain_is ts (D.word refl) refl (P.word refl))
good_word all s K.If ts o = start_one (Word K.If) ts o refl condition_are
good_word all s K.Case ts o = start_one (Word K.Case) ts o refl subject_are
good_word all s K.For ts o = start_one (Word K.For) ts o refl for_pattern_are
good_word all s K.Cond ts o = good_cond (follow ts).next ts (follow ts).rest o (follow_is ts)
good_word all s k ts o = tt

good_pinned : (all : List Token) (s : List Frame) (ts : List Token) → Opened all s (Mark S.Caret ∷ ts) → Good all (want_pinned s ts)
good_pinned all s [] o = tt
good_pinned all s (T.Name x ∷ ts) o = reads {xs = Mark S.Caret ∷ T.Name x ∷ []} o.stacked (floor_primary s) (record { as_tree = no_tree_part; as_pattern = pattern_part P.pinned }) o.split
good_pinned all s (t ∷ ts) o = tt

good_sign : (all : List Token) (s : List Frame) (m : Sign) (ts : List Token) → Opened all s (Mark m ∷ ts) → Good all (want_sign m s ts)
good_sign all s S.OpenParen ts o = start_one (Mark S.OpenParen) ts o refl parens_are
good_sign all s S.OpenBrace ts o = good_opened o.stacked (floor_primary s) brace (listed (Some NoTree) (Some NoPattern)) refl first_patterns ts o.split
good_sign all s S.OpenBracket ts o = good_opened o.stacked (floor_primary s) square (listed (Some NoTree) (Some NoPattern)) refl first_patterns ts o.split
good_sign all s S.Caret ts o = good_pinned all s ts o
good_sign all s m ts o = tt

good_text : (all : List Token) (s : List Frame) (g : TextGoes) (bytes : List ℕ) (ts : List Token) → Opened all s (TextBegins bytes ∷ ts) → TextIs g ts → Good all (want_text g bytes s ts)
good_text all s G.Ends bytes ts o h = reads {xs = TextBegins bytes ∷ TextEnds ∷ []} o.stacked (floor_primary s) (plain_is (tail ts) (D.text D.no_hole) refl P.text) (o.split ∙ ap (λ v. o.before ++ TextBegins bytes ∷ v) h)
good_text all s G.Hole bytes ts o h = starts {fs = TextBegins bytes ∷ HoleBegins ∷ []} o.stacked (floor_primary s) (hole_are no_hole) (o.split ∙ ap (λ v. o.before ++ TextBegins bytes ∷ v) h)
good_text all s G.Other bytes ts o h = tt

good_first : (all : List Token) (s : List Frame) (t : Token) (ts : List Token) → Opened all s (t ∷ ts) → Good all (first t s ts)
good_first all s (T.Number n) ts o = read_one (T.Number n) ts o refl (plain_is ts D.integer refl P.integer)
good_first all s (T.Atom x) ts o = read_one (T.Atom x) ts o refl (plain_is ts D.atom refl P.atom)
good_first all s (T.Name x) ts o = read_one (T.Name x) ts o refl (name_is x ts (is_underscore x) refl)
good_first all s (Key x) ts o = good_own_key s (own_key x) x ts o.stacked (own_is x) o.split
good_first all s (Word k) ts o = good_word all s k ts o
good_first all s (Mark m) ts o = good_sign all s m ts o
good_first all s (TextBegins bytes) ts o = good_text all s (text_goes ts) bytes ts o (text_is ts)
good_first all s t ts o = tt

good_want_called : (all : List Token) (s : List Frame) (o : Option Begun) (t : Token) (ts : List Token) → Opened all s (t ∷ ts) → ((b : Begun) → o ≡ Some b → HeadIs (t ∷ ts) b.name b.rest) → Good all (want_called o t s ts)
good_want_called all s None t ts o h = good_first all s t ts o
good_want_called all s (Some b) t ts o h = let i = h b refl in good_called b primary_level NoTree o.stacked (floor_primary s) (round i.begins) (o.split ∙ ap (λ v. o.before ++ v) i.split)

good_want_by : (all : List Token) (s : List Frame) (o : Option Prefix) (t : Token) (ts : List Token) → Opened all s (t ∷ ts) → ((p : Prefix) → o ≡ Some p → t ≡ prefix_token p) → Good all (want_by o t s ts)
good_want_by all s None t ts o h = good_want_called all s (call_head (t ∷ ts)) t ts o (call_head_is (t ∷ ts))
good_want_by all s (Some p) t ts o h = starts {fs = prefix_token p ∷ []} o.stacked (floor_high s) prefixed_are (o.split ∙ ap (λ u. o.before ++ u ∷ ts) (h p refl))

pub good_want : (all : List Token) (s : List Frame) (ts : List Token) → Opened all s ts → Good all (want s ts)
good_want all s [] o = tt
good_want all s (t ∷ ts) o = good_want_by all s (prefix_of t) t ts o (prefix_inverse t)

-- an operator takes what was read
pub closed_before : (e : End) (ts : List Token) (i : Infix) → Ended e ts → first_infix ts ≡ Some i → e ≡ Closed
closed_before Closed ts i h q = refl
closed_before Open ts i h q = absurd (off i (sym h ∙ q))
  where
    off : (i : Infix) → None ≡ Some i → ⊥
    off i q = cc
closed_before OpenIf ts i h q = absurd (off i (sym h.0 ∙ q))
  where
    off : (i : Infix) → None ≡ Some i → ⊥
    off i q = cc

both_true : (a b : Bool) → a && b ≡ true → (a ≡ true) × (b ≡ true)
both_true true true h = (refl, refl)
both_true true false h = absurd (cc)
both_true false b h = absurd (cc)

may_stand : (o : Operator) (ts : List Token) (a : Tree) (n : Bool) → n ≡ is_negation ts a → not (n && is_member o) ≡ true → may_precede ts a o ≡ true
may_stand Member ts a n e h = ap not (sym e) ∙ of n h
  where
    of : (n : Bool) → not (n && true) ≡ true → not n ≡ true
    of true h = h
    of false h = refl
may_stand o ts a n e h = refl

tree_at : {l : ℕ} {e : End} {xs : List Token} {t : Tree} (f : End) → e ≡ f → Derives l e xs t → Derives l f xs t
tree_at {l} {e} {xs} {t} f h d = subst (λ g. Derives l g xs t) h d

good_take_operand : (all : List Token) (s : List Frame) (v : Value) (o : Operator) (a : Tree) (ts : List Token) (b : Bool) → Held all s v ts → first_infix ts ≡ Some (I.Operator o) → floor s ≤ level o → v.tree ≡ Some a → may_take o v ≡ b → Good all (take_operand b o a s (tail ts))
good_take_operand all s v o a ts false r i le q m = tt
good_take_operand all s v o a ts true r i le q m =
    let t = r.is.as_tree a q in
    let b = both_true (nat_le (left o) v.level) (not (v.negates && is_member o)) m in
    starts {fs = r.xs ++ infix_token (I.Operator o) ∷ []} r.stacked le
    (operand_are (D.tighter (le_is (left o) v.level b.0) (tree_at Closed (closed_before t.e ts (I.Operator o) t.ended i) t.derives)) (may_stand o r.xs a v.negates t.is_negation b.1))
    (r.split ∙ (ap (λ w. r.before ++ (r.xs ++ w)) (first_infix_is ts (I.Operator o) i) ∙ ap (λ w. r.before ++ w) (sym (append_assoc r.xs (infix_token (I.Operator o) ∷ []) (tail ts)))))

good_take_pipe : (all : List Token) (s : List Frame) (v : Value) (a : Tree) (ts : List Token) (o : Option Begun) → Held all s v ts → first_infix ts ≡ Some I.Pipe → floor s ≤ 5 → 5 ≤ v.level → v.tree ≡ Some a → ((b : Begun) → o ≡ Some b → HeadIs (tail ts) b.name b.rest) → Good all (take_pipe o a s)
good_take_pipe all s v a ts None r i le lv q h = tt
good_take_pipe all s v a ts (Some b) r i le lv q h =
    let t = r.is.as_tree a q in
    let k = h b refl in
    good_called b pipe_level (OneMore a NoTree) r.stacked le (piped (D.tighter lv (tree_at Closed (closed_before t.e ts I.Pipe t.ended i) t.derives)) k.begins)
    (r.split ∙ (ap (λ w. r.before ++ (r.xs ++ w)) (first_infix_is ts I.Pipe i ∙ ap (λ w. Mark S.Pipe ∷ w) k.split) ∙ ap (λ w. r.before ++ w) (sym (append_assoc r.xs (Mark S.Pipe ∷ k.start) b.rest))))

good_take_call : (all : List Token) (s : List Frame) (v : Value) (a : Tree) (ts : List Token) (b : Bool) → Held all s v ts → first_infix ts ≡ Some I.Pipe → floor s ≤ 5 → nat_le 5 v.level ≡ b → v.tree ≡ Some a → Good all (take_call b a s (tail ts))
good_take_call all s v a ts false r i le lv q = tt
good_take_call all s v a ts true r i le lv q = good_take_pipe all s v a ts (call_head (tail ts)) r i le (le_is 5 v.level lv) q (call_head_is (tail ts))

pub good_take : (all : List Token) (s : List Frame) (v : Value) (ts : List Token) (i : Infix) → Held all s v ts → first_infix ts ≡ Some i → floor s ≤ infix_level i → Good all (take i s v (tail ts))
good_take all s v ts (I.Operator o) r i le = good_tree all v.tree (λ a. take_operand (may_take o v) o a s (tail ts)) (λ a q. good_take_operand all s v o a ts (may_take o v) r i le q refl)
good_take all s v ts I.Match r i le = good_pattern all v.pattern (λ p. Want (Matched p ∷ s) (tail ts)) (λ p q.
    starts {fs = r.xs ++ Mark S.Equals ∷ []} r.stacked le (matched_are (r.is.as_pattern p q))
    (r.split ∙ (ap (λ w. r.before ++ (r.xs ++ w)) (first_infix_is ts I.Match i) ∙ ap (λ w. r.before ++ w) (sym (append_assoc r.xs (Mark S.Equals ∷ []) (tail ts))))))
good_take all s v ts I.Pipe r i le = good_tree all v.tree (λ a. take_call (nat_le pipe_level v.level) a s (tail ts)) (λ a q. good_take_call all s v a ts (nat_le pipe_level v.level) r i le refl q)
