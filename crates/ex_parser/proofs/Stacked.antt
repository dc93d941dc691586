-- What the frames of the machine stand for.
use Rattle.std.proofs.Common.{◌≡◌, ℕ, ◌≤◌, Bool, true, false, List, [], ◌∷◌, ◌++◌, Some, None, refl, subst, append_assoc}
use Rattle.std.proofs.lemmas.List.{append-nil}
use Rattle.ex_grammar.specs.declared.token.Sign.TheVariants as S
use Rattle.ex_grammar.specs.declared.token.Keyword.TheVariants as K
use Rattle.ex_grammar.specs.declared.operators.Operator.{Operator}
use Rattle.ex_grammar.specs.declared.operators.Infix.TheVariants as I
use Rattle.ex_grammar.specs.declared.operators.Prefix.{Prefix}
use Rattle.ex_grammar.specs.Tokens.{Token, Mark, Word, Key, TextBegins, HoleBegins, HoleEnds, Separator}
use Rattle.ex_grammar.specs.Operators.{level, left, infix_token, prefix_token, primary_level, pipe_level, unary_level, match_level}
use Rattle.ex_grammar.specs.Patterns as P
use Rattle.ex_grammar.specs.Patterns.{Pattern, Patterns, NoPattern, IsPattern, ArePatterns}
use Rattle.ex_grammar.specs.Trees as E
use Rattle.ex_grammar.specs.Trees.{Tree, Trees, NoTree, OneMore, Holes, NoHole, Clauses, NoClause, Choices, NoChoice, Parts, NoPart, Generator, Filter, joined}
use Rattle.ex_grammar.specs.Grammar as D
use Rattle.ex_grammar.specs.Grammar.{End, Closed, Open, OpenIf, Derives, DerivesCall, DeriveItems, DeriveKeys, DeriveEntries, DeriveHoles, DeriveAll, DerivesBody, DeriveClauses, DeriveChoices, DeriveParts, MaySeparate, do_key, else_key, is_block_key, is_negation, may_precede, else_may_follow, arguments, pair}
use Rattle.ex_parser.specs.declared.follow.Next.TheVariants as N
use Rattle.ex_parser.specs.Follow.{follow, first_infix}
use Rattle.ex_parser.specs.Machine.{Value, onto, onto_patterns, onto_holes, onto_clauses, onto_choices, onto_parts, Listed, Enclosure, InTuple, InList, InCall, Head, Block, Then, Otherwise, InClause, InChoice, InFor, Frame, Operand, Matched, Prefixed, Parens, Items, Keyed, Tail, InHole, Condition, DoIf, DoElse, Body, Subject, FirstPattern, FirstCondition, ForPattern, ForSource, Part, PartSource, DoFor, floor, level_of, enclosed}
use Rattle.ex_parser.proofs.Reach.{closing, joined_none}
use Rattle.ex_parser.proofs.Complete.{entry_tree, AllowsKeys}
use Rattle.ex_parser.proofs.Inverses.{CallStart, plain_start, alias_start}

-- expressions so far, each with a separator after it
pub data AllAre : Trees → List Token → Type 0 where
  none_yet : AllAre NoTree []
  one_yet : {done : Trees} {ts us : List Token} {e : End} {t : Tree} → AllAre done ts → Derives match_level e us t → AllAre (OneMore t done) (ts ++ (us ++ Separator ∷ []))

-- items so far, each with a comma after it; a call may have its first argument already
pub data TreesAre (before : Trees) : Trees → List Token → Type 0 where
  no_tree : TreesAre before before []
  one_tree : {done : Trees} {ts us : List Token} {e : End} {t : Tree} → TreesAre before done ts → Derives match_level e us t → TreesAre before (OneMore t done) (ts ++ (us ++ Mark S.Comma ∷ []))

pub data PatternsAre : Patterns → List Token → Type 0 where
  no_pattern : PatternsAre NoPattern []
  one_pattern : {done : Patterns} {ts us : List Token} {p : Pattern} → PatternsAre done ts → IsPattern us p → PatternsAre (P.OneMore p done) (ts ++ (us ++ Mark S.Comma ∷ []))

pub data KeysAre : Trees → List Token → Type 0 where
  no_key : KeysAre NoTree []
  one_key : {done : Trees} {ts us : List Token} {x : List ℕ} {e : End} {t : Tree} → KeysAre done ts → is_block_key x ≡ false → Derives match_level e us t → KeysAre (OneMore (pair x t) done) (ts ++ Key x ∷ (us ++ Mark S.Comma ∷ []))

pub data HolesAre : Holes → List Token → Type 0 where
  no_hole : HolesAre NoHole []
  one_hole : {done : Holes} {ts us : List Token} {e : End} {t : Tree} {bytes : List ℕ} → HolesAre done ts → Derives match_level e us t → HolesAre (E.Hole t bytes done) (ts ++ HoleBegins ∷ (us ++ HoleEnds bytes ∷ []))

pub data ClausesAre : Clauses → List Token → Type 0 where
  no_clause : ClausesAre NoClause []
  one_clause : {done : Clauses} {ts ps sep us : List Token} {p : Pattern} {xs : Trees} → ClausesAre done ts → IsPattern ps p → MaySeparate sep → DeriveAll us xs → ClausesAre (E.Clause p xs done) (ts ++ (ps ++ Mark S.RightArrow ∷ (sep ++ (us ++ Separator ∷ []))))

pub data ChoicesAre : Choices → List Token → Type 0 where
  no_choice : ChoicesAre NoChoice []
  one_choice : {done : Choices} {ts cs sep us : List Token} {e : End} {c : Tree} {xs : Trees} → ChoicesAre done ts → Derives match_level e cs c → MaySeparate sep → DeriveAll us xs → ChoicesAre (E.Choice c xs done) (ts ++ (cs ++ Mark S.RightArrow ∷ (sep ++ (us ++ Separator ∷ []))))

pub data PartsAre : Parts → List Token → Type 0 where
  no_part : PartsAre NoPart []
  one_generator : {done : Parts} {ts ps gs : List Token} {e : End} {p : Pattern} {g : Tree} → PartsAre done ts → IsPattern ps p → Derives match_level e gs g → PartsAre (Generator p g done) (ts ++ Mark S.Comma ∷ (ps ++ Mark S.LeftArrow ∷ gs))
  one_filter : {done : Parts} {ts fs : List Token} {e : End} {f : Tree} → PartsAre done ts → Derives match_level e fs f → PartsAre (Filter f done) (ts ++ Mark S.Comma ∷ fs)

-- the begin of a `for`
pub data HeadAre : Head → List Token → Type 0 where
  head_are : {h : Head} {ps gs rs : List Token} {e : End} → IsPattern ps h.pattern → Derives match_level e gs h.source → PartsAre h.parts rs → HeadAre h (Word K.For ∷ (ps ++ Mark S.LeftArrow ∷ (gs ++ rs)))

-- with the rest they are all
pub all_close : {done : Trees} {ts : List Token} → AllAre done ts → {us : List Token} {u : Tree} {xs : Trees} → DeriveAll us (OneMore u xs) → DeriveAll (ts ++ us) (onto done (OneMore u xs))
all_close none_yet d = d
all_close (one_yet {done} {ts} {us = vs} {t = t} a v) {us} {u} {xs} d = rw (append_assoc ts (vs ++ Separator ∷ []) us, append_assoc vs (Separator ∷ []) us) (all_close a (D.one_more v d))

-- that end by an item; the tree of all of them
pub record Closed' (before done : Trees) (ts us : List Token) (u : Tree) (xs : Trees) : Type 0 where
  pub x : Tree
  pub more : Trees
  pub derives : DeriveItems (ts ++ us) (OneMore x more)
  pub whole : (vs : Trees) → onto done (joined (OneMore u xs) vs) ≡ onto before (joined (OneMore x more) vs)

pub trees_close : {before done : Trees} {ts : List Token} → TreesAre before done ts → {us : List Token} {u : Tree} {xs : Trees} → DeriveItems us (OneMore u xs) → Closed' before done ts us u xs
trees_close no_tree {us} {u} {xs} d = record { x = u; more = xs; derives = d; whole = λ vs. refl }
trees_close {before} (one_tree {done} {ts} {us = vs} {t = t} a v) {us} {u} {xs} d =
    let r = trees_close a (D.more_items v d) in
    record { x = r.x; more = r.more; derives = rw (append_assoc ts (vs ++ Mark S.Comma ∷ []) us, append_assoc vs (Mark S.Comma ∷ []) us) r.derives; whole = r.whole }

pub record PatternsClosed (done : Patterns) (ts us : List Token) (q : Pattern) (qs : Patterns) : Type 0 where
  pub p : Pattern
  pub more : Patterns
  pub are : ArePatterns (ts ++ us) (P.OneMore p more)
  pub whole : onto_patterns done (P.OneMore q qs) ≡ P.OneMore p more

pub patterns_close : {done : Patterns} {ts : List Token} → PatternsAre done ts → {us : List Token} {q : Pattern} {qs : Patterns} → ArePatterns us (P.OneMore q qs) → PatternsClosed done ts us q qs
patterns_close no_pattern {us} {q} {qs} d = record { p = q; more = qs; are = d; whole = refl }
patterns_close (one_pattern {done} {ts} {us = vs} {p} a v) {us} {q} {qs} d =
    let r = patterns_close a (P.more_patterns v d) in
    record { p = r.p; more = r.more; are = rw (append_assoc ts (vs ++ Mark S.Comma ∷ []) us, append_assoc vs (Mark S.Comma ∷ []) us) r.are; whole = r.whole }

pub record KeysClosed (done : Trees) (ts us : List Token) (u : Tree) (ks : Trees) : Type 0 where
  pub k : Tree
  pub more : Trees
  pub derives : DeriveKeys (ts ++ us) (OneMore k more)
  pub whole : onto done (OneMore u ks) ≡ OneMore k more

pub keys_close : {done : Trees} {ts : List Token} → KeysAre done ts → {us : List Token} {u : Tree} {ks : Trees} → DeriveKeys us (OneMore u ks) → KeysClosed done ts us u ks
keys_close no_key {us} {u} {ks} d = record { k = u; more = ks; derives = d; whole = refl }
keys_close (one_key {done} {ts} {us = vs} {x} {t = t} a own v) {us} {u} {ks} d =
    let r = keys_close a (D.more_keys own v d) in
    record { k = r.k; more = r.more; derives = rw (append_assoc ts (Key x ∷ (vs ++ Mark S.Comma ∷ [])) us, append_assoc vs (Mark S.Comma ∷ []) us) r.derives; whole = r.whole }

pub holes_close : {done : Holes} {ts : List Token} → HolesAre done ts → {us : List Token} {hs : Holes} → DeriveHoles us hs → DeriveHoles (ts ++ us) (onto_holes done hs)
holes_close no_hole d = d
holes_close (one_hole {done} {ts} {us = vs} {bytes = bytes} a v) {us} {hs} d = rw (append_assoc ts (HoleBegins ∷ (vs ++ HoleEnds bytes ∷ [])) us, append_assoc vs (HoleEnds bytes ∷ []) us) (holes_close a (D.hole v d))

pub clauses_close : {done : Clauses} {ts : List Token} → ClausesAre done ts → {us : List Token} {ks : Clauses} → DeriveClauses us ks → DeriveClauses (ts ++ us) (onto_clauses done ks)
clauses_close no_clause d = d
clauses_close (one_clause {done} {ts} {ps} {sep} {us = vs} a p m v) {us} {ks} d =
    rw (append_assoc ts (ps ++ Mark S.RightArrow ∷ (sep ++ (vs ++ Separator ∷ []))) us, append_assoc ps (Mark S.RightArrow ∷ (sep ++ (vs ++ Separator ∷ []))) us, append_assoc sep (vs ++ Separator ∷ []) us, append_assoc vs (Separator ∷ []) us)
    (clauses_close a (D.more_clauses p m v d))

pub choices_close : {done : Choices} {ts : List Token} → ChoicesAre done ts → {us : List Token} {ks : Choices} → DeriveChoices us ks → DeriveChoices (ts ++ us) (onto_choices done ks)
choices_close no_choice d = d
choices_close (one_choice {done} {ts} {cs} {sep} {us = vs} a c m v) {us} {ks} d =
    rw (append_assoc ts (cs ++ Mark S.RightArrow ∷ (sep ++ (vs ++ Separator ∷ []))) us, append_assoc cs (Mark S.RightArrow ∷ (sep ++ (vs ++ Separator ∷ []))) us, append_assoc sep (vs ++ Separator ∷ []) us, append_assoc vs (Separator ∷ []) us)
    (choices_close a (D.more_choices c m v d))

pub parts_close : {done : Parts} {ts : List Token} → PartsAre done ts → {us : List Token} {parts : Parts} → DeriveParts us parts → DeriveParts (ts ++ us) (onto_parts done parts)
parts_close no_part d = d
parts_close (one_generator {done} {ts} {ps} {gs} a p g) {us} {parts} d = rw (append_assoc ts (Mark S.Comma ∷ (ps ++ Mark S.LeftArrow ∷ gs)) us, append_assoc ps (Mark S.LeftArrow ∷ gs) us) (parts_close a (D.generator p g d))
parts_close (one_filter {done} {ts} {fs} a f) {us} {parts} d = rw (append_assoc ts (Mark S.Comma ∷ fs) us) (parts_close a (D.filter f d))

pub parts_whole : {done : Parts} {ts : List Token} → PartsAre done ts → DeriveParts ts (onto_parts done NoPart)
parts_whole {done} {ts} a = subst (λ v. DeriveParts v (onto_parts done NoPart)) (append-nil ts) (parts_close a D.no_part)

-- what opens a bracket, with the first argument of a call that stands before `|>`
pub data Opener : Enclosure → Trees → List Token → Type 0 where
  brace : Opener InTuple NoTree (Mark S.OpenBrace ∷ [])
  square : Opener InList NoTree (Mark S.OpenBracket ∷ [])
  round : {hs : List Token} {x : List ℕ} → CallStart hs x → Opener (InCall x primary_level) NoTree hs
  piped : {xs hs : List Token} {a : Tree} {x : List ℕ} → Derives pipe_level Closed xs a → CallStart hs x → Opener (InCall x pipe_level) (OneMore a NoTree) (xs ++ Mark S.Pipe ∷ hs)

start_derives : {hs : List Token} {x : List ℕ} → CallStart hs x → {ts : List Token} {xs ks : Trees} → DeriveEntries ts xs ks → DerivesCall (hs ++ (ts ++ Mark S.CloseParen ∷ [])) x (arguments xs ks)
start_derives (plain_start u) d = D.plain_call u d
start_derives (alias_start u) d = D.alias_call u d

pub opener_items : {e : Enclosure} {before : Trees} {hs : List Token} → Opener e before hs → {ts : List Token} {xs : Trees} → DeriveItems ts xs → Derives (level_of e) Closed (hs ++ (ts ++ closing e ∷ [])) (enclosed e (onto before xs))
opener_items brace d = D.tuple d
opener_items square {ts} {xs} d = subst (λ v. Derives primary_level Closed (Mark S.OpenBracket ∷ (ts ++ Mark S.CloseBracket ∷ [])) (E.Items v)) (joined_none xs) (D.list (D.items_alone d))
opener_items (round s) d = D.call (start_derives s (D.items_alone d))
opener_items (piped {xs = as'} {hs} a s) {ts} {xs} d = rw (append_assoc as' (Mark S.Pipe ∷ hs) (ts ++ Mark S.CloseParen ∷ [])) (D.pipe a (start_derives s (D.items_alone d)))

pub opener_keys : {e : Enclosure} {before : Trees} {hs : List Token} → Opener e before hs → AllowsKeys e → {ts : List Token} {xs ks : Trees} → DeriveEntries ts xs ks → Derives (level_of e) Closed (hs ++ (ts ++ closing e ∷ [])) (entry_tree e before xs ks)
opener_keys brace ok d = absurd ok
opener_keys square ok d = D.list d
opener_keys (round s) ok d = D.call (start_derives s d)
opener_keys (piped {xs = as'} {hs} a s) ok {ts} {xs} {ks} d = rw (append_assoc as' (Mark S.Pipe ∷ hs) (ts ++ Mark S.CloseParen ∷ [])) (D.pipe a (start_derives s d))

-- a body begins
pub data BlockAre : Block → List Token → Type 0 where
  then_are : {c : Tree} {e : End} {cs sep : List Token} → Derives match_level e cs c → MaySeparate sep → BlockAre (Then c) (Word K.If ∷ (cs ++ Word K.Do ∷ sep))
  otherwise_are : {c : Tree} {as' : Trees} {e : End} {cs ts sep : List Token} → Derives match_level e cs c → DerivesBody ts as' → MaySeparate sep → BlockAre (Otherwise c as') (Word K.If ∷ (cs ++ Word K.Do ∷ (ts ++ Word K.Else ∷ sep)))
  clause_are : {c : Tree} {ks : Clauses} {p : Pattern} {e : End} {cs sep ts ps sep' : List Token} → Derives match_level e cs c → MaySeparate sep → ClausesAre ks ts → IsPattern ps p → MaySeparate sep'
      → BlockAre (InClause c ks p) (Word K.Case ∷ (cs ++ Word K.Do ∷ (sep ++ (ts ++ (ps ++ Mark S.RightArrow ∷ sep')))))
  choice_are : {ks : Choices} {c : Tree} {e : End} {sep ts cs sep' : List Token} → MaySeparate sep → ChoicesAre ks ts → Derives match_level e cs c → MaySeparate sep'
      → BlockAre (InChoice ks c) (Word K.Cond ∷ Word K.Do ∷ (sep ++ (ts ++ (cs ++ Mark S.RightArrow ∷ sep'))))
  for_are : {h : Head} {ts sep : List Token} → HeadAre h ts → MaySeparate sep → BlockAre (InFor h) (ts ++ Word K.Do ∷ sep)

-- a frame stands for these tokens
pub data FrameAre : Frame → List Token → Type 0 where
  operand_are : {o : Operator} {a : Tree} {xs : List Token} → Derives (left o) Closed xs a → may_precede xs a o ≡ true → FrameAre (Operand o a) (xs ++ infix_token (I.Operator o) ∷ [])
  matched_are : {p : Pattern} {xs : List Token} → IsPattern xs p → FrameAre (Matched p) (xs ++ Mark S.Equals ∷ [])
  prefixed_are : {o : Prefix} → FrameAre (Prefixed o) (prefix_token o ∷ [])
  parens_are : FrameAre Parens (Mark S.OpenParen ∷ [])
  items_are : {e : Enclosure} {before : Trees} {hs ts : List Token} {l : Listed} → Opener e before hs → ((done : Trees) → l.trees ≡ Some done → TreesAre before done ts) → ((done : Patterns) → l.patterns ≡ Some done → PatternsAre done ts) → FrameAre (Items e l) (hs ++ ts)
  keyed_are : {e : Enclosure} {before : Trees} {hs ts us : List Token} {xs ks : Trees} {x : List ℕ} → Opener e before hs → AllowsKeys e → TreesAre before xs ts → KeysAre ks us → is_block_key x ≡ false → FrameAre (Keyed e xs ks x) (hs ++ (ts ++ (us ++ Key x ∷ [])))
  tail_are : {ts : List Token} {l : Listed} → ((done : Trees) → l.trees ≡ Some done → (x : Tree) × (xs : Trees) × DeriveItems ts (OneMore x xs) × (onto done NoTree ≡ OneMore x xs))
      → ((done : Patterns) → l.patterns ≡ Some done → (p : Pattern) × (ps : Patterns) × ArePatterns ts (P.OneMore p ps) × (onto_patterns done NoPattern ≡ P.OneMore p ps)) → FrameAre (Tail l) (Mark S.OpenBracket ∷ (ts ++ Mark S.Bar ∷ []))
  hole_are : {bytes : List ℕ} {hs : Holes} {ts : List Token} → HolesAre hs ts → FrameAre (InHole bytes hs) (TextBegins bytes ∷ (ts ++ HoleBegins ∷ []))
  condition_are : FrameAre Condition (Word K.If ∷ [])
  do_if_are : {c : Tree} {e : End} {cs : List Token} → Derives match_level e cs c → FrameAre (DoIf c) (Word K.If ∷ (cs ++ Mark S.Comma ∷ Key do_key ∷ []))
  do_else_are : {c a : Tree} {e f : End} {cs ts : List Token} → Derives match_level e cs c → Derives match_level f ts a → else_may_follow f ≡ true → FrameAre (DoElse c a) (Word K.If ∷ (cs ++ Mark S.Comma ∷ Key do_key ∷ (ts ++ Mark S.Comma ∷ Key else_key ∷ [])))
  body_are : {b : Block} {xs : Trees} {hs ts : List Token} → BlockAre b hs → AllAre xs ts → FrameAre (Body b xs) (hs ++ ts)
  subject_are : FrameAre Subject (Word K.Case ∷ [])
  first_pattern_are : {c : Tree} {e : End} {cs sep : List Token} → Derives match_level e cs c → MaySeparate sep → FrameAre (FirstPattern c) (Word K.Case ∷ (cs ++ Word K.Do ∷ sep))
  first_condition_are : {sep : List Token} → MaySeparate sep → FrameAre FirstCondition (Word K.Cond ∷ Word K.Do ∷ sep)
  for_pattern_are : FrameAre ForPattern (Word K.For ∷ [])
  for_source_are : {p : Pattern} {ps : List Token} → IsPattern ps p → FrameAre (ForSource p) (Word K.For ∷ (ps ++ Mark S.LeftArrow ∷ []))
  part_are : {h : Head} {ts : List Token} → HeadAre h ts → FrameAre (Part h) (ts ++ Mark S.Comma ∷ [])
  part_source_are : {h : Head} {p : Pattern} {ts ps : List Token} → HeadAre h ts → IsPattern ps p → FrameAre (PartSource h p) (ts ++ Mark S.Comma ∷ (ps ++ Mark S.LeftArrow ∷ []))
  do_for_are : {h : Head} {ts : List Token} → HeadAre h ts → FrameAre (DoFor h) (ts ++ Mark S.Comma ∷ Key do_key ∷ [])

-- the level at which stands what a frame makes
abbrev pub makes : Frame → ℕ
makes (Operand o a) = level o
makes (Matched p) = match_level
makes (Prefixed o) = unary_level
makes (Items e l) = level_of e
makes (Keyed e xs ks x) = level_of e
makes f = primary_level

-- the frames stand for these tokens
pub data Stacked : List Frame → List Token → Type 0 where
  bottom : Stacked [] []
  on_top : {f : Frame} {s : List Frame} {before ts : List Token} → Stacked s before → floor s ≤ makes f → FrameAre f ts → Stacked (f ∷ s) (before ++ ts)

-- an expression that ends so is complete before these tokens
abbrev pub Ended : End → List Token → Type 0
Ended Closed ts = Unit {0}
Ended Open ts = first_infix ts ≡ None
Ended OpenIf ts = (first_infix ts ≡ None) × ((follow ts).next ≡ N.CommaElse → ⊥)

pub record TreeIs (l : ℕ) (ts : List Token) (t : Tree) (negates : Bool) (rest : List Token) : Type 0 where
  pub e : End
  pub derives : Derives l e ts t
  pub ended : Ended e rest
  pub is_negation : negates ≡ is_negation ts t

-- what was read stands for these tokens
pub record ValueIs (v : Value) (ts rest : List Token) : Type 0 where
  pub as_tree : (t : Tree) → v.tree ≡ Some t → TreeIs v.level ts t v.negates rest
  pub as_pattern : (p : Pattern) → v.pattern ≡ Some p → IsPattern ts p
