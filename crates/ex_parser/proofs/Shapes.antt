-- Patterns are read.
use Rattle.std.specs.Prelude.{option_map}
use Rattle.std.proofs.Common.{◌≡◌, ℕ, false, List, [], ◌∷◌, ◌++◌, Some, None, refl, ap, ◌∙◌, append_assoc}
use Rattle.ex_grammar.specs.declared.token.Sign.TheVariants as S
use Rattle.ex_grammar.specs.declared.token.Keyword.{Keyword}
use Rattle.ex_grammar.specs.declared.token.Keyword.TheVariants as K
use Rattle.ex_grammar.specs.declared.token.WordValue.{WordValue}
use Rattle.ex_grammar.specs.declared.token.WordValue.TheVariants as W
use Rattle.ex_grammar.specs.Grammar.{is_underscore}
use Rattle.ex_grammar.specs.Operators.{unary_level}
use Rattle.ex_grammar.specs.declared.operators.Prefix.TheVariants.{Negate}
use Rattle.ex_grammar.specs.Tokens as T
use Rattle.ex_grammar.specs.Tokens.{Token, Mark, Word, Key, TextBegins, TextEnds}
use Rattle.ex_grammar.specs.Patterns as P
use Rattle.ex_grammar.specs.Patterns.{Pattern, Patterns, NoPattern, IsPattern, ArePatterns, word_value}
use Rattle.ex_grammar.specs.Trees as E
use Rattle.ex_parser.specs.Follow.{first_infix}
use Rattle.ex_parser.specs.Machine.{Value, value, plain, name_tree, negative, prefixed, negates, bracket_of, level_of, closed_tree, then_tree, shut, onto_patterns, Listed, listed, Enclosure, InTuple, InList, InCall, Frame, Items, Tail, Want, Have, enclosed_pattern, closed_pattern, then_pattern, opened, more_items, step, Reaches, here, there}
use Rattle.ex_parser.proofs.Fronts.{Begins, begins_more, pattern_begins, begins_after_comma, begins_open}
use Rattle.ex_parser.proofs.Levels.{prefix_ends}
use Rattle.ex_parser.proofs.Reach.{and_on, on, from, closing}

-- a pattern was read from these tokens
pub record Shapes (s : List Frame) (ts rest : List Token) (p : Pattern) : Type 0 where
  pub v : Value
  pub reaches : Reaches (Want s (ts ++ rest)) (Have s v rest)
  pub pattern : v.pattern ≡ Some p

-- the last of several was, and those before it are among the items
pub record ShapesAll (e : Enclosure) (l : Listed) (qs : Patterns) (s : List Frame) (ts rest : List Token) (ps : Patterns) : Type 0 where
  pub l' : Listed
  pub qs' : Patterns
  pub v : Value
  pub p : Pattern
  pub reaches : Reaches (Want (Items e l ∷ s) (ts ++ rest)) (Have (Items e l' ∷ s) v rest)
  pub patterns : l'.patterns ≡ Some qs'
  pub pattern : v.pattern ≡ Some p
  pub whole : onto_patterns (P.OneMore p qs') NoPattern ≡ onto_patterns qs ps

abbrev pub AllShape : Enclosure → Listed → Patterns → List Frame → List Token → List Token → Patterns → Type 0
AllShape e l qs s ts rest NoPattern = ts ≡ []
AllShape e l qs s ts rest (P.OneMore p ps) = Begins ts × ShapesAll e l qs s ts rest (P.OneMore p ps)

-- all patterns between brackets were
pub record ShapesBracket (e : Enclosure) (l : Listed) (qs : Patterns) (s : List Frame) (ts rest : List Token) (ps : Patterns) : Type 0 where
  pub v : Value
  pub reaches : Reaches (opened e l s (ts ++ closing e ∷ rest)) (Have s v rest)
  pub pattern : v.pattern ≡ enclosed_pattern e (onto_patterns qs ps)

pub opens_closed : (e : Enclosure) (l : Listed) (s : List Frame) (rest : List Token) → opened e l s (closing e ∷ rest) ≡ shut e l s rest
opens_closed InTuple l s rest = refl
opens_closed InList l s rest = refl
opens_closed (InCall x n) l s rest = refl

pub opens_more : (e : Enclosure) (l : Listed) (s : List Frame) (ts : List Token) → Begins ts → opened e l s ts ≡ Want (Items e l ∷ s) ts
opens_more e l s ts b = rw (begins_open ts (bracket_of e) b) refl

-- an item is the last
pub item_shuts : (e : Enclosure) (l : Listed) (s : List Frame) (v : Value) (rest : List Token) → step (Have (Items e l ∷ s) v (closing e ∷ rest)) ≡ shut e (more_items l v) s rest
item_shuts InTuple l s v rest = refl
item_shuts InList l s v rest = refl
item_shuts (InCall x n) l s v rest = refl

-- another item follows
pub item_goes : (e : Enclosure) (l : Listed) (s : List Frame) (v : Value) (ts : List Token) → Begins ts → step (Have (Items e l ∷ s) v (Mark S.Comma ∷ ts)) ≡ Want (Items e (more_items l v) ∷ s) ts
item_goes e l s v ts b = rw (begins_after_comma ts b) refl

more_patterns : (l : Listed) (v : Value) (qs : Patterns) (p : Pattern) → l.patterns ≡ Some qs → v.pattern ≡ Some p → (more_items l v).patterns ≡ Some (P.OneMore p qs)
more_patterns l v qs p e f = rw (e, f) refl

shut_shape : (e : Enclosure) (l : Listed) (qs : Patterns) → l.patterns ≡ Some qs → closed_pattern e l.patterns ≡ enclosed_pattern e (onto_patterns qs NoPattern)
shut_shape e l qs h = rw h refl

bracket_shapes : (e : Enclosure) (l : Listed) (qs : Patterns) (s : List Frame) (ts rest : List Token) (ps : Patterns) → l.patterns ≡ Some qs → AllShape e l qs s ts (closing e ∷ rest) ps → ShapesBracket e l qs s ts rest ps
bracket_shapes e l qs s ts rest NoPattern h a = record {
  v = value (closed_tree e l.trees) (closed_pattern e l.patterns) (level_of e) false;
  reaches = rw a (from (opens_closed e l s rest) here);
  pattern = shut_shape e l qs h;
}
bracket_shapes e l qs s ts rest (P.OneMore p ps) h a =
    let r = a.1 in
    record {
      v = value (closed_tree e (more_items r.l' r.v).trees) (closed_pattern e (more_items r.l' r.v).patterns) (level_of e) false;
      reaches = from (opens_more e l s (ts ++ closing e ∷ rest) (begins_more ts _ a.0)) (and_on r.reaches (on (item_shuts e r.l' s r.v rest) here));
      pattern = shut_shape e (more_items r.l' r.v) (P.OneMore r.p r.qs') (more_patterns r.l' r.v r.qs' r.p r.patterns r.pattern) ∙ ap (enclosed_pattern e) r.whole;
    }

word_shapes : (k : Keyword) (w : WordValue) (s : List Frame) (rest : List Token) → word_value k ≡ Some w → Shapes s (Word k ∷ []) rest (P.WordIs w)
word_shapes K.True w s rest e = record { v = plain (Some (E.WordIs W.True)) (Some (P.WordIs W.True)); reaches = there here; pattern = ap (option_map P.WordIs) e }
word_shapes K.False w s rest e = record { v = plain (Some (E.WordIs W.False)) (Some (P.WordIs W.False)); reaches = there here; pattern = ap (option_map P.WordIs) e }
word_shapes K.Nil w s rest e = record { v = plain (Some (E.WordIs W.Nil)) (Some (P.WordIs W.Nil)); reaches = there here; pattern = ap (option_map P.WordIs) e }
word_shapes k w s rest e = absurd (cc)

negative_shapes : (s : List Frame) (n : ℕ) (rest : List Token) → Shapes s (Mark S.Minus ∷ T.Number n ∷ []) rest (P.Negative n)
negative_shapes s n rest =
    let v : Value = plain (Some (E.Integer n)) (Some (P.Integer n)) in
    record {
      v = value (prefixed Negate v.tree) (negative Negate v.pattern) unary_level (negates Negate);
      reaches = there (there (on (prefix_ends Negate s v rest) here));
      pattern = refl;
    }

-- `|` after an item
pub item_bars : (l : Listed) (s : List Frame) (v : Value) (ts : List Token) → step (Have (Items InList l ∷ s) v (Mark S.Bar ∷ ts)) ≡ Want (Tail (more_items l v) ∷ s) ts
item_bars l s v ts = refl

pub tail_shuts : (l : Listed) (s : List Frame) (v : Value) (rest : List Token) → step (Have (Tail l ∷ s) v (Mark S.CloseBracket ∷ rest)) ≡ Have s (plain (then_tree l.trees v.tree) (then_pattern l.patterns v.pattern)) rest
tail_shuts l s v rest = refl

then_shapes : (l : Listed) (qs : Patterns) (v : Value) (p : Pattern) → l.patterns ≡ Some qs → v.pattern ≡ Some p → then_pattern l.patterns v.pattern ≡ Some (P.ItemsThen (onto_patterns qs NoPattern) p)
then_shapes l qs v p e f = rw (e, f) refl

mutual
  pub pattern_read : {ts : List Token} {p : Pattern} → IsPattern ts p → (s : List Frame) (rest : List Token) → Shapes s ts rest p
  pattern_read (P.integer {n}) s rest = record { v = plain (Some (E.Integer n)) (Some (P.Integer n)); reaches = there here; pattern = refl }
  pattern_read (P.negative {n}) s rest = negative_shapes s n rest
  pattern_read (P.atom {x}) s rest = record { v = plain (Some (E.Atom x)) (Some (P.Atom x)); reaches = there here; pattern = refl }
  pattern_read (P.word {k} {w} e) s rest = word_shapes k w s rest e
  pattern_read (P.text {bytes}) s rest = record { v = plain (Some (E.Text bytes E.NoHole)) (Some (P.Text bytes)); reaches = there here; pattern = refl }
  pattern_read (P.name {x}) s rest = record { v = plain (name_tree (is_underscore x) x) (Some (P.Named x)); reaches = there here; pattern = refl }
  pattern_read (P.pinned {x}) s rest = record { v = plain None (Some (P.Pinned x)); reaches = there here; pattern = refl }
  pattern_read (P.tuple {ts} {ps} d) s rest =
      let b = bracket_shapes InTuple (listed (Some E.NoTree) (Some NoPattern)) NoPattern s ts rest ps refl (patterns_read d InTuple (listed (Some E.NoTree) (Some NoPattern)) NoPattern refl s (Mark S.CloseBrace ∷ rest) refl) in
      record { v = b.v; reaches = there (rw (append_assoc ts (Mark S.CloseBrace ∷ []) rest) b.reaches); pattern = b.pattern }
  pattern_read (P.items {ts} {ps} d) s rest =
      let b = bracket_shapes InList (listed (Some E.NoTree) (Some NoPattern)) NoPattern s ts rest ps refl (patterns_read d InList (listed (Some E.NoTree) (Some NoPattern)) NoPattern refl s (Mark S.CloseBracket ∷ rest) refl) in
      record { v = b.v; reaches = there (rw (append_assoc ts (Mark S.CloseBracket ∷ []) rest) b.reaches); pattern = b.pattern }
  pattern_read (P.items_then {ts} {us} {p} {q} {ps} d e) s rest =
      let after : List Token = Mark S.Bar ∷ (us ++ Mark S.CloseBracket ∷ rest) in
      let a = patterns_read d InList (listed (Some E.NoTree) (Some NoPattern)) NoPattern refl s after refl in
      let r = a.1 in
      let l : Listed = more_items r.l' r.v in
      let t = pattern_read e (Tail l ∷ s) (Mark S.CloseBracket ∷ rest) in
      record {
        v = plain (then_tree l.trees t.v.tree) (then_pattern l.patterns t.v.pattern);
        reaches = there (rw (append_assoc ts (Mark S.Bar ∷ (us ++ Mark S.CloseBracket ∷ [])) rest, append_assoc us (Mark S.CloseBracket ∷ []) rest)
            (from (opens_more InList (listed (Some E.NoTree) (Some NoPattern)) s (ts ++ after) (begins_more ts after a.0))
            (and_on r.reaches (on (item_bars r.l' s r.v (us ++ Mark S.CloseBracket ∷ rest)) (and_on t.reaches (on (tail_shuts l s t.v rest) here))))));
        pattern = then_shapes l (P.OneMore r.p r.qs') t.v q (more_patterns r.l' r.v r.qs' r.p r.patterns r.pattern) t.pattern ∙ ap (λ xs. Some (P.ItemsThen xs q)) r.whole;
      }

  pub patterns_read : {ts : List Token} {ps : Patterns} → ArePatterns ts ps → (e : Enclosure) (l : Listed) (qs : Patterns) → l.patterns ≡ Some qs → (s : List Frame) (rest : List Token) → first_infix rest ≡ None → AllShape e l qs s ts rest ps
  patterns_read P.no_pattern e l qs h s rest q = refl
  patterns_read (P.last_pattern {ts} {p} d) e l qs h s rest q =
      let r = pattern_read d (Items e l ∷ s) rest in
      (pattern_begins d, record { l' = l; qs' = qs; v = r.v; p = p; reaches = r.reaches; patterns = h; pattern = r.pattern; whole = refl })
  patterns_read (P.more_patterns {ts} {us} {p} {q = p2} {ps} d ds) e l qs h s rest q =
      let r = pattern_read d (Items e l ∷ s) (Mark S.Comma ∷ (us ++ rest)) in
      let a = patterns_read ds e (more_items l r.v) (P.OneMore p qs) (more_patterns l r.v qs p h r.pattern) s rest q in
      let k = a.1 in (
        begins_more ts _ (pattern_begins d),
        record {
          l' = k.l';
          qs' = k.qs';
          v = k.v;
          p = k.p;
          reaches = rw (append_assoc ts (Mark S.Comma ∷ us) rest) (and_on r.reaches (on (item_goes e l s r.v (us ++ rest) (begins_more us rest a.0)) k.reaches));
          patterns = k.patterns;
          pattern = k.pattern;
          whole = k.whole;
        },
      )
