-- Patterns, and the tokens that derive them.
use Rattle.std.specs.Prelude.{ℕ, List, [], ◌∷◌, ◌++◌, Option, Some, None, ◌≡◌}
use Rattle.ex_grammar.specs.declared.token.Sign.TheVariants.{Minus, Caret, Comma, Bar, OpenBracket, CloseBracket, OpenBrace, CloseBrace}
use Rattle.ex_grammar.specs.declared.token.Keyword.{Keyword}
use Rattle.ex_grammar.specs.declared.token.Keyword.TheVariants as K
use Rattle.ex_grammar.specs.declared.token.WordValue.{WordValue}
use Rattle.ex_grammar.specs.declared.token.WordValue.TheVariants as W
use Rattle.ex_grammar.specs.Tokens as T
use Rattle.ex_grammar.specs.Tokens.{Token, Mark, Word}

mutual
  -- what stands left of `=` and `<-`, and before `->` in a `case`
  pub data Pattern : Type 0 where
    -- an integer, and `-` before one
    Integer : ℕ → Pattern
    Negative : ℕ → Pattern
    Atom : List ℕ → Pattern
    WordIs : WordValue → Pattern
    -- a text: what it says
    Text : List ℕ → Pattern
    -- a name that is bound, or `_`
    Named : List ℕ → Pattern
    -- `^name`: the value of a name
    Pinned : List ℕ → Pattern
    Tuple : Patterns → Pattern
    -- `[a, b]`, and `[a, b | t]`
    Items : Patterns → Pattern
    ItemsThen : Patterns → Pattern → Pattern

  pub data Patterns : Type 0 where
    NoPattern : Patterns
    OneMore : Pattern → Patterns → Patterns

-- the words that are values
abbrev pub word_value : Keyword → Option WordValue
word_value K.True = Some W.True
word_value K.False = Some W.False
word_value K.Nil = Some W.Nil
word_value k = None

mutual
  -- the tokens derive the pattern
  pub data IsPattern : List Token → Pattern → Type 0 where
    integer : {n : ℕ} → IsPattern (T.Number n ∷ []) (Integer n)
    negative : {n : ℕ} → IsPattern (Mark Minus ∷ T.Number n ∷ []) (Negative n)
    atom : {x : List ℕ} → IsPattern (T.Atom x ∷ []) (Atom x)
    word : {k : Keyword} {w : WordValue} → word_value k ≡ Some w → IsPattern (Word k ∷ []) (WordIs w)
    -- a text without `#{`
    text : {bytes : List ℕ} → IsPattern (T.TextBegins bytes ∷ T.TextEnds ∷ []) (Text bytes)
    name : {x : List ℕ} → IsPattern (T.Name x ∷ []) (Named x)
    pinned : {x : List ℕ} → IsPattern (Mark Caret ∷ T.Name x ∷ []) (Pinned x)
    -- a tuple and a list of patterns, also empty; a list with `|` has an item before it
    tuple : {ts : List Token} {ps : Patterns} → ArePatterns ts ps → IsPattern (Mark OpenBrace ∷ (ts ++ Mark CloseBrace ∷ [])) (Tuple ps)
    items : {ts : List Token} {ps : Patterns} → ArePatterns ts ps → IsPattern (Mark OpenBracket ∷ (ts ++ Mark CloseBracket ∷ [])) (Items ps)
    items_then : {ts us : List Token} {p q : Pattern} {ps : Patterns} → ArePatterns ts (OneMore p ps) → IsPattern us q
        → IsPattern (Mark OpenBracket ∷ (ts ++ Mark Bar ∷ (us ++ Mark CloseBracket ∷ []))) (ItemsThen (OneMore p ps) q)

  -- patterns between commas, or none
  pub data ArePatterns : List Token → Patterns → Type 0 where
    no_pattern : ArePatterns [] NoPattern
    last_pattern : {ts : List Token} {p : Pattern} → IsPattern ts p → ArePatterns ts (OneMore p NoPattern)
    more_patterns : {ts us : List Token} {p q : Pattern} {ps : Patterns} → IsPattern ts p → ArePatterns us (OneMore q ps) → ArePatterns (ts ++ Mark Comma ∷ us) (OneMore p (OneMore q ps))
