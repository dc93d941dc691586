-- The grammar, as a relation between tokens and trees: one clause for each form.
use Rattle.std.specs.Prelude.{◌≡◌, ◌≤◌, ℕ, ◌||◌, not, Bool, true, false, List, [], ◌∷◌, ◌++◌, Some, codes}
use Rattle.std.specs.Str.{bytes_eq}
use Rattle.ex_grammar.specs.declared.token.Sign.TheVariants as S
use Rattle.ex_grammar.specs.declared.token.Keyword.{Keyword}
use Rattle.ex_grammar.specs.declared.token.Keyword.TheVariants as K
use Rattle.ex_grammar.specs.declared.token.WordValue.{WordValue}
use Rattle.ex_grammar.specs.declared.operators.Operator.{Operator}
use Rattle.ex_grammar.specs.declared.operators.Operator.TheVariants.{Member}
use Rattle.ex_grammar.specs.declared.operators.Infix.TheVariants as I
use Rattle.ex_grammar.specs.declared.operators.Prefix.{Prefix}
use Rattle.ex_grammar.specs.Tokens as T
use Rattle.ex_grammar.specs.Tokens.{Token, Mark, Word, Key, Called, Alias, TextBegins, HoleBegins, HoleEnds, TextEnds, Separator}
use Rattle.ex_grammar.specs.Operators.{match_level, pipe_level, unary_level, primary_level, level, left, right, infix_token, prefix_token}
use Rattle.ex_grammar.specs.Patterns.{Pattern, IsPattern, word_value}
use Rattle.ex_grammar.specs.Trees.{Tree, Integer, Atom, WordIs, Text, Variable, Tuple, Items, ItemsThen, Call, Match, Apply, Prefixed, If, IfElse, Case, Cond, For, Trees, NoTree, OneMore, Holes, NoHole, Hole, Clauses, NoClause, Clause, Choices, NoChoice, Choice, Parts, NoPart, Generator, Filter, joined}

-- how an expression ends: with no block in the form with `do:` or `else:`, with such a block, or, whatever else, with an `if` in this form that has no `else:`.
-- A block inside brackets doesn't count, nor does one that an `end` closes
pub data End : Type 0 where
  Closed : End
  Open : End
  OpenIf : End

-- how a block ends that ends with an expression
abbrev pub reaching : End → End
reaching Closed = Open
reaching Open = Open
reaching OpenIf = OpenIf

-- an `, else:` may stand right after it
abbrev pub else_may_follow : End → Bool
else_may_follow Closed = true
else_may_follow Open = true
else_may_follow OpenIf = false

-- a name that stands in patterns only
abbrev pub is_underscore : List ℕ → Bool
is_underscore x = bytes_eq x (codes "_")

-- the keys `do:` and `else:`, which belong to blocks
abbrev pub do_key : List ℕ
do_key = codes "do"

abbrev pub else_key : List ℕ
else_key = codes "else"

abbrev pub is_block_key : List ℕ → Bool
is_block_key x = bytes_eq x do_key || bytes_eq x else_key

-- the operand is a unary with `!` or `not` that stands in no parentheses
abbrev pub is_negation : List Token → Tree → Bool
is_negation (Mark S.Bang ∷ ts) (Prefixed p t) = true
is_negation (Word K.Not ∷ ts) (Prefixed p t) = true
is_negation ts t = false

-- a left operand that may stand before the operator: before `in` no such unary does
abbrev pub may_precede : List Token → Tree → Operator → Bool
may_precede ts t Member = not (is_negation ts t)
may_precede ts t o = true

-- the arguments of a call: the keys make one last list
abbrev pub arguments : Trees → Trees → Trees
arguments ts NoTree = ts
arguments ts (OneMore k ks) = joined ts (OneMore (Items (OneMore k ks)) NoTree)

-- the one tuple that a key and its value are
abbrev pub pair : List ℕ → Tree → Tree
pair x t = Tuple (OneMore (Atom x) (OneMore t NoTree))

-- one separator or none
pub data MaySeparate : List Token → Type 0 where
  without : MaySeparate []
  with : MaySeparate (Separator ∷ [])

mutual
  -- the tokens derive the tree at a level, and end so
  pub data Derives : ℕ → End → List Token → Tree → Type 0 where
    -- an integer, an atom, a word that is a value, and a name but `_`
    integer : {n : ℕ} → Derives primary_level Closed (T.Number n ∷ []) (Integer n)
    atom : {x : List ℕ} → Derives primary_level Closed (T.Atom x ∷ []) (Atom x)
    word : {k : Keyword} {w : WordValue} → word_value k ≡ Some w → Derives primary_level Closed (Word k ∷ []) (WordIs w)
    variable : {x : List ℕ} → is_underscore x ≡ false → Derives primary_level Closed (T.Name x ∷ []) (Variable x)
    -- a text; the tokens between a `#{` and its `}` derive a match
    text : {bytes : List ℕ} {ts : List Token} {hs : Holes} → DeriveHoles ts hs → Derives primary_level Closed (TextBegins bytes ∷ (ts ++ TextEnds ∷ [])) (Text bytes hs)
    -- a match in parentheses
    parentheses : {e : End} {ts : List Token} {t : Tree} → Derives match_level e ts t → Derives primary_level Closed (Mark S.OpenParen ∷ (ts ++ Mark S.CloseParen ∷ [])) t
    -- `{a, b}`
    tuple : {ts : List Token} {xs : Trees} → DeriveItems ts xs → Derives primary_level Closed (Mark S.OpenBrace ∷ (ts ++ Mark S.CloseBrace ∷ [])) (Tuple xs)
    -- `[a, b, k: c]`, and `[a, b | t]`, which has an item before the `|`
    list : {ts : List Token} {xs ks : Trees} → DeriveEntries ts xs ks → Derives primary_level Closed (Mark S.OpenBracket ∷ (ts ++ Mark S.CloseBracket ∷ [])) (Items (joined xs ks))
    list_then : {e : End} {ts us : List Token} {x t : Tree} {xs : Trees} → DeriveItems ts (OneMore x xs) → Derives match_level e us t
        → Derives primary_level Closed (Mark S.OpenBracket ∷ (ts ++ Mark S.Bar ∷ (us ++ Mark S.CloseBracket ∷ []))) (ItemsThen (OneMore x xs) t)
    -- a call
    call : {ts : List Token} {x : List ℕ} {xs : Trees} → DerivesCall ts x xs → Derives primary_level Closed ts (Call x xs)
    -- `if e do body end`, and with `else body` before the `end`
    if_block : {e : End} {cs ts : List Token} {c : Tree} {as' : Trees} → Derives match_level e cs c → DerivesBody ts as'
        → Derives primary_level Closed (Word K.If ∷ (cs ++ Word K.Do ∷ (ts ++ Word K.End ∷ []))) (If c as')
    if_else_block : {e : End} {cs ts us : List Token} {c : Tree} {as' bs : Trees} → Derives match_level e cs c → DerivesBody ts as' → DerivesBody us bs
        → Derives primary_level Closed (Word K.If ∷ (cs ++ Word K.Do ∷ (ts ++ Word K.Else ∷ (us ++ Word K.End ∷ [])))) (IfElse c as' bs)
    -- `if e, do: e`, and with `, else: e`
    if_do : {e f : End} {cs ts : List Token} {c a : Tree} → Derives match_level e cs c → Derives match_level f ts a
        → Derives primary_level OpenIf (Word K.If ∷ (cs ++ Mark S.Comma ∷ Key do_key ∷ ts)) (If c (OneMore a NoTree))
    if_do_else : {e f g : End} {cs ts us : List Token} {c a b : Tree} → Derives match_level e cs c → Derives match_level f ts a → else_may_follow f ≡ true → Derives match_level g us b
        → Derives primary_level (reaching g) (Word K.If ∷ (cs ++ Mark S.Comma ∷ Key do_key ∷ (ts ++ Mark S.Comma ∷ Key else_key ∷ us))) (IfElse c (OneMore a NoTree) (OneMore b NoTree))
    -- `case e do clauses end`, and `cond do` with conditions `end`
    case_block : {e : End} {cs ts sep sep' : List Token} {c : Tree} {ks : Clauses} → Derives match_level e cs c → MaySeparate sep → DeriveClauses ts ks → MaySeparate sep'
        → Derives primary_level Closed (Word K.Case ∷ (cs ++ Word K.Do ∷ (sep ++ (ts ++ (sep' ++ Word K.End ∷ []))))) (Case c ks)
    cond_block : {ts sep sep' : List Token} {ks : Choices} → MaySeparate sep → DeriveChoices ts ks → MaySeparate sep'
        → Derives primary_level Closed (Word K.Cond ∷ Word K.Do ∷ (sep ++ (ts ++ (sep' ++ Word K.End ∷ [])))) (Cond ks)
    -- `for pattern <- e`, further parts, and `do body end` or `, do: e`
    for_block : {e : End} {ps gs rs ts : List Token} {p : Pattern} {g : Tree} {parts : Parts} {as' : Trees} → IsPattern ps p → Derives match_level e gs g → DeriveParts rs parts → DerivesBody ts as'
        → Derives primary_level Closed (Word K.For ∷ (ps ++ Mark S.LeftArrow ∷ (gs ++ (rs ++ Word K.Do ∷ (ts ++ Word K.End ∷ []))))) (For p g parts as')
    for_do : {e f : End} {ps gs rs ts : List Token} {p : Pattern} {g a : Tree} {parts : Parts} → IsPattern ps p → Derives match_level e gs g → DeriveParts rs parts → Derives match_level f ts a
        → Derives primary_level (reaching f) (Word K.For ∷ (ps ++ Mark S.LeftArrow ∷ (gs ++ (rs ++ Mark S.Comma ∷ Key do_key ∷ ts)))) (For p g parts (OneMore a NoTree))
    -- `-`, `+`, `!` or `not` before a unary
    prefixed : {o : Prefix} {e : End} {ts : List Token} {t : Tree} → Derives unary_level e ts t → Derives unary_level e (prefix_token o ∷ ts) (Prefixed o t)
    -- an operator between its operands, each of the level that stands there
    apply : {o : Operator} {e : End} {xs ys : List Token} {a b : Tree} → Derives (left o) Closed xs a → may_precede xs a o ≡ true → Derives (right o) e ys b
        → Derives (level o) e (xs ++ infix_token (I.Operator o) ∷ ys) (Apply o a b)
    -- `x |> f(a)` is `f(x, a)`; to the right stands a call
    pipe : {xs ys : List Token} {a : Tree} {x : List ℕ} {bs : Trees} → Derives pipe_level Closed xs a → DerivesCall ys x bs → Derives pipe_level Closed (xs ++ infix_token I.Pipe ∷ ys) (Call x (OneMore a bs))
    -- pattern = match
    match : {e : End} {xs ys : List Token} {p : Pattern} {t : Tree} → IsPattern xs p → Derives match_level e ys t → Derives match_level e (xs ++ infix_token I.Match ∷ ys) (Match p t)
    -- what derives at a tighter level stands at a looser one too
    tighter : {l m : ℕ} {e : End} {ts : List Token} {t : Tree} → l ≤ m → Derives m e ts t → Derives l e ts t

  -- `name(args)` or `Alias.name(args)`; the name `_` stands in patterns only
  pub data DerivesCall : List Token → List ℕ → Trees → Type 0 where
    plain_call : {x : List ℕ} {ts : List Token} {xs ks : Trees} → is_underscore x ≡ false → DeriveEntries ts xs ks
        → DerivesCall (Called x ∷ Mark S.OpenParen ∷ (ts ++ Mark S.CloseParen ∷ [])) x (arguments xs ks)
    alias_call : {a x : List ℕ} {ts : List Token} {xs ks : Trees} → is_underscore x ≡ false → DeriveEntries ts xs ks
        → DerivesCall (Alias a ∷ Mark S.Dot ∷ Called x ∷ Mark S.OpenParen ∷ (ts ++ Mark S.CloseParen ∷ [])) (a ++ 46 ∷ x) (arguments xs ks)

  -- matches between commas, or none
  pub data DeriveItems : List Token → Trees → Type 0 where
    no_item : DeriveItems [] NoTree
    last_item : {e : End} {ts : List Token} {t : Tree} → Derives match_level e ts t → DeriveItems ts (OneMore t NoTree)
    more_items : {e : End} {ts us : List Token} {t u : Tree} {xs : Trees} → Derives match_level e ts t → DeriveItems us (OneMore u xs) → DeriveItems (ts ++ Mark S.Comma ∷ us) (OneMore t (OneMore u xs))

  -- keys with their values between commas; `do:` and `else:` are none
  pub data DeriveKeys : List Token → Trees → Type 0 where
    last_key : {x : List ℕ} {e : End} {ts : List Token} {t : Tree} → is_block_key x ≡ false → Derives match_level e ts t → DeriveKeys (Key x ∷ ts) (OneMore (pair x t) NoTree)
    more_keys : {x : List ℕ} {e : End} {ts us : List Token} {t u : Tree} {ks : Trees} → is_block_key x ≡ false → Derives match_level e ts t → DeriveKeys us (OneMore u ks)
        → DeriveKeys (Key x ∷ (ts ++ Mark S.Comma ∷ us)) (OneMore (pair x t) (OneMore u ks))

  -- what stands in a list or a call: items, and keys last
  pub data DeriveEntries : List Token → Trees → Trees → Type 0 where
    items_alone : {ts : List Token} {xs : Trees} → DeriveItems ts xs → DeriveEntries ts xs NoTree
    keys_alone : {ts : List Token} {ks : Trees} → DeriveKeys ts ks → DeriveEntries ts NoTree ks
    items_keys : {ts us : List Token} {x : Tree} {xs ks : Trees} → DeriveItems ts (OneMore x xs) → DeriveKeys us ks → DeriveEntries (ts ++ Mark S.Comma ∷ us) (OneMore x xs) ks

  -- what follows the first characters of a text
  pub data DeriveHoles : List Token → Holes → Type 0 where
    no_hole : DeriveHoles [] NoHole
    hole : {e : End} {ts us : List Token} {t : Tree} {bytes : List ℕ} {hs : Holes} → Derives match_level e ts t → DeriveHoles us hs → DeriveHoles (HoleBegins ∷ (ts ++ HoleEnds bytes ∷ us)) (Hole t bytes hs)

  -- expressions between separators, at least one
  pub data DeriveAll : List Token → Trees → Type 0 where
    last_one : {e : End} {ts : List Token} {t : Tree} → Derives match_level e ts t → DeriveAll ts (OneMore t NoTree)
    one_more : {e : End} {ts us : List Token} {t u : Tree} {xs : Trees} → Derives match_level e ts t → DeriveAll us (OneMore u xs) → DeriveAll (ts ++ Separator ∷ us) (OneMore t (OneMore u xs))

  -- the body of a block, with a separator first and last or without
  pub data DerivesBody : List Token → Trees → Type 0 where
    body : {ts sep sep' : List Token} {xs : Trees} → MaySeparate sep → DeriveAll ts xs → MaySeparate sep' → DerivesBody (sep ++ (ts ++ sep')) xs

  -- `pattern -> body` between separators
  pub data DeriveClauses : List Token → Clauses → Type 0 where
    last_clause : {ps sep ts : List Token} {p : Pattern} {xs : Trees} → IsPattern ps p → MaySeparate sep → DeriveAll ts xs → DeriveClauses (ps ++ Mark S.RightArrow ∷ (sep ++ ts)) (Clause p xs NoClause)
    more_clauses : {ps sep ts us : List Token} {p : Pattern} {xs : Trees} {ks : Clauses} → IsPattern ps p → MaySeparate sep → DeriveAll ts xs → DeriveClauses us ks
        → DeriveClauses (ps ++ Mark S.RightArrow ∷ (sep ++ (ts ++ Separator ∷ us))) (Clause p xs ks)

  -- `e -> body` between separators
  pub data DeriveChoices : List Token → Choices → Type 0 where
    last_choice : {e : End} {cs sep ts : List Token} {c : Tree} {xs : Trees} → Derives match_level e cs c → MaySeparate sep → DeriveAll ts xs → DeriveChoices (cs ++ Mark S.RightArrow ∷ (sep ++ ts)) (Choice c xs NoChoice)
    more_choices : {e : End} {cs sep ts us : List Token} {c : Tree} {xs : Trees} {ks : Choices} → Derives match_level e cs c → MaySeparate sep → DeriveAll ts xs → DeriveChoices us ks
        → DeriveChoices (cs ++ Mark S.RightArrow ∷ (sep ++ (ts ++ Separator ∷ us))) (Choice c xs ks)

  -- the further parts of a `for`, each after a comma: generators and filters
  pub data DeriveParts : List Token → Parts → Type 0 where
    no_part : DeriveParts [] NoPart
    generator : {e : End} {ps gs rs : List Token} {p : Pattern} {g : Tree} {parts : Parts} → IsPattern ps p → Derives match_level e gs g → DeriveParts rs parts
        → DeriveParts (Mark S.Comma ∷ (ps ++ Mark S.LeftArrow ∷ (gs ++ rs))) (Generator p g parts)
    filter : {e : End} {fs rs : List Token} {f : Tree} {parts : Parts} → Derives match_level e fs f → DeriveParts rs parts → DeriveParts (Mark S.Comma ∷ (fs ++ rs)) (Filter f parts)

-- the tokens of a source derive these expressions: a body, which may be empty, with a separator first and last or without
pub data DeriveSource : List Token → Trees → Type 0 where
  no_expression : {sep : List Token} → MaySeparate sep → DeriveSource sep NoTree
  expressions : {ts sep sep' : List Token} {xs : Trees} → MaySeparate sep → DeriveAll ts xs → MaySeparate sep' → DeriveSource (sep ++ (ts ++ sep')) xs
