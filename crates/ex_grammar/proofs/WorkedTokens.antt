-- Worked cases of tokens, newlines and levels, computed.
use Rattle.std.proofs.Common.{◌≡◌, [], ◌∷◌, true, false, Some, None, codes, refl, lit<, List}
use Rattle.std.specs.Char.{encode_utf8}
use Rattle.std.specs.Str.{chars}
use Rattle.unicode_ident.proofs.Computing.{unicode_ident}
use Rattle.ex_grammar.specs.declared.token.Sign.TheVariants as S
use Rattle.ex_grammar.specs.declared.token.Keyword.TheVariants as K
use Rattle.ex_grammar.specs.Tokens.{Number, Name, Called, Alias, Word, Mark, TextBegins, HoleBegins, HoleEnds, TextEnds, Separator, signs, keyword_of}
use Rattle.ex_grammar.specs.Texts.{Says, nothing, plain, escape, short, coded}
use Rattle.ex_grammar.specs.Names.{Digits, one, more, spaced}
use Rattle.ex_grammar.specs.Lexing as L
use Rattle.ex_grammar.specs.Lexing.{Blank, Comment, Newline, Semicolon, Whole, Part, part, sign_in, Stands, Cut, TextGoes, key_follows, braces}
use Rattle.ex_grammar.specs.Newlines.{tokens_of, bare}
use Rattle.ex_grammar.specs.Nests.{nests}

-- the longest sign
sign-triple : sign_in signs (codes "===1") ≡ Some (codes "===", S.TripleEqual)
sign-triple = refl

sign-bang : sign_in signs (codes "!==") ≡ Some (codes "!==", S.BangEqualEqual)
sign-bang = refl

sign-less_minus : sign_in signs (codes "<-1") ≡ Some (codes "<-", S.LeftArrow)
sign-less_minus = refl

sign-pipe : sign_in signs (codes "|>f") ≡ Some (codes "|>", S.Pipe)
sign-pipe = refl

sign-bar : sign_in signs (codes "| t") ≡ Some (codes "|", S.Bar)
sign-bar = refl

sign-ampersand : sign_in signs (codes "&1") ≡ None
sign-ampersand = refl

-- words
word-end : keyword_of (codes "end") ≡ Some K.End
word-end = refl

word-rescue : keyword_of (codes "rescue") ≡ Some K.Rescue
word-rescue = refl

word-none : keyword_of (codes "ending") ≡ None
word-none = refl

-- keys: a blank must follow the `:`
key-space : key_follows (codes ": 1") ≡ true
key-space = refl

key-none : key_follows (codes ":b") ≡ false
key-none = refl

key-return : key_follows (58 ∷ 13 ∷ 10 ∷ []) ≡ true
key-return = refl

key-lone_return : key_follows (58 ∷ 13 ∷ 49 ∷ []) ≡ false
key-lone_return = refl

key-end : key_follows (codes ":") ≡ false
key-end = refl

-- integers: `1_000`
digits-spaced : Digits (codes "1_000") (codes "1000")
digits-spaced = spaced refl (more refl (more refl (one refl)))

-- texts: `a\n#b\u00e9` says a, LF, #, b and é
says-escapes : Says (codes "a\\n#b\\u00e9") (34 ∷ []) (97 ∷ 10 ∷ 35 ∷ 98 ∷ 195 ∷ 169 ∷ [])
unfolding encode_utf8
says-escapes = plain refl (escape (short refl) (plain refl (plain refl (escape (coded {a = 48} {b = 48} {c = 101} {d = 57} refl refl) nothing))))

-- pieces without places that matter
abbrev at : List L.Piece → List Part
at [] = []
at (p ∷ ps) = part p 0 0 ∷ at ps

-- `x |>` / `f(1)`: dropped after a binary operator
after-pipe : bare (tokens_of (at (Whole (Name (codes "x")) ∷ Whole (Mark S.Pipe) ∷ Newline ∷ Whole (Called (codes "f")) ∷ []))) ≡ Name (codes "x") ∷ Mark S.Pipe ∷ Called (codes "f") ∷ []
after-pipe = refl

-- `not` / `a`: after a unary one; and after `.`
after-not : bare (tokens_of (at (Whole (Word K.Not) ∷ Newline ∷ Whole (Name (codes "a")) ∷ []))) ≡ Word K.Not ∷ Name (codes "a") ∷ []
after-not = refl

after-dot : bare (tokens_of (at (Whole (Alias (codes "A")) ∷ Whole (Mark S.Dot) ∷ Newline ∷ Whole (Called (codes "f")) ∷ []))) ≡ Alias (codes "A") ∷ Mark S.Dot ∷ Called (codes "f") ∷ []
after-dot = refl

-- `->` / `1`, `do` / `1`, `^` / `x`: not dropped
after-arrow : bare (tokens_of (at (Whole (Mark S.RightArrow) ∷ Newline ∷ Whole (Number 1) ∷ []))) ≡ Mark S.RightArrow ∷ Separator ∷ Number 1 ∷ []
after-arrow = refl

after-do : bare (tokens_of (at (Whole (Word K.Do) ∷ Newline ∷ Whole (Number 1) ∷ []))) ≡ Word K.Do ∷ Separator ∷ Number 1 ∷ []
after-do = refl

after-caret : bare (tokens_of (at (Whole (Mark S.Caret) ∷ Newline ∷ Whole (Number 1) ∷ []))) ≡ Mark S.Caret ∷ Separator ∷ Number 1 ∷ []
after-caret = refl

-- `a` / `and b`, `a` / `in b`, `a` / `|> b`: dropped before
before-and : bare (tokens_of (at (Whole (Number 1) ∷ Newline ∷ Whole (Word K.And) ∷ []))) ≡ Number 1 ∷ Word K.And ∷ []
before-and = refl

before-in : bare (tokens_of (at (Whole (Number 1) ∷ Newline ∷ Comment ∷ Newline ∷ Blank ∷ Whole (Word K.In) ∷ []))) ≡ Number 1 ∷ Word K.In ∷ []
before-in = refl

-- `1` / `- 2`, `1` / `! 2`, `1` / `, 2`, `1` / `| 2`: not dropped before
before-minus : bare (tokens_of (at (Whole (Number 1) ∷ Newline ∷ Whole (Mark S.Minus) ∷ []))) ≡ Number 1 ∷ Separator ∷ Mark S.Minus ∷ []
before-minus = refl

before-comma : bare (tokens_of (at (Whole (Number 1) ∷ Newline ∷ Whole (Mark S.Comma) ∷ []))) ≡ Number 1 ∷ Separator ∷ Mark S.Comma ∷ []
before-comma = refl

before-bar : bare (tokens_of (at (Whole (Number 1) ∷ Newline ∷ Whole (Mark S.Bar) ∷ []))) ≡ Number 1 ∷ Separator ∷ Mark S.Bar ∷ []
before-bar = refl

-- a newline after `#{` separates, one before its `}` doesn't
around-hole : bare (tokens_of (at (Whole (TextBegins []) ∷ Whole HoleBegins ∷ Newline ∷ Whole (Number 1) ∷ Newline ∷ Whole (HoleEnds []) ∷ Whole TextEnds ∷ [])))
    ≡ TextBegins [] ∷ HoleBegins ∷ Separator ∷ Number 1 ∷ HoleEnds [] ∷ TextEnds ∷ []
around-hole = refl

-- the places of a run: from its first to its last
run-places : tokens_of (part (Whole (Number 1)) 0 1 ∷ part Newline 1 2 ∷ part Blank 2 3 ∷ part Semicolon 3 4 ∷ part Blank 4 5 ∷ part (Whole (Number 2)) 5 6 ∷ [])
    ≡ record { token = Number 1; from = 0; to = 1 } ∷ record { token = Separator; from = 1; to = 4 } ∷ record { token = Number 2; from = 5; to = 6 } ∷ []
run-places = refl

-- `if a + 1 do -b; c end`: `do` ends the stretch and opens a level, `end` closes it
nests-do : nests (Word K.If ∷ Name (codes "a") ∷ Mark S.Plus ∷ Number 1 ∷ Word K.Do ∷ Mark S.Minus ∷ Name (codes "b") ∷ Separator ∷ Name (codes "c") ∷ Word K.End ∷ []) ≡ 0 ∷ 0 ∷ 1 ∷ 1 ∷ 1 ∷ 2 ∷ 2 ∷ 1 ∷ 1 ∷ 0 ∷ []
nests-do = refl

-- `"#{(1 + }" + 2`: the `}` of a `#{` closes all that is open inside
nests-hole : nests (TextBegins [] ∷ HoleBegins ∷ Mark S.OpenParen ∷ Number 1 ∷ Mark S.Plus ∷ HoleEnds [] ∷ TextEnds ∷ Mark S.Plus ∷ Number 2 ∷ []) ≡ 0 ∷ 1 ∷ 2 ∷ 2 ∷ 3 ∷ 0 ∷ 0 ∷ 1 ∷ 1 ∷ []
nests-hole = refl

-- `("#{1 + )}"`: inside a `#{` a closing sign closes nothing that was opened outside, and ends the stretch
nests-hole_closes_nothing : nests (Mark S.OpenParen ∷ TextBegins [] ∷ HoleBegins ∷ Number 1 ∷ Mark S.Plus ∷ Mark S.CloseParen ∷ HoleEnds [] ∷ TextEnds ∷ []) ≡ 1 ∷ 1 ∷ 2 ∷ 2 ∷ 3 ∷ 2 ∷ 1 ∷ 1 ∷ []
nests-hole_closes_nothing = refl

-- `[a, 1 + 2 | b]`, `x = not a |> f()`
nests-bar : nests (Mark S.OpenBracket ∷ Name (codes "a") ∷ Mark S.Comma ∷ Number 1 ∷ Mark S.Plus ∷ Number 2 ∷ Mark S.Bar ∷ Name (codes "b") ∷ Mark S.CloseBracket ∷ []) ≡ 1 ∷ 1 ∷ 1 ∷ 1 ∷ 2 ∷ 2 ∷ 1 ∷ 1 ∷ 0 ∷ []
nests-bar = refl

nests-operators : nests (Name (codes "x") ∷ Mark S.Equals ∷ Word K.Not ∷ Name (codes "a") ∷ Mark S.Pipe ∷ Called (codes "f") ∷ Mark S.OpenParen ∷ Mark S.CloseParen ∷ []) ≡ 0 ∷ 1 ∷ 2 ∷ 2 ∷ 3 ∷ 3 ∷ 4 ∷ 3 ∷ []
nests-operators = refl

-- `"a#{ 1}c" ` in parts with their places
cut-text : Cut 0 (codes "\"a#{ 1}c\"") (part (Whole (TextBegins (codes "a"))) 0 2 ∷ part (Whole HoleBegins) 2 4 ∷ part Blank 4 5 ∷ part (Whole (Number 1)) 5 6 ∷ part (Whole (HoleEnds (codes "c"))) 6 8 ∷ part (Whole TextEnds) 8 9 ∷ []) 9 []
unfolding chars unicode_ident
cut-text =
    L.text {at = 0} {text = codes "a"} {bytes = codes "a"} {after = codes "#{ 1}c\""} (plain refl nothing)
    (L.hole {at = 2} {inner = codes " 1}c\""} {text = codes "c"} (L.piece {at = 4} {text = codes " "} L.space (L.piece {at = 5} {text = codes "1"} {after = codes "}c\""} (L.integer (one refl) (refl, refl) (lit< tt)) L.nothing)) refl (plain refl nothing) L.ends)
    L.nothing
