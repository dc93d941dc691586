-- Worked cases of tokens, newlines and levels, computed.
use Rattle.std.proofs.Common.{◌≡◌, [], ◌∷◌, ◌++◌, true, false, codes, refl, lit<}
use Rattle.ex_model.specs.declared.ast.Operator.TheVariants.{Add, Subtract, Multiply}
use Rattle.ex_model.specs.Tokens.{Number, Name, Sign, Equals, Opening, Closing, Separator, is_name, is_keyword}
use Rattle.ex_model.specs.Lexing.{Blank, Comment, Newline, Semicolon, Whole, Writes, space, tab, comment, feed, return_feed, semicolon, number, name, plus, minus, times, equals, opening, closing, Pieces, none, next}
use Rattle.ex_model.specs.Newlines.{tokens_of}
use Rattle.ex_model.specs.Nests.{nests}

-- names and words
name-plain : is_name (codes "a_1") ≡ true
name-plain = refl

name-capital : is_name (codes "aB") ≡ false
name-capital = refl

name-digit : is_name (codes "1a") ≡ false
name-digit = refl

word-nil : is_keyword (codes "nil") ≡ true
word-nil = refl

word-after : is_keyword (codes "after") ≡ true
word-after = refl

word-none : is_keyword (codes "nile") ≡ false
word-none = refl

-- `1 +` / `2`
newline-after_plus : tokens_of (Whole (Number 1) ∷ Blank ∷ Whole (Sign Add) ∷ Newline ∷ Whole (Number 2) ∷ []) ≡ Number 1 ∷ Sign Add ∷ Number 2 ∷ []
newline-after_plus = refl

-- `1 -` / / `2`
newlines-after_minus : tokens_of (Whole (Number 1) ∷ Blank ∷ Whole (Sign Subtract) ∷ Newline ∷ Newline ∷ Whole (Number 2) ∷ []) ≡ Number 1 ∷ Sign Subtract ∷ Number 2 ∷ []
newlines-after_minus = refl

-- `1 *` / `# c` / `2`
comment-after_times : tokens_of (Whole (Number 1) ∷ Blank ∷ Whole (Sign Multiply) ∷ Newline ∷ Comment ∷ Newline ∷ Whole (Number 2) ∷ []) ≡ Number 1 ∷ Sign Multiply ∷ Number 2 ∷ []
comment-after_times = refl

-- `x =` / `2`
newline-after_equals : tokens_of (Whole (Name (codes "x")) ∷ Whole Equals ∷ Newline ∷ Whole (Number 2) ∷ []) ≡ Name (codes "x") ∷ Equals ∷ Number 2 ∷ []
newline-after_equals = refl

-- `(` / `1` / `)`
newline-in_brackets : tokens_of (Whole Opening ∷ Newline ∷ Whole (Number 1) ∷ Newline ∷ Whole Closing ∷ []) ≡ Opening ∷ Number 1 ∷ Closing ∷ []
newline-in_brackets = refl

-- `1` / `+ 2`: two expressions, of which the second doesn't derive
newline-before_plus : tokens_of (Whole (Number 1) ∷ Newline ∷ Whole (Sign Add) ∷ Blank ∷ Whole (Number 2) ∷ []) ≡ Number 1 ∷ Separator ∷ Sign Add ∷ Number 2 ∷ []
newline-before_plus = refl

-- `1` / `- 2`
newline-before_minus : tokens_of (Whole (Number 1) ∷ Newline ∷ Whole (Sign Subtract) ∷ Blank ∷ Whole (Number 2) ∷ []) ≡ Number 1 ∷ Separator ∷ Sign Subtract ∷ Number 2 ∷ []
newline-before_minus = refl

-- `1` / ` * 2`
newline-before_times : tokens_of (Whole (Number 1) ∷ Newline ∷ Blank ∷ Whole (Sign Multiply) ∷ Blank ∷ Whole (Number 2) ∷ []) ≡ Number 1 ∷ Sign Multiply ∷ Number 2 ∷ []
newline-before_times = refl

-- `x` / `= 2`
newline-before_equals : tokens_of (Whole (Name (codes "x")) ∷ Newline ∷ Whole Equals ∷ Blank ∷ Whole (Number 2) ∷ []) ≡ Name (codes "x") ∷ Equals ∷ Number 2 ∷ []
newline-before_equals = refl

-- `1` / `(2)`
newline-before_opening : tokens_of (Whole (Number 1) ∷ Newline ∷ Whole Opening ∷ Whole (Number 2) ∷ Whole Closing ∷ []) ≡ Number 1 ∷ Separator ∷ Opening ∷ Number 2 ∷ Closing ∷ []
newline-before_opening = refl

-- `(1)` / `2`
newline-after_closing : tokens_of (Whole Opening ∷ Whole (Number 1) ∷ Whole Closing ∷ Newline ∷ Whole (Number 2) ∷ []) ≡ Opening ∷ Number 1 ∷ Closing ∷ Separator ∷ Number 2 ∷ []
newline-after_closing = refl

-- a run of separators is one, first and last too: / `1` / `;` / `2 ; ;`
runs-one : tokens_of (Newline ∷ Whole (Number 1) ∷ Newline ∷ Semicolon ∷ Newline ∷ Whole (Number 2) ∷ Blank ∷ Semicolon ∷ Blank ∷ Semicolon ∷ []) ≡ Separator ∷ Number 1 ∷ Separator ∷ Number 2 ∷ Separator ∷ []
runs-one = refl

-- of a run with a `;` in it only the newlines go: `1 +` / `;` / `2`
run-semicolon : tokens_of (Whole (Number 1) ∷ Whole (Sign Add) ∷ Newline ∷ Semicolon ∷ Newline ∷ Whole (Number 2) ∷ []) ≡ Number 1 ∷ Sign Add ∷ Separator ∷ Number 2 ∷ []
run-semicolon = refl

-- `(` / `;` / `)`
run-in_brackets : tokens_of (Whole Opening ∷ Newline ∷ Semicolon ∷ Newline ∷ Whole Closing ∷ []) ≡ Opening ∷ Separator ∷ Closing ∷ []
run-in_brackets = refl

-- a newline after an operator at the source's end goes too
newline-at_end : tokens_of (Whole (Number 1) ∷ Whole (Sign Add) ∷ Newline ∷ []) ≡ Number 1 ∷ Sign Add ∷ []
newline-at_end = refl

-- blanks and comments alone give no token
blanks-none : tokens_of (Blank ∷ Comment ∷ []) ≡ []
blanks-none = refl

-- `(1 + 2) * 3 - (4)`: the levels at each token
nests-brackets : nests (Opening ∷ Number 1 ∷ Sign Add ∷ Number 2 ∷ Closing ∷ Sign Multiply ∷ Number 3 ∷ Sign Subtract ∷ Opening ∷ Number 4 ∷ Closing ∷ [])
    ≡ 1 ∷ 1 ∷ 2 ∷ 2 ∷ 0 ∷ 1 ∷ 1 ∷ 2 ∷ 3 ∷ 3 ∷ 2 ∷ []
nests-brackets = refl

-- `x = 1 + 2; 3 + 4`: a separator ends the stretch
nests-separator : nests (Name (codes "x") ∷ Equals ∷ Number 1 ∷ Sign Add ∷ Number 2 ∷ Separator ∷ Number 3 ∷ Sign Add ∷ Number 4 ∷ [])
    ≡ 0 ∷ 1 ∷ 1 ∷ 2 ∷ 2 ∷ 0 ∷ 0 ∷ 1 ∷ 1 ∷ []
nests-separator = refl

-- `1 + (2 + ; 3`: a separator ends the stretches of its own bracket level alone
nests-inner : nests (Number 1 ∷ Sign Add ∷ Opening ∷ Number 2 ∷ Sign Add ∷ Separator ∷ Number 3 ∷ []) ≡ 0 ∷ 1 ∷ 2 ∷ 2 ∷ 3 ∷ 2 ∷ 2 ∷ []
nests-inner = refl

-- `1 + 2) + 3`: `)` closes nothing and ends the stretch
nests-unbalanced : nests (Number 1 ∷ Sign Add ∷ Number 2 ∷ Closing ∷ Sign Add ∷ Number 3 ∷ []) ≡ 0 ∷ 1 ∷ 1 ∷ 0 ∷ 1 ∷ 1 ∷ []
nests-unbalanced = refl

-- whole sources, byte by byte
-- `a1 # (` LF `*2`
pieces-comment : Pieces (codes "a1 # (" ++ 10 ∷ codes "*2") (Whole (Name (codes "a1")) ∷ Blank ∷ Comment ∷ Newline ∷ Whole (Sign Multiply) ∷ Whole (Number 2) ∷ [])
pieces-comment = next (name {x = codes "a1"} refl refl) refl (next space refl (next (comment {text = codes " ("} refl) refl (next feed refl (next times refl (next (number {d = 50} {ds = []} refl (lit< tt)) tt none)))))

-- `x=1;` CR LF TAB `)`
pieces-return : Pieces (codes "x=1;" ++ 13 ∷ 10 ∷ 9 ∷ codes ")") (Whole (Name (codes "x")) ∷ Whole Equals ∷ Whole (Number 1) ∷ Semicolon ∷ Newline ∷ Blank ∷ Whole Closing ∷ [])
pieces-return = next (name {x = codes "x"} refl refl) refl (next equals refl (next (number {d = 49} {ds = []} refl (lit< tt)) refl (next semicolon refl (next return_feed refl (next tab refl (next closing tt none))))))

-- `-(+007)`
pieces-signs : Pieces (codes "-(+007)") (Whole (Sign Subtract) ∷ Whole Opening ∷ Whole (Sign Add) ∷ Whole (Number 7) ∷ Whole Closing ∷ [])
pieces-signs = next minus refl (next opening refl (next plus refl (next (number {d = 48} {ds = codes "07"} refl (lit< tt)) refl (next closing tt none))))

-- the greatest integer
greatest : Writes (codes "170141183460469231731687303715884105727") (Whole (Number 170141183460469231731687303715884105727))
greatest = number {d = 49} {ds = codes "70141183460469231731687303715884105727"} refl (lit< tt)
