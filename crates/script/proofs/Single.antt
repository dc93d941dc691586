-- Lines of bytes stand for one script at most.
use Rattle.std.proofs.Common.{◌≡◌, ◌∙◌, ℕ, suc, ◌<◌, true, false, if◌then◌else◌, List, [], ◌∷◌, length, codes, refl, sym, ap, subst, arith, Option, Some, None, unwrap_or}
use Rattle.std.specs.Prelude.{slice_get}
use Rattle.std.specs.Str.{bytes_eq}
use Rattle.std.specs.Str.Parse.{digits_value, IsNumeral}
use Rattle.std.proofs.lemmas.Slice.Eq.{bytes_eq-Decides}
use Rattle.script.specs.declared.line.ScriptLine.{ScriptLine}
use Rattle.script.specs.declared.line.ScriptLine.TheVariants.{Join, Leave, Edit, Post, PostReport, Send, Recv, Sync, Show, Pending, Settle, Cells, Book, RawJoin, Raw}
use Rattle.session_ops.specs.declared.entry.Op.{Op}
use Rattle.script.specs.declared.line.Count.{Count}
use Rattle.script.specs.declared.line.Count.TheVariants.{AtMost, All}
use Rattle.script.specs.Words.{first_word, after_word}
use Rattle.script.specs.Number.{IsNumber}
use Rattle.script.specs.Line.{word_of, client_of, IsCount, IsEnd, IsRest, IsLine}
use Rattle.script.specs.Ops.{IsOp}
use Rattle.script.proofs.Operations.{steps_in, steps-are, op_in, op-is, postable-word}

-- what a line's end writes, where it is one
abbrev count_in : List ℕ → Count
count_in text = if bytes_eq text (codes "all") then All else AtMost (digits_value 10 text)

abbrev posted_in : ℕ → List ℕ → ScriptLine
posted_in client end =
    if bytes_eq (first_word end) (codes "report") then PostReport client (digits_value 10 (after_word end)) else Post client (op_in (first_word end) (after_word end))

-- the line with the word, the client and the end, where there is one
abbrev line_in : List ℕ → ℕ → List ℕ → ScriptLine
line_in word client end =
    if bytes_eq word (codes "join") then Join client
    else if bytes_eq word (codes "edit") then Edit client (digits_value 10 (first_word end)) (steps_in (after_word end))
    else if bytes_eq word (codes "leave") then Leave client
    else if bytes_eq word (codes "post") then posted_in client end
    else if bytes_eq word (codes "send") then Send client (count_in end)
    else if bytes_eq word (codes "recv") then Recv client (count_in end)
    else if bytes_eq word (codes "sync") then Sync
    else if bytes_eq word (codes "show") then Show client
    else if bytes_eq word (codes "pending") then Pending client (digits_value 10 end)
    else if bytes_eq word (codes "settle") then Settle
    else if bytes_eq word (codes "rawjoin") then RawJoin client
    else if bytes_eq word (codes "raw") then Raw client (op_in (first_word end) (after_word end))
    else if bytes_eq word (codes "cells") then Cells
    else Book

all-no-number : (text : List ℕ) (number : ℕ) → text ≡ codes "all" → IsNumber text number → ⊥
all-no-number text number all is =
    let digits : IsNumeral 10 (codes "all") = subst (IsNumeral 10) all is.digits in
    absurd (omega (arith, digits.1.0))

count-is : (count : Count) (text : List ℕ) → IsCount text count → count ≡ count_in text
count-is (AtMost most) text is =
    elim (bytes_eq text (codes "all")) as (λ b. bytes_eq text (codes "all") ≡ b → AtMost most ≡ (if b then All else AtMost (digits_value 10 text))) [
      | true ↦ λ t. absurd (all-no-number text most ((bytes_eq-Decides text (codes "all")).0 t) is)
      | false ↦ λ f. ap AtMost is.value
    ] refl
count-is (All) text is = sym (ap (λ b. if b then All else AtMost (digits_value 10 text)) ((bytes_eq-Decides text (codes "all")).1 is))

posted-is : (client : ℕ) (op : Op) (end : List ℕ) → IsOp end op → Post client op ≡ posted_in client end
posted-is client op end is =
    let rest : List ℕ = after_word end in
    let other : bytes_eq (first_word end) (codes "report") ≡ false = postable-word (first_word end) rest op is.0 is.1 in
    ap (λ o. Post client o) (op-is (first_word end) rest op is.1)
    ∙ sym (ap (λ b. if b then PostReport client (digits_value 10 rest) else Post client (op_in (first_word end) rest)) other)

report-is : (client cell : ℕ) (end : List ℕ) → first_word end ≡ codes "report" → cell ≡ digits_value 10 (after_word end) → PostReport client cell ≡ posted_in client end
report-is client cell end word value =
    let rest : List ℕ = after_word end in
    ap (λ n. PostReport client n) value
    ∙ sym (ap (λ b. if b then PostReport client (digits_value 10 rest) else Post client (op_in (first_word end) rest)) ((bytes_eq-Decides (first_word end) (codes "report")).1 word))

line-is : (line : ScriptLine) (end : List ℕ) → IsEnd end line → line ≡ line_in (word_of line) (unwrap_or (client_of line) 0) end
line-is (Join client) end is = refl
line-is (Leave client) end is = refl
line-is (Edit client cell delta) end is = ap (λ n. Edit client n delta) is.0.value ∙ ap (λ d. Edit client (digits_value 10 (first_word end)) d) (steps-are delta (after_word end) is.1.steps)
line-is (Post client op) end is = posted-is client op end is
line-is (PostReport client cell) end is = report-is client cell end is.0 is.1.value
line-is (Send client count) end is = ap (λ n. Send client n) (count-is count end is)
line-is (Recv client count) end is = ap (λ n. Recv client n) (count-is count end is)
line-is (Sync) end is = refl
line-is (Show client) end is = refl
line-is (Pending client cell) end is = ap (λ n. Pending client n) is.value
line-is (Settle) end is = refl
line-is (Cells) end is = refl
line-is (Book) end is = refl
line-is (RawJoin client) end is = refl
line-is (Raw client op) end is = ap (λ o. Raw client o) (op-is (first_word end) (after_word end) op is)

-- the end of what follows a line's word
abbrev end_in : List ℕ → Option ℕ → List ℕ
end_in rest None = rest
end_in rest (Some client) = after_word rest

end-is : (names : List (List ℕ)) (rest : List ℕ) (client : Option ℕ) (line : ScriptLine) → IsRest names rest client line → IsEnd (end_in rest client) line
end-is names rest None line is = is
end-is names rest (Some client) line is = is.1

-- a text is one line, where its client is known
pub line-same : (names names' : List (List ℕ)) (text : List ℕ) (line line' : ScriptLine) → IsLine names text line → IsLine names' text line' → client_of line ≡ client_of line' → line ≡ line'
line-same names names' text line line' is is' clients =
    let rest : List ℕ = after_word text in
    let one : line ≡ line_in (word_of line) (unwrap_or (client_of line) 0) (end_in rest (client_of line)) = line-is line _ (end-is names rest (client_of line) line is.1) in
    let other : line' ≡ line_in (word_of line') (unwrap_or (client_of line') 0) (end_in rest (client_of line')) = line-is line' _ (end-is names' rest (client_of line') line' is'.1) in
    let words : word_of line ≡ word_of line' = sym is.0 ∙ is'.0 in
    one ∙ ap (λ w. line_in w (unwrap_or (client_of line) 0) (end_in rest (client_of line))) words ∙ ap (λ c. line_in (word_of line') (unwrap_or c 0) (end_in rest c)) clients ∙ sym other

-- lists with the same at each place
pub lists-same : (xs ys : List (List ℕ)) → length xs ≡ length ys → ((place : ℕ) → place < length xs → slice_get xs place ≡ slice_get ys place) → xs ≡ ys
lists-same [] [] long at = refl
lists-same [] (y ∷ ys) long at = absurd (omega (arith, long))
lists-same (x ∷ xs) [] long at = absurd (omega (arith, long))
lists-same (x ∷ xs) (y ∷ ys) long at =
    let first : Some x ≡ Some y = at 0 (omega arith) in
    let heads : x ≡ y = (cc) in
    let tails : xs ≡ ys = lists-same xs ys (omega (arith, long)) (λ place less. at (suc place) (omega (arith, less))) in
    ap (λ l. x ∷ l) tails ∙ ap (λ z. z ∷ ys) heads
