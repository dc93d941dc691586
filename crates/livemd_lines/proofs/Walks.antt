-- A walk over the pieces of a text, each of which is a line.
use Rattle.std.proofs.Common.{◌≡◌, ℕ, ◌+◌, ◌-◌, ◌<◌, Bool, true, false, cond, List, [], ◌∷◌, ◌++◌, Option, None, length, take, get_or, map, refl, sym, ap, ◌∙◌, arith, suc, append_assoc}
use Rattle.std.specs.Borrow.{Bor}
use Rattle.std.specs.Prelude.{◌==◌, slice_index}
use Rattle.std.specs.List.{slice_split}
use Rattle.std.specs.Str.Lines as str
use Rattle.std.proofs.lemmas.Bool.Decides.{nat_tests}
use Rattle.std.proofs.lemmas.List.{append-nil, take_more, take_all}
use Rattle.livemd_lines.specs.declared.fences.Fence.{Fence}
use Rattle.blanks.specs.Blanks.{drop_end, is_cr}
use Rattle.livemd_lines.specs.Lines.{is_lf, without_empty_last, lines}
use Rattle.livemd_lines.specs.Kinds.{Kinded, kind_in, kinded, kinds_in, kinds_of, open_after}
use Rattle.blanks.proofs.Trims.{drop_end-gone}

is_cr_byte : (c : ℕ) → (c == 13) ≡ true → c ≡ 13
is_cr_byte c h = grind (arith, nat_tests)

strip_test : (l : List ℕ) (b : Bool) → (slice_index l (length l - 1) == 13) ≡ b → drop_end is_cr (cond b (take (length l - 1) l) l) ≡ drop_end is_cr l
strip_test l false h = refl
strip_test [] true h = absurd cc
strip_test (c ∷ l) true h =
    let i : ℕ = length (c ∷ l) - 1 in
    let lt : i < length (c ∷ l) = omega arith in
    let n : i + 1 ≡ length (c ∷ l) = omega arith in
    let parts : c ∷ l ≡ take i (c ∷ l) ++ get_or (c ∷ l) i 0 ∷ [] = sym (take_all (i + 1) (c ∷ l) (omega arith)) ∙ take_more (c ∷ l) i 0 lt in
    sym (ap (drop_end is_cr) parts ∙ drop_end-gone is_cr (take i (c ∷ l)) (get_or (c ∷ l) i 0) h)

strip : (l : List ℕ) → drop_end is_cr (str.strip_carriage_return l) ≡ drop_end is_cr l
strip l = strip_test l (slice_index l (length l - 1) == 13) refl

not_zero : (n : ℕ) → (suc n == 0) ≡ false
not_zero n = grind (arith, nat_tests)

parts_same : (ps : List (List ℕ)) → map (drop_end is_cr) (str.lines_of_parts ps) ≡ map (drop_end is_cr) (without_empty_last ps)
parts_same [] = refl
parts_same ([] ∷ []) = refl
parts_same ((c ∷ x) ∷ []) = rw (not_zero (length x)) refl
parts_same (x ∷ y ∷ more) = rw (strip x, parts_same (y ∷ more)) refl

-- a line of the format is a line of std's without the carriage returns at its end
pub std_lines : (text : List ℕ) → map (drop_end is_cr) (str.lines text) ≡ lines text
std_lines text = parts_same (slice_split is_lf text)

-- what the references show
abbrev pub texts : List (Bor (List ℕ)) → List (List ℕ)
texts ls = map (λ l. l.now) ls

texts-push : (xs : List (Bor (List ℕ))) (x : Bor (List ℕ)) → texts (xs ++ x ∷ []) ≡ texts xs ++ x.now ∷ []
texts-push [] x = refl
texts-push (y ∷ xs) x = ap (λ w. y.now ∷ w) (texts-push xs x)

-- the rest behind one more line
rest_turn : (all : List (List ℕ)) (xs : List (Bor (List ℕ))) (x : Bor (List ℕ)) (rest : List (List ℕ)) → all ≡ texts (xs ++ x ∷ []) ++ rest → all ≡ texts xs ++ x.now ∷ rest
rest_turn all xs x rest e = e ∙ (ap (λ w. w ++ rest) (texts-push xs x) ∙ append_assoc (texts xs) (x.now ∷ []) rest)

rest_end : (all : List (List ℕ)) (xs : List (Bor (List ℕ))) → texts xs ≡ all → all ≡ texts xs ++ []
rest_end all xs e = sym (append-nil (texts xs) ∙ e)

-- ---- a walk

-- what the lines that are left give, whatever they are, is the whole
abbrev pub Leaves : {R : Type 0} → List ℕ → List (Bor (List ℕ)) → Option Fence → (List Kinded → R) → R → Type 0
Leaves text xs around f whole = (rest : List (List ℕ)) → str.lines text ≡ texts xs ++ rest → f (kinds_in around (map (drop_end is_cr) rest)) ≡ whole

-- before the first piece all are left
pub leaves_first : {R : Type 0} (text : List ℕ) (f : List Kinded → R) → Leaves text [] None f (f (kinds_of (lines text)))
leaves_first text f = λ rest e. ap (λ ls. f (kinds_of ls)) (ap (map (drop_end is_cr)) (sym e) ∙ std_lines text)

-- one line in front of the others
in_front : (l : Kinded) (line : List ℕ) (around after : Option Fence) (ls : List (List ℕ)) → l ≡ kinded around line → after ≡ open_after around l.kind → l ∷ kinds_in after ls ≡ kinds_in around (line ∷ ls)
in_front l line around after ls k a =
    ap (λ (o : Option Fence). l ∷ kinds_in o ls) (a ∙ ap (λ (m : Kinded). open_after around m.kind) k)
    ∙ ap (λ (m : Kinded). m ∷ kinds_in (open_after around (kind_in around line)) ls) k

-- a turn, after which g of the lines that are left gives what f of them and the line gave
pub leaves_on : {R : Type 0} (text : List ℕ) (xs : List (Bor (List ℕ))) (x : Bor (List ℕ)) (l : Kinded) (around after : Option Fence) (f g : List Kinded → R) (whole : R) → Leaves text xs around f whole → l ≡ kinded around (drop_end is_cr x.now) → after ≡ open_after around l.kind
    → ((ls : List Kinded) → g ls ≡ f (l ∷ ls)) → Leaves text (xs ++ x ∷ []) after g whole
leaves_on text xs x l around after f g whole h k a s = λ rest e.
    let ls : List (List ℕ) = map (drop_end is_cr) rest in
    s (kinds_in after ls) ∙ (ap f (in_front l (drop_end is_cr x.now) around after ls k a) ∙ h (x.now ∷ rest) (rest_turn (str.lines text) xs x rest e))

-- after the last piece none is left
pub leaves_last : {R : Type 0} (text : List ℕ) (xs : List (Bor (List ℕ))) (around : Option Fence) (f : List Kinded → R) (whole : R) → Leaves text xs around f whole → texts xs ≡ str.lines text → f [] ≡ whole
leaves_last text xs around f whole h all = h [] (rest_end _ _ all)
