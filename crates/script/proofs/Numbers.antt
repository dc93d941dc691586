-- Numbers of names, and lines that number them.
use Rattle.std.proofs.Common.{◌≡◌, ◌∙◌, ℕ, zero, suc, ◌+◌, ◌<◌, ◌==◌, ◌⊎◌, inl, inr, true, false, if◌then◌else◌, List, [], ◌∷◌, ◌++◌, length, refl, sym, ap, subst, arith, Some}
use Rattle.std.specs.Prelude.{slice_get}
use Rattle.std.proofs.lemmas.Bool.Decides.{nat_tests}
use Rattle.script.specs.declared.line.ScriptLine.{ScriptLine}
use Rattle.script.specs.Name.{IsName}
use Rattle.script.specs.Line.{client_of}
use Rattle.script.specs.Clients.{IsSeenOrNext, seen_with, AppearInOrder, AreNames, Differ}
use Rattle.script.specs.Next.{IsNewName, HasNumber, names_with}

-- places in names with one more
pub kept-at : (names more : List (List ℕ)) (place : ℕ) (name : List ℕ) → slice_get names place ≡ Some name → slice_get (names ++ more) place ≡ Some name
kept-at [] more place name e = absurd (cc)
kept-at (x ∷ names) more zero name e = e
kept-at (x ∷ names) more (suc place) name e = kept-at names more place name e

pub last-at : (names : List (List ℕ)) (name : List ℕ) → slice_get (names ++ name ∷ []) (length names) ≡ Some name
last-at [] name = refl
last-at (x ∷ names) name = last-at names name

next-place : (names : List (List ℕ)) (x word name : List ℕ) (place : ℕ) → (slice_get names place ≡ Some word) ⊎ ((place ≡ length names) × (word ≡ name)) → (slice_get (x ∷ names) (suc place) ≡ Some word) ⊎ ((suc place ≡ length (x ∷ names)) × (word ≡ name))
next-place names x word name place (inl e) = inl e
next-place names x word name place (inr e) = inr (ap suc e.0, e.1)

pub at-either : (names : List (List ℕ)) (name word : List ℕ) (place : ℕ) → slice_get (names ++ name ∷ []) place ≡ Some word → (slice_get names place ≡ Some word) ⊎ ((place ≡ length names) × (word ≡ name))
at-either [] name word zero e = let s : name ≡ word = (cc) in inr (refl, sym s)
at-either [] name word (suc place) e = absurd (cc)
at-either (x ∷ names) name word zero e = inl e
at-either (x ∷ names) name word (suc place) e = next-place names x word name place (at-either names name word place e)

-- how many are seen with a line, and its client's name
pub seen-old : (seen client : ℕ) → client < seen → seen_with seen (Some client) ≡ seen
seen-old seen client h = grind (arith, nat_tests)

pub seen-new : (seen client : ℕ) → client ≡ seen → seen_with seen (Some client) ≡ seen + 1
seen-new seen client h = grind (arith, nat_tests)

test-same : (a b : ℕ) → a ≡ b → (a == b) ≡ true
test-same a b e = grind (arith, nat_tests)

test-less : (a b : ℕ) → a < b → (a == b) ≡ false
test-less a b e = grind (arith, nat_tests)

pub names-old : (names : List (List ℕ)) (client : ℕ) (name : List ℕ) → client < length names → names_with names (Some client) name ≡ names
names-old names client name h = ap (λ b. if b then names ++ name ∷ [] else names) (test-less client (length names) h)

pub names-new : (names : List (List ℕ)) (client : ℕ) (name : List ℕ) → client ≡ length names → names_with names (Some client) name ≡ names ++ name ∷ []
names-new names client name h = ap (λ b. if b then names ++ name ∷ [] else names) (test-same client (length names) h)

-- a name has one number
pub number-same : (names : List (List ℕ)) (name : List ℕ) (client other : ℕ) → Differ names → HasNumber names name client → HasNumber names name other → client ≡ other
number-same names name client other differ (inl at) (inl at') = differ client other name at at'
number-same names name client other differ (inl at) (inr new) = absurd (new.1.new client at)
number-same names name client other differ (inr new) (inl at) = absurd (new.1.new other at)
number-same names name client other differ (inr new) (inr new') = new.0 ∙ sym new'.0

-- names stay so with the name of a number
pub forms-grown : (names : List (List ℕ)) (name : List ℕ) → AreNames names → IsNewName names name → AreNames (names ++ name ∷ [])
forms-grown names name forms new place word at =
    elim (at-either names name word place at) as (λ _. IsName word) [ inl e ↦ forms place word e | inr e ↦ subst IsName (sym e.1) new.form ]

differ-by : (names : List (List ℕ)) (name word : List ℕ) (place other : ℕ) → Differ names → IsNewName names name → (slice_get names place ≡ Some word) ⊎ ((place ≡ length names) × (word ≡ name)) → (slice_get names other ≡ Some word) ⊎ ((other ≡ length names) × (word ≡ name)) → place ≡ other
differ-by names name word place other differ new (inl e) (inl f) = differ place other word e f
differ-by names name word place other differ new (inl e) (inr f) = absurd (new.new place (e ∙ ap Some f.1))
differ-by names name word place other differ new (inr e) (inl f) = absurd (new.new other (f ∙ ap Some e.1))
differ-by names name word place other differ new (inr e) (inr f) = e.0 ∙ sym f.0

pub differ-grown : (names : List (List ℕ)) (name : List ℕ) → Differ names → IsNewName names name → Differ (names ++ name ∷ [])
differ-grown names name differ new place other word at at' = differ-by names name word place other differ new (at-either names name word place at) (at-either names name word other at')

-- lines in order, and one more
pub appear-push : (seen : ℕ) (ls : List ScriptLine) (line : ScriptLine) (all now : ℕ) → AppearInOrder seen ls all → IsSeenOrNext all (client_of line) → seen_with all (client_of line) ≡ now → AppearInOrder seen (ls ++ line ∷ []) now
appear-push seen [] line all now order next e = subst (λ n. AppearInOrder n (line ∷ []) now) (sym order) (next, e)
appear-push seen (l ∷ ls) line all now order next e = (order.0, appear-push (seen_with seen (client_of l)) ls line all now order.1 next e)

-- the lines before the last one are in order
pub record AppearedBefore (seen : ℕ) (ls : List ScriptLine) (line : ScriptLine) (now : ℕ) : Type 0 where
  pub all : ℕ
  pub order : AppearInOrder seen ls all
  pub next : IsSeenOrNext all (client_of line)
  pub with : seen_with all (client_of line) ≡ now

pub appear-last : (seen : ℕ) (ls : List ScriptLine) (line : ScriptLine) (now : ℕ) → AppearInOrder seen (ls ++ line ∷ []) now → AppearedBefore seen ls line now
appear-last seen [] line now order = record { all = seen; order = refl; next = order.0; with = order.1 }
appear-last seen (l ∷ ls) line now order =
    let before = appear-last (seen_with seen (client_of l)) ls line now order.1 in
    record { all = before.all; order = (order.0, before.order); next = before.next; with = before.with }
