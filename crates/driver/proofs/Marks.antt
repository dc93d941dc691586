-- Marks, entries under 0 and answered evaluations of a history that grows.
use Rattle.std.proofs.Common.{◌≡◌, ℕ, ◌≤◌, ◌==◌, Bool, true, false, if◌then◌else◌, List, [], ◌∷◌, ◌++◌, length, map, drop, Option, Some, None, refl, sym, ap, subst, ◌∙◌, arith, inl, inr}
use Rattle.std.proofs.Math.Seq.{drop-append_seam}
use Rattle.std.proofs.lemmas.Bool.Decides.{nat_tests}
use Rattle.std.proofs.lemmas.List.{length-append, append-nil, append_assoc, map-append}
use Rattle.std.proofs.lemmas.List.Elements.{filter-append}
use Rattle.delta.specs.declared.Step.{Step}
use Rattle.delta.specs.declared.Step.TheVariants.{Retain, Insert, Delete}
use Rattle.session_ops.specs.declared.entry.Op.{Op}
use Rattle.session_ops.specs.declared.entry.Op.TheVariants.{Join as Joins, Leave, SetName, InsertSection, SetSectionName, DeleteSection, MoveSection, SetParent, InsertCell, DeleteCell, RestoreCell, MoveCell, Delta, Report, Queue, Cancel}
use Rattle.session_ops.specs.declared.entry.Call.TheVariants.{Client as ByClient}
use Rattle.session_ops.specs.declared.entry.Reply.{Reply}
use Rattle.session_ops.specs.declared.entry.Reply.TheVariants.{Accepted, Applied, NewCell, NewSection, Started, Stored, Late, Refused}
use Rattle.session_ops.specs.declared.entry.Entry.{Entry}
use Rattle.session_ops.specs.State.{entries_by, by_of}
use Rattle.notebook.specs.declared.change.CellKind.{CellKind}
use Rattle.notebook.specs.declared.change.CellKind.TheVariants.{Code, Markdown}
use Rattle.notebook.specs.declared.parts.Parts.{Parts}
use Rattle.session_ops.specs.Same.{same_numbers, same_step, same_steps, same_option, same_kind, same_op, same_call}
use Rattle.driver.specs.Player.{Sent, helped_since}
use Rattle.driver.specs.Turns.{Made, Looked, turns_from, AreMarks}
use Rattle.driver.specs.Headline.{AllOfRun, AllAnswered, IsFollowed, IsAnsweredNext, AllFair, IsFair, call_of}
use Rattle.driver.specs.Settling.{AreEvaluationsBy}
use Rattle.driver.proofs.TurnLaws.{AllUpTo, entry-more, mark-more}

-- marks
pub marks-up : (low : ℕ) (ms : List ℕ) (len : ℕ) → AreMarks low ms len → AllUpTo len ms
marks-up low [] len h = tt
marks-up low (m ∷ ms) len h = (h.1.0, marks-up m ms len h.1.1)

pub marks-longer : (low : ℕ) (ms : List ℕ) (len more : ℕ) → len ≤ more → AreMarks low ms len → AreMarks low ms more
marks-longer low [] len more le h = tt
marks-longer low (m ∷ ms) len more le h = (h.0, (omega (arith, h.1.0, le), marks-longer m ms len more le h.1.1))

pub marks-push : (low : ℕ) (ms : List ℕ) (len : ℕ) → low ≤ len → AreMarks low ms len → AreMarks low (ms ++ len ∷ []) len
marks-push low [] len le h = (le, (omega arith, tt))
marks-push low (m ∷ ms) len le h = (h.0, (h.1.0, marks-push m ms len h.1.0 h.1.1))

-- the turns of one entry more, and of one mark more
pub turns-made : (h : List Entry) (ms : List ℕ) (e : Entry) → AreMarks 0 ms (length h) → e.by ≡ 0 → turns_from [] (h ++ e ∷ []) ms ≡ turns_from [] h ms ++ Made h e ∷ []
turns-made h ms e am by =
    entry-more [] h e ms (subst (λ n. AllUpTo n ms) (omega arith) (marks-up 0 ms (length h) am))
    ∙ ap (λ ts. turns_from [] h ms ++ ts) (ap (λ b. if b then Made h e ∷ [] else []) {y = true} (grind (arith, nat_tests, by)))

pub turns-looked : (h : List Entry) (ms : List ℕ) → turns_from [] h (ms ++ length h ∷ []) ≡ turns_from [] h ms ++ Looked h ∷ []
turns-looked h ms = mark-more [] h ms (length h) (omega arith)

-- the turns of evaluators' entries: none
pub turns-evaluated : (h : List Entry) (ms : List ℕ) (es : List Entry) → AreMarks 0 ms (length h) → AreEvaluationsBy 1 es → turns_from [] (h ++ es) ms ≡ turns_from [] h ms
turns-evaluated h ms [] am ev = ap (λ x. turns_from [] x ms) (append-nil h)
turns-evaluated h ms (e ∷ es) am ev =
    let more : length h ≤ length (h ++ e ∷ []) = rw (length-append h (e ∷ [])) (omega arith) in
    ap (λ x. turns_from [] x ms) (sym (append_assoc h (e ∷ []) es))
    ∙ (turns-evaluated (h ++ e ∷ []) ms es (marks-longer 0 ms (length h) (length (h ++ e ∷ [])) more am) ev.1.1
    ∙ (entry-more [] h e ms (subst (λ n. AllUpTo n ms) (omega arith) (marks-up 0 ms (length h) am))
    ∙ (ap (λ b. turns_from [] h ms ++ (if b then Made h e ∷ [] else [])) {y = false} (grind (arith, nat_tests, ev.0)) ∙ append-nil (turns_from [] h ms))))

-- entries under 0
pub run-push : (h : List Entry) (e : Entry) → AllOfRun 0 h → e.by ≡ 0 → AllOfRun 0 (h ++ e ∷ [])
run-push [] e r by = (inl by, tt)
run-push (x ∷ h) e r by = (r.0, run-push h e r.1 by)

pub by-append : (h k : List Entry) (p : ℕ) → entries_by (h ++ k) p ≡ entries_by h p ++ entries_by k p
by-append h k p = filter-append (λ e. by_of e == p) h k

pub asked-push : (h : List Entry) (e : Entry) → e.by ≡ 0 → map call_of (entries_by (h ++ e ∷ []) 0) ≡ map call_of (entries_by h 0) ++ e.call ∷ []
asked-push h e by =
    ap (map call_of) (by-append h (e ∷ []) 0 ∙ ap (λ b. entries_by h 0 ++ (if b then e ∷ [] else [])) {y = true} (grind (arith, nat_tests, by))) ∙ map-append call_of (entries_by h 0) (e ∷ [])

-- those under 1 are the same where the player made one more
pub helped-push : (h : List Entry) (e : Entry) → e.by ≡ 0 → entries_by (h ++ e ∷ []) 1 ≡ entries_by h 1
helped-push h e by = by-append h (e ∷ []) 1 ∙ (ap (λ b. entries_by h 1 ++ (if b then e ∷ [] else [])) {y = false} (grind (arith, nat_tests, by)) ∙ append-nil (entries_by h 1))

-- with those since what was seen they are all
pub helped-all : (h more seen helped : List Entry) → seen ≡ h → helped ≡ entries_by h 1 → helped ++ helped_since seen (h ++ more) ≡ entries_by (h ++ more) 1
helped-all h more seen helped es eh =
    let new : drop (length seen) (h ++ more) ≡ more = ap (λ x. drop (length x) (h ++ more)) es ∙ drop-append_seam h more in
    ap (λ x. x ++ helped_since seen (h ++ more)) eh ∙ (ap (λ x. entries_by h 1 ++ entries_by x 1) new ∙ sym (by-append h more 1))

-- evaluators' entries stand under their own number
pub run-evaluated : (h es : List Entry) → AllOfRun 0 h → AreEvaluationsBy 1 es → AllOfRun 0 (h ++ es)
run-evaluated [] [] r ev = tt
run-evaluated [] (e ∷ es) r ev = (inr (rw ev.0 (omega arith), ev.1.0), run-evaluated [] es tt ev.1.1)
run-evaluated (x ∷ h) es r ev = (r.0, run-evaluated h es r.1 ev)

none-by : (es : List Entry) → AreEvaluationsBy 1 es → entries_by es 0 ≡ []
none-by [] ev = refl
none-by (e ∷ es) ev = ap (λ b. if b then e ∷ entries_by es 0 else entries_by es 0) {y = false} (grind (arith, nat_tests, ev.0)) ∙ none-by es ev.1.1

pub asked-evaluated : (h es : List Entry) → AreEvaluationsBy 1 es → map call_of (entries_by (h ++ es) 0) ≡ map call_of (entries_by h 0)
asked-evaluated h es ev = ap (map call_of) (by-append h es 0 ∙ (ap (λ ys. entries_by h 0 ++ ys) (none-by es ev) ∙ append-nil (entries_by h 0)))

-- each start has its answer next
next-more : (eval : ℕ) (es : List Entry) (e : Entry) → IsAnsweredNext eval es → IsAnsweredNext eval (es ++ e ∷ [])
next-more eval [] e h = absurd h
next-more eval (x ∷ es) e h = h

pub followed-more : (answer : Reply) (es : List Entry) (e : Entry) → IsFollowed answer es → IsFollowed answer (es ++ e ∷ [])
followed-more (Started eval cell) es e h = next-more eval es e h
followed-more Accepted es e h = h
followed-more (Applied rev x) es e h = h
followed-more (NewCell cell) es e h = h
followed-more (NewSection section) es e h = h
followed-more (Stored eval) es e h = h
followed-more (Late eval) es e h = h
followed-more (Refused why) es e h = h

pub answered-more : (h : List Entry) (e : Entry) → AllAnswered h → IsFollowed e.reply [] → AllAnswered (h ++ e ∷ [])
answered-more [] e a f = (f, tt)
answered-more (x ∷ h) e a f = (followed-more x.reply h e a.0, answered-more h e a.1 f)

-- one more message that was answered fairly
pub fair-push : (n0 : Parts) (ms : List Sent) (m : Sent) → AllFair n0 ms → IsFair n0 m → AllFair n0 (ms ++ m ∷ [])
fair-push n0 [] m a f = (f, tt)
fair-push n0 (x ∷ ms) m a f = (a.0, fair-push n0 ms m a.1 f)

-- a call is the same as itself
equal-self : (n : ℕ) → (n == n) ≡ true
equal-self n = grind (arith, nat_tests)

same-numbers : (xs : List ℕ) → same_numbers xs xs ≡ true
same-numbers [] = refl
same-numbers (x ∷ xs) = rw (equal-self x) (same-numbers xs)

same-step : (s : Step) → same_step s s ≡ true
same-step (Retain n) = equal-self n
same-step (Insert t) = same-numbers t
same-step (Delete n) = equal-self n

same-steps : (d : List Step) → same_steps d d ≡ true
same-steps [] = refl
same-steps (s ∷ d) = rw (same-step s) (same-steps d)

same-option : (o : Option ℕ) → same_option o o ≡ true
same-option None = refl
same-option (Some n) = equal-self n

same-kind : (k : CellKind) → same_kind k k ≡ true
same-kind Code = refl
same-kind Markdown = refl

same-op : (op : Op) → same_op op op ≡ true
same-op Joins = refl
same-op Leave = refl
same-op (SetName name) = same-numbers name
same-op (InsertSection index name) = rw (equal-self index) (same-numbers name)
same-op (SetSectionName section name) = rw (equal-self section) (same-numbers name)
same-op (DeleteSection section) = equal-self section
same-op (MoveSection section index) = rw (equal-self section) (equal-self index)
same-op (SetParent section parent) = rw (equal-self section) (same-option parent)
same-op (InsertCell section index kind) = rw (equal-self section, equal-self index) (same-kind kind)
same-op (DeleteCell cell) = equal-self cell
same-op (RestoreCell cell section index) = rw (equal-self cell, equal-self section) (equal-self index)
same-op (MoveCell cell section index) = rw (equal-self cell, equal-self section) (equal-self index)
same-op (Delta cell base d) = rw (equal-self cell, equal-self base) (same-steps d)
same-op (Report cell rev) = rw (equal-self cell) (equal-self rev)
same-op (Queue cell) = equal-self cell
same-op (Cancel cell) = equal-self cell

pub same-call : (n : ℕ) (op : Op) → same_call (ByClient n op) (ByClient n op) ≡ true
same-call n op = rw (equal-self n) (same-op op)
