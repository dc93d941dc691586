-- The turns of a history that has grown by an entry or by a mark.
use Rattle.std.proofs.Common.{◌≡◌, ℕ, ◌≤◌, ◌<◌, ◌+◌, nat_le, Bool, true, false, if◌then◌else◌, ◌++◌, ◌∷◌, [], List, length, refl, arith, subst}
use Rattle.std.proofs.lemmas.List.{length-append, append_assoc, append-nil}
use Rattle.std.proofs.lemmas.Bool.Decides.{nat_tests}
use Rattle.session_ops.specs.declared.entry.Entry.{Entry}
use Rattle.driver.specs.Turns.{Looked, looks_until, marks_past, all_looks, made_by_0, turns_from}

abbrev pub AllUpTo : ℕ → List ℕ → Type 0
AllUpTo p [] = Unit {0}
AllUpTo p (m ∷ ms) = (m ≤ p) × AllUpTo p ms

until-all : (seen : List Entry) (ms : List ℕ) → AllUpTo (length seen) ms → looks_until seen ms ≡ all_looks seen ms
until-all seen [] h = refl
until-all seen (m ∷ ms) h = rw (until-all seen ms h.1) (grind (arith, nat_tests, h.0))

past-none : (p : ℕ) (ms : List ℕ) → AllUpTo p ms → marks_past p ms ≡ []
past-none p [] h = refl
past-none p (m ∷ ms) h = rw (past-none p ms h.1) (grind (arith, nat_tests, h.0))

by-test-of : (b : Bool) (q : ℕ) (xs ys : List ℕ) → AllUpTo q xs → AllUpTo q ys → AllUpTo q (if b then xs else ys)
by-test-of true q xs ys h k = h
by-test-of false q xs ys h k = k

past-still : (p q : ℕ) (ms : List ℕ) → AllUpTo q ms → AllUpTo q (marks_past p ms)
past-still p q [] h = tt
past-still p q (m ∷ ms) h = by-test-of (nat_le m p) q _ _ (past-still p q ms h.1) h

-- an entry more is a turn more at the end
pub entry-more : (seen h : List Entry) (e : Entry) (ms : List ℕ) → AllUpTo (length seen + length h) ms → turns_from seen (h ++ e ∷ []) ms ≡ turns_from seen h ms ++ made_by_0 (seen ++ h) e
entry-more seen [] e ms up =
    rw (until-all seen ms (subst (λ n. AllUpTo n ms) (grind arith) up), past-none (length seen) ms (subst (λ n. AllUpTo n ms) (grind arith) up), append-nil seen, append-nil (made_by_0 seen e)) refl
entry-more seen (x ∷ h) e ms up =
    rw (
      entry-more (seen ++ x ∷ []) h e (marks_past (length seen) ms) (subst (λ n. AllUpTo n (marks_past (length seen) ms)) (rw (length-append seen (x ∷ [])) (grind arith)) (past-still (length seen) (length seen + length (x ∷ h)) ms up)),
      append_assoc seen (x ∷ []) h,
      append_assoc,
      append_assoc,
    ) refl

looks-one : (seen : List Entry) (ms : List ℕ) (m : ℕ) → all_looks seen (ms ++ m ∷ []) ≡ all_looks seen ms ++ Looked seen ∷ []
looks-one seen [] m = refl
looks-one seen (k ∷ ms) m = rw (looks-one seen ms m) refl

until-same : (seen : List Entry) (ms : List ℕ) (m : ℕ) → length seen < m → looks_until seen (ms ++ m ∷ []) ≡ looks_until seen ms
until-same seen [] m above = grind (arith, nat_tests, above)
until-same seen (k ∷ ms) m above = rw (until-same seen ms m above) refl

past-one-of : (b : Bool) (xs ys : List ℕ) (m : ℕ) → (if b then xs ++ m ∷ [] else ys ++ m ∷ []) ≡ (if b then xs else ys) ++ m ∷ []
past-one-of true xs ys m = refl
past-one-of false xs ys m = refl

past-one : (p : ℕ) (ms : List ℕ) (m : ℕ) → p < m → marks_past p (ms ++ m ∷ []) ≡ marks_past p ms ++ m ∷ []
past-one p [] m above = grind (arith, nat_tests, above)
past-one p (k ∷ ms) m above = rw (past-one p ms m above) (past-one-of (nat_le k p) (marks_past p ms) (k ∷ ms) m)

-- a mark at the end is a turn more at the end
pub mark-more : (seen h : List Entry) (ms : List ℕ) (m : ℕ) → m ≡ length seen + length h → turns_from seen h (ms ++ m ∷ []) ≡ turns_from seen h ms ++ Looked (seen ++ h) ∷ []
mark-more seen [] ms m at = rw (looks-one seen ms m, append-nil seen) refl
mark-more seen (x ∷ h) ms m at =
    rw (
      until-same seen ms m (grind (arith, at)),
      past-one (length seen) ms m (grind (arith, at)),
      mark-more (seen ++ x ∷ []) h (marks_past (length seen) ms) m (rw (length-append seen (x ∷ [])) (grind (arith, at))),
      append_assoc seen (x ∷ []) h,
      append_assoc,
      append_assoc,
    ) refl
