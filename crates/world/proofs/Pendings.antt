-- The pending edits of a client, and the messages in its outbox, by cells.
use Rattle.std.proofs.Common.{◌≡◌, ℕ, ◌==◌, true, false, if◌then◌else◌, List, [], ◌∷◌, ◌++◌, Option, Some, None, refl, sym, ap, ◌∙◌, arith, append_assoc}
use Rattle.std.proofs.lemmas.Bool.Decides.{nat_tests}
use Rattle.std.proofs.lemmas.Bool.{eq-eqb}
use Rattle.delta.specs.declared.Step.{Step}
use Rattle.session_ops.specs.declared.entry.Op.{Op}
use Rattle.session_ops.specs.declared.entry.Op.TheVariants.{Delta, Report}
use Rattle.delta.specs.Moves.{transformed}
use Rattle.client_sync.specs.Client.{Pending, pending_of, all_moved, without}
use Rattle.world.specs.Waiting.{Edits, Reports, message_in, messages_for}

-- another's delta moves what is pending
abbrev pub shifted : List Step → Pending → Pending
shifted x p = record p { flight = transformed false x p.flight; buffer = transformed false (transformed true p.flight x) p.buffer }

abbrev pub shifted_option : List Step → Option Pending → Option Pending
shifted_option x None = None
shifted_option x (Some p) = Some (shifted x p)

pub shifted-same : (j : ℕ) (x : List Step) (ps : List Pending) → pending_of j (all_moved j x ps) ≡ shifted_option x (pending_of j ps)
shifted-same j x [] = refl
shifted-same j x (p ∷ ps) =
    elim (p.cell == j)
    as (λ b. (p.cell == j) ≡ b → (if (if b then shifted x p else p).cell == j then Some (if b then shifted x p else p) else pending_of j (all_moved j x ps)) ≡ shifted_option x (if b then Some p else pending_of j ps)) [
      | true ↦ λ t. ap (λ c. if c then Some (shifted x p) else pending_of j (all_moved j x ps)) t
      | false ↦ λ t. ap (λ c. if c then Some p else pending_of j (all_moved j x ps)) t ∙ shifted-same j x ps
    ]
    refl

pub shifted-other : (j k : ℕ) (x : List Step) (ps : List Pending) → (j == k) ≡ false → pending_of k (all_moved j x ps) ≡ pending_of k ps
shifted-other j k x [] ne = refl
shifted-other j k x (p ∷ ps) ne =
    elim (p.cell == j)
    as (λ b. (p.cell == j) ≡ b → (if (if b then shifted x p else p).cell == k then Some (if b then shifted x p else p) else pending_of k (all_moved j x ps)) ≡ (if p.cell == k then Some p else pending_of k ps)) [
      | true ↦ λ t. let no : (p.cell == k) ≡ false = grind (arith, nat_tests, t, ne) in
          ap (λ c. if c then Some (shifted x p) else pending_of k (all_moved j x ps)) no ∙ (shifted-other j k x ps ne ∙ sym (ap (λ c. if c then Some p else pending_of k ps) no))
      | false ↦ λ t. ap (λ r. if p.cell == k then Some p else r) (shifted-other j k x ps ne)
    ]
    refl

pub without-same : (j : ℕ) (ps : List Pending) → pending_of j (without j ps) ≡ None
without-same j [] = refl
without-same j (p ∷ ps) =
    elim (p.cell == j)
    as (λ b. (p.cell == j) ≡ b → pending_of j (if b then without j ps else p ∷ without j ps) ≡ None)
    [ true ↦ λ t. without-same j ps | false ↦ λ t. ap (λ c. if c then Some p else pending_of j (without j ps)) t ∙ without-same j ps ]
    refl

pub without-other : (j k : ℕ) (ps : List Pending) → (j == k) ≡ false → pending_of k (without j ps) ≡ pending_of k ps
without-other j k [] ne = refl
without-other j k (p ∷ ps) ne =
    elim (p.cell == j)
    as (λ b. (p.cell == j) ≡ b → pending_of k (if b then without j ps else p ∷ without j ps) ≡ (if p.cell == k then Some p else pending_of k ps)) [
      | true ↦ λ t. let no : (p.cell == k) ≡ false = grind (arith, nat_tests, t, ne) in without-other j k ps ne ∙ sym (ap (λ c. if c then Some p else pending_of k ps) no)
      | false ↦ λ t. ap (λ r. if p.cell == k then Some p else r) (without-other j k ps ne)
    ]
    refl

-- one more at the end, for a cell that has none
pub pending-added : (k : ℕ) (ps : List Pending) (q : Pending) → pending_of k ps ≡ None → q.cell ≡ k → pending_of k (ps ++ q ∷ []) ≡ Some q
pending-added k [] q e is = ap (λ b. if b then Some q else None) (eq-eqb q.cell k is)
pending-added k (p ∷ ps) q e is =
    elim (p.cell == k)
    as (λ b. (if b then Some p else pending_of k ps) ≡ None → (if b then Some p else pending_of k (ps ++ q ∷ [])) ≡ Some q)
    [ true ↦ λ h. absurd (cc h) | false ↦ λ h. pending-added k ps q h is ]
    e

-- one more of another cell
pub pending-beside : (k : ℕ) (ps : List Pending) (q : Pending) → (q.cell == k) ≡ false → pending_of k (ps ++ q ∷ []) ≡ pending_of k ps
pending-beside k [] q ne = ap (λ b. if b then Some q else None) ne
pending-beside k (p ∷ ps) q ne = ap (λ r. if p.cell == k then Some p else r) (pending-beside k ps q ne)

pub messages-append : (k : ℕ) (xs ys : List Op) → messages_for k (xs ++ ys) ≡ messages_for k xs ++ messages_for k ys
messages-append k [] ys = refl
messages-append k (op ∷ xs) ys = ap (λ ms. message_in k op ++ ms) (messages-append k xs ys) ∙ sym (append_assoc (message_in k op) (messages_for k xs) (messages_for k ys))

pub edit-here : (k base : ℕ) (d : List Step) → message_in k (Delta k base d) ≡ Edits base d ∷ []
edit-here k base d = ap (λ b. if b then Edits base d ∷ [] else []) (eq-eqb k k refl)

pub edit-beside : (j k base : ℕ) (d : List Step) → (j == k) ≡ false → message_in k (Delta j base d) ≡ []
edit-beside j k base d ne = ap (λ b. if b then Edits base d ∷ [] else []) ne

pub report-here : (k rev : ℕ) → message_in k (Report k rev) ≡ Reports rev ∷ []
report-here k rev = ap (λ b. if b then Reports rev ∷ [] else []) (eq-eqb k k refl)

pub report-beside : (j k rev : ℕ) → (j == k) ≡ false → message_in k (Report j rev) ≡ []
report-beside j k rev ne = ap (λ b. if b then Reports rev ∷ [] else []) ne
