-- Clients in a list by their numbers, and what leaves what a client has received.
use Rattle.std.proofs.Common.{◌≡◌, ℕ, ◌==◌, true, false, if◌then◌else◌, List, [], ◌∷◌, ◌++◌, map, Option, Some, None, refl, sym, ap, subst, arith}
use Rattle.std.specs.Prelude.{nat_lt}
use Rattle.std.specs.List.{AllByRecursion}
use Rattle.std.proofs.lemmas.Bool.{eqb-true}
use Rattle.std.proofs.lemmas.Bool.Decides.{nat_tests}
use Rattle.delta.specs.declared.Step.{Step}
use Rattle.delta.specs.Steps.{inserted_by}
use Rattle.notebook.specs.declared.parts.Cell.{Cell}
use Rattle.notebook.specs.declared.parts.Parts.{Parts}
use Rattle.notebook.specs.Book.{cells, found}
use Rattle.session_ops.specs.declared.entry.Op.{Op}
use Rattle.session_ops.specs.declared.entry.Op.TheVariants.{Delta, Report}
use Rattle.session_ops.specs.declared.entry.Call.{Call}
use Rattle.session_ops.specs.declared.entry.Call.TheVariants.{Client as ByClient}
use Rattle.session_ops.specs.declared.entry.Reply.{Reply}
use Rattle.session_ops.specs.declared.entry.Reply.TheVariants.{Applied, Refused}
use Rattle.session_ops.specs.declared.entry.Entry.{Entry}
use Rattle.session_ops.specs.Structure.{change_of}
use Rattle.session_ops.specs.Deeds.{deed}
use Rattle.session_ops.specs.State.{State, Misfit, misfit, revision}
use Rattle.session_ops.specs.Numbers.{is_in}
use Rattle.client_sync.specs.Client.{Client, Pending, Edited, Done, NoCell, EditTooLong, Unfit, delivered, held, edited, edited_cell, with_fitting, with_edit, with_report, with_message, reported, pending_of, all_moved, with_own, with_deed, reposted, without_client, received_entry, client_of, put_client}
use Rattle.world.specs.Claims.{number_of}
use Rattle.world.proofs.Quiet.{quiet-number, quiet-seen}

-- what all are, all are after one was put in its place
pub put-all : (P : Client → Type 0) (c : Client) (cs : List Client) → P c → AllByRecursion P cs → AllByRecursion P (put_client c cs)
put-all P c [] p all = tt
put-all P c (d ∷ ds) p all = (elim (d.number == c.number) as (λ b. P (if b then c else d)) [ true ↦ p | false ↦ all.0 ], put-all P c ds p all.1)

-- the numbers stay
pub put-numbers : (c : Client) (cs : List Client) → map number_of (put_client c cs) ≡ map number_of cs
put-numbers c [] = refl
put-numbers c (d ∷ ds) =
    elim (d.number == c.number)
    as (λ b. (d.number == c.number) ≡ b → number_of (if b then c else d) ∷ map number_of (put_client c ds) ≡ d.number ∷ map number_of ds) [
      | true ↦ λ t. rw (put-numbers c ds) (ap (λ n. n ∷ map number_of ds) (sym (eqb-true d.number c.number t)))
      | false ↦ λ t. rw (put-numbers c ds) refl
    ]
    refl

-- the client of a number is as all are, has the number, and the number is among the clients'
pub client-is : (P : Client → Type 0) (n : ℕ) (cs : List Client) (c : Client) → AllByRecursion P cs → client_of n cs ≡ Some c → P c × ((c.number ≡ n) × (is_in n (map number_of cs) ≡ true))
client-is P n [] c all e = absurd (cc e)
client-is P n (d ∷ ds) c all e =
    elim (d.number == n)
    as (λ b. (d.number == n) ≡ b → (if b then Some d else client_of n ds) ≡ Some c → P c × ((c.number ≡ n) × ((if b then true else is_in n (map number_of ds)) ≡ true))) [
      | true ↦ λ t k. let same : d ≡ c = cc k in (subst P same all.0, (subst (λ x. x.number ≡ n) same (eqb-true d.number n t), refl))
      | false ↦ λ t k. client-is P n ds c all.1 k
    ]
    refl
    e

-- the client that an edit leaves has received what it had
abbrev KeepsSeen : Client → Edited → Type 0
KeepsSeen c (Done d) = d.seen ≡ c.seen
KeepsSeen c NoCell = Unit {0}
KeepsSeen c EditTooLong = Unit {0}
KeepsSeen c (Unfit why) = Unit {0}

edit-seen : (c : Client) (cell rev : ℕ) (d : List Step) (o : Option Pending) → (with_edit c cell rev d o).seen ≡ c.seen
edit-seen c cell rev d None = refl
edit-seen c cell rev d (Some p) = refl

fitting-seen : (c : Client) (cell rev : ℕ) (d : List Step) (why : Option Misfit) → KeepsSeen c (with_fitting c cell rev d why)
fitting-seen c cell rev [] None = refl
fitting-seen c cell rev (s ∷ d) None = edit-seen c cell rev (s ∷ d) (pending_of cell c.pending)
fitting-seen c cell rev d (Some why) = tt

cell-seen : (c : Client) (cell rev : ℕ) (d : List Step) (own : Option Cell) → KeepsSeen c (edited_cell c cell rev d own)
cell-seen c cell rev d None = tt
cell-seen c cell rev d (Some own) =
    elim (nat_lt 65536 (inserted_by d))
    as (λ b. KeepsSeen c (if b then EditTooLong else with_fitting c cell rev d (misfit d own.source)))
    [ true ↦ tt | false ↦ fitting-seen c cell rev d (misfit d own.source) ]

pub edited-seen : (n0 : Parts) (c d : Client) (cell : ℕ) (x : List Step) → edited n0 c cell x ≡ Done d → d.seen ≡ c.seen
edited-seen n0 c d cell x e = subst (KeepsSeen c) e (cell-seen c cell (revision (delivered n0 c) cell) x (found cell (cells (held n0 c))))

-- and its number
abbrev KeepsNumber : Client → Edited → Type 0
KeepsNumber c (Done d) = d.number ≡ c.number
KeepsNumber c NoCell = Unit {0}
KeepsNumber c EditTooLong = Unit {0}
KeepsNumber c (Unfit why) = Unit {0}

edit-number : (c : Client) (cell rev : ℕ) (d : List Step) (o : Option Pending) → (with_edit c cell rev d o).number ≡ c.number
edit-number c cell rev d None = refl
edit-number c cell rev d (Some p) = refl

fitting-number : (c : Client) (cell rev : ℕ) (d : List Step) (why : Option Misfit) → KeepsNumber c (with_fitting c cell rev d why)
fitting-number c cell rev [] None = refl
fitting-number c cell rev (s ∷ d) None = edit-number c cell rev (s ∷ d) (pending_of cell c.pending)
fitting-number c cell rev d (Some why) = tt

cell-edit-number : (c : Client) (cell rev : ℕ) (d : List Step) (own : Option Cell) → KeepsNumber c (edited_cell c cell rev d own)
cell-edit-number c cell rev d None = tt
cell-edit-number c cell rev d (Some own) =
    elim (nat_lt 65536 (inserted_by d))
    as (λ b. KeepsNumber c (if b then EditTooLong else with_fitting c cell rev d (misfit d own.source)))
    [ true ↦ tt | false ↦ fitting-number c cell rev d (misfit d own.source) ]

pub edited-number : (n0 : Parts) (c d : Client) (cell : ℕ) (x : List Step) → edited n0 c cell x ≡ Done d → d.number ≡ c.number
edited-number n0 c d cell x e = subst (KeepsNumber c) e (cell-edit-number c cell (revision (delivered n0 c) cell) x (found cell (cells (held n0 c))))

-- a report is one message more
report-message : (c d : Client) (cell rev : ℕ) (o : Option Cell) → with_report c cell rev o ≡ Some d → d ≡ with_message c (Report cell rev)
report-message c d cell rev None e = absurd (cc e)
report-message c d cell rev (Some own) e = let same : with_message c (Report cell rev) ≡ d = cc e in sym same

pub reported-message : (n0 : Parts) (c d : Client) (cell : ℕ) → reported n0 c cell ≡ Some d → d ≡ with_message c (Report cell (revision (delivered n0 c) cell))
reported-message n0 c d cell e = report-message c d cell (revision (delivered n0 c) cell) (found cell (cells (held n0 c))) e

reposted-seen : (c : Client) (cell rev : ℕ) (b : List Step) → (reposted c cell rev b).seen ≡ c.seen
reposted-seen c cell rev [] = refl
reposted-seen c cell rev (s ∷ b) = refl

own-seen : (c : Client) (cell rev : ℕ) (o : Option Pending) → (with_own c cell rev o).seen ≡ c.seen
own-seen c cell rev None = refl
own-seen c cell rev (Some p) = reposted-seen c cell rev p.buffer

op-seen : (s : State) (c : Client) (n : ℕ) (op : Op) (answer : Reply) → (with_deed s.book c (deed (ByClient n op) answer)).seen ≡ c.seen
op-seen s c n op (Refused why) = refl
op-seen s c n (Delta cell base d) (Applied rev x) =
    elim (n == c.number)
    as (λ b. (if b then with_own c cell rev (pending_of cell c.pending) else record c { pending = all_moved cell x c.pending }).seen ≡ c.seen)
    [ true ↦ own-seen c cell rev (pending_of cell c.pending) | false ↦ refl ]
op-seen s c n op answer = quiet-seen s.book c (change_of op)

call-seen : (s : State) (c : Client) (call : Call) (answer : Reply) → (with_deed s.book c (deed call answer)).seen ≡ c.seen
call-seen s c (ByClient n op) answer = op-seen s c n op answer
call-seen s c call answer = refl

-- a received entry is one more that the client has received
pub received-seen : (n0 : Parts) (c : Client) (e : Entry) → (received_entry n0 c e).seen ≡ c.seen ++ e ∷ []
received-seen n0 c e = call-seen (delivered n0 c) (record c { seen = c.seen ++ e ∷ [] }) e.call e.reply

-- and the number stays
reposted-number : (c : Client) (cell rev : ℕ) (b : List Step) → (reposted c cell rev b).number ≡ c.number
reposted-number c cell rev [] = refl
reposted-number c cell rev (s ∷ b) = refl

own-number : (c : Client) (cell rev : ℕ) (o : Option Pending) → (with_own c cell rev o).number ≡ c.number
own-number c cell rev None = refl
own-number c cell rev (Some p) = reposted-number c cell rev p.buffer

op-number : (s : State) (c : Client) (n : ℕ) (op : Op) (answer : Reply) → (with_deed s.book c (deed (ByClient n op) answer)).number ≡ c.number
op-number s c n op (Refused why) = refl
op-number s c n (Delta cell base d) (Applied rev x) =
    elim (n == c.number)
    as (λ b. (if b then with_own c cell rev (pending_of cell c.pending) else record c { pending = all_moved cell x c.pending }).number ≡ c.number)
    [ true ↦ own-number c cell rev (pending_of cell c.pending) | false ↦ refl ]
op-number s c n op answer = quiet-number s.book c (change_of op)

pub call-number : (s : State) (c : Client) (call : Call) (answer : Reply) → (with_deed s.book c (deed call answer)).number ≡ c.number
call-number s c (ByClient n op) answer = op-number s c n op answer
call-number s c call answer = refl

pub received-number : (n0 : Parts) (c : Client) (e : Entry) → (received_entry n0 c e).number ≡ c.number
received-number n0 c e = call-number (delivered n0 c) (record c { seen = c.seen ++ e ∷ [] }) e.call e.reply

-- what follows for all from what all are
pub all-from-all : (P Q : Client → Type 0) (cs : List Client) → ((c : Client) → P c → Q c) → AllByRecursion P cs → AllByRecursion Q cs
all-from-all P Q [] f all = tt
all-from-all P Q (c ∷ cs) f all = (f c all.0, all-from-all P Q cs f all.1)

other-way : (m n : ℕ) → (m == n) ≡ false → (n == m) ≡ false
other-way m n ne = grind (arith, nat_tests, ne)

-- where the number holds no client, all have other numbers
pub all-absent : (P Q : Client → Type 0) (n : ℕ) (cs : List Client) → client_of n cs ≡ None → ((c : Client) → (n == c.number) ≡ false → P c → Q c) → AllByRecursion P cs → AllByRecursion Q cs
all-absent P Q n [] e f all = tt
all-absent P Q n (c ∷ cs) e f all =
    elim (c.number == n)
    as (λ b. (c.number == n) ≡ b → (if b then Some c else client_of n cs) ≡ None → Q c × AllByRecursion Q cs)
    [ true ↦ λ t h. absurd (cc h) | false ↦ λ t h. (f c (other-way c.number n t) all.0, all-absent P Q n cs h f all.1) ]
    refl
    e

-- without the client of a number, the others are left
pub all-without : (P Q : Client → Type 0) (n : ℕ) (cs : List Client) → ((c : Client) → (n == c.number) ≡ false → P c → Q c) → AllByRecursion P cs → AllByRecursion Q (without_client n cs)
all-without P Q n [] f all = tt
all-without P Q n (c ∷ cs) f all =
    elim (c.number == n)
    as (λ b. (c.number == n) ≡ b → AllByRecursion Q (if b then without_client n cs else c ∷ without_client n cs))
    [ true ↦ λ t. all-without P Q n cs f all.1 | false ↦ λ t. (f c (other-way c.number n t) all.0, all-without P Q n cs f all.1) ]
    refl

-- one client put in its place, the others as they are
pub put-others : (P Q : Client → Type 0) (x : Client) (cs : List Client) → Q x → ((c : Client) → (x.number == c.number) ≡ false → P c → Q c) → AllByRecursion P cs → AllByRecursion Q (put_client x cs)
put-others P Q x [] q f all = tt
put-others P Q x (c ∷ cs) q f all = (
  elim (c.number == x.number)
      as (λ b. (c.number == x.number) ≡ b → Q (if b then x else c))
      [ true ↦ λ t. q | false ↦ λ t. f c (other-way c.number x.number t) all.0 ]
      refl,
  put-others P Q x cs q f all.1,
)
