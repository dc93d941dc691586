-- A delta of a joined client, based on a revision from its floor on and fitting the source that the cell had then, is applied.
use Rattle.std.proofs.Common.{◌≡◌, ℕ, ◌+◌, ◌≤◌, inl, inr, true, List, [], ◌∷◌, Some, take, drop, sym, ap, subst, ◌∙◌}
use Rattle.std.proofs.lemmas.Bool.Decides.{eqb_tells}
use Rattle.delta.specs.declared.Step.{Step}
use Rattle.delta.specs.Moves.{FitsText, over}
use Rattle.notebook.specs.declared.parts.Cell.{Cell}
use Rattle.revisions.specs.declared.source_log.SourceLog.{SourceLog}
use Rattle.revisions.specs.Answer.{HasFloorUpTo, IsHonest}
use Rattle.revisions.specs.Kept.{made_by}
use Rattle.revisions.proofs.Honest.{honest-answer}
use Rattle.session_ops.specs.declared.entry.Reply.TheVariants.{Applied}
use Rattle.session_ops.specs.Numbers.{is_in}
use Rattle.session_ops.specs.State.{State, Known, first_source, taken_by, revision, floor, delta_reply}
use Rattle.session_core.specs.Stands.{StandsFor, as_reply, floors_of, source_in}
use Rattle.session_core.proofs.Standing.{answers}

floor-in : (client cell base : ℕ) (ks : List Known) (ns : List ℕ) → is_in client ns ≡ true → floor client cell ks ≤ base → HasFloorUpTo client base (floors_of cell ks ns)
floor-in client cell base ks [] h low = absurd (cc h)
floor-in client cell base ks (n ∷ ns) h low =
    elim (eqb_tells n client) [
      | inl e ↦ inl (e.1, subst (λ m. floor m cell ks ≤ base) (sym e.1) low)
      | inr e ↦ (let later : is_in client ns ≡ true = rw e.0 at h in inr (floor-in client cell base ks ns later low))
    ]

pub honest-in : (s : State) (cell client base : ℕ) (d : List Step) (text : List ℕ) → is_in client s.joined ≡ true → floor client cell s.known ≤ base → base ≤ revision s cell → FitsText d (made_by (take base (taken_by cell s.taken)) (first_source cell s.began)) → IsHonest (source_in s cell text) client base d
honest-in s cell client base d text joined low up fits = record { joined = floor-in client cell base s.known s.joined joined low; not_new = up; fits = fits }

pub honest-reply : (s : State) (cell client base : ℕ) (d : List Step) (c : Cell) (log : SourceLog) → StandsFor s cell c.source log → IsHonest (source_in s cell c.source) client base d
    → delta_reply s cell base d (Some c) ≡ Applied (revision s cell + 1) (over d (drop base (taken_by cell s.taken)))
honest-reply s cell client base d c log h is = sym (answers s cell base d c log h) ∙ ap as_reply (honest-answer (source_in s cell c.source) client base d h.log_of.holds.leads is)
