-- What a client shows of a cell: its edits are seen at once, its own deltas coming back change nothing, and another's delta is done to it moved over all that is pending.
use Rattle.std.proofs.Common.{◌≡◌, ℕ, true, false, List, [], ◌∷◌, Some, None, refl, sym, ap, subst, ◌∙◌}
use Rattle.delta.specs.declared.Step.{Step}
use Rattle.delta.specs.Moves.{FitsText, text_after, transformed, composed}
use Rattle.delta_laws.specs.Laws.{IsPairMoved}
use Rattle.delta_laws.proofs.Laws.{delta_laws}
use Rattle.client_sync.specs.Client.{Pending, after_buffer, with_pending}
use Rattle.world.proofs.Pendings.{shifted}
use Rattle.world.proofs.Editing.{with_buffer, buffer-text}

-- with nothing pending an edit is in flight, and is seen
pub edit-shows : (j : ℕ) (d : List Step) (t : List ℕ) → with_pending (Some (record { cell = j; flight = d; buffer = [] })) t ≡ text_after d (with_pending None t)
edit-shows j d t = refl

-- an edit that goes into the buffer is seen
pub buffer-shows : (d : List Step) (p : Pending) (t : List ℕ) → FitsText p.buffer (text_after p.flight t) → FitsText d (with_pending (Some p) t) → with_pending (Some (with_buffer d p)) t ≡ text_after d (with_pending (Some p) t)
buffer-shows d p t fb fd =
    let u : List ℕ = text_after p.flight t in
    sym (buffer-text (composed p.buffer d) p.flight t)
    ∙ ((delta_laws.one_after_the_other p.buffer d u fb (subst (FitsText d) (sym (buffer-text p.buffer p.flight t)) fd)).one_text ∙ ap (text_after d) (buffer-text p.buffer p.flight t))

-- the own delta comes back, with nothing buffered and with something
pub quiet-back-shows : (p : Pending) (t : List ℕ) → p.buffer ≡ [] → with_pending None (text_after p.flight t) ≡ with_pending (Some p) t
quiet-back-shows p t e = ap (λ b. after_buffer b (text_after p.flight t)) (sym e)

pub back-shows : (j : ℕ) (p : Pending) (t : List ℕ) (s : Step) (b : List Step) → p.buffer ≡ s ∷ b → with_pending (Some (record { cell = j; flight = s ∷ b; buffer = [] })) (text_after p.flight t) ≡ with_pending (Some p) t
back-shows j p t s b e = ap (λ x. after_buffer x (text_after p.flight t)) (sym e)

-- another's delta is done to the own text, moved over what is in flight and what is buffered
pub shift-shows : (x : List Step) (p : Pending) (t : List ℕ) → FitsText x t → FitsText p.flight t → FitsText p.buffer (text_after p.flight t) → with_pending (Some (shifted x p)) (text_after x t) ≡ text_after (transformed true p.buffer (transformed true p.flight x)) (with_pending (Some p) t)
shift-shows x p t fx ff fb =
    let u : List ℕ = text_after p.flight t in
    let x1 : List Step = transformed true p.flight x in
    let pair : IsPairMoved false x p.flight t = delta_laws.moved false x p.flight t fx ff in
    let next : IsPairMoved false x1 p.buffer u = delta_laws.moved false x1 p.buffer u pair.left_fits fb in
    sym (buffer-text (transformed false x1 p.buffer) (transformed false x p.flight) (text_after x t))
    ∙ (ap (text_after (transformed false x1 p.buffer)) pair.one_text ∙ (next.one_text ∙ ap (text_after (transformed true p.buffer x1)) (buffer-text p.buffer p.flight t)))
