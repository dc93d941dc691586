-- When deltas fit.
use Rattle.std.proofs.Common.{◌≡◌, ℕ, true, false, List, [], ◌∷◌, Some, refl, sym, ap, subst, ◌∙◌}
use Rattle.delta.specs.declared.Step.{Step}
use Rattle.delta.specs.Moves.{FitsText, text_after, transformed, composed}
use Rattle.delta_laws.specs.Laws.{IsPairMoved}
use Rattle.delta_laws.proofs.Laws.{delta_laws}
use Rattle.notebook.specs.declared.parts.Cell.{Cell}
use Rattle.notebook.specs.declared.parts.Parts.{Parts}
use Rattle.notebook.specs.Book.{cells, found}
use Rattle.client_sync.specs.Client.{Pending, after_buffer, with_pending}
use Rattle.client_sync.specs.Fits.{HasSource}
use Rattle.client_sync.specs.Moving.{over_pending}
use Rattle.client_sync.proofs.Edits.{shifted, with_buffer}

-- a cell's one source
pub one-source : (n : Parts) (k : ℕ) (t : List ℕ) (c : Cell) → HasSource n k t → found k (cells n) ≡ Some c → c.source ≡ t
one-source n k t c h e = let same : h.own ≡ c = cc (h.there, e) in subst (λ x. x.source ≡ t) same h.source

-- what is buffered, also where it is empty
pub buffer-text : (b : List Step) (flight : List Step) (t : List ℕ) → text_after b (text_after flight t) ≡ after_buffer b (text_after flight t)
buffer-text [] flight t = delta_laws.nothing.text (text_after flight t) (delta_laws.makes_text flight t)
buffer-text (s ∷ b) flight t = refl

-- an edit that goes into the buffer fits, and is seen
pub fits-buffered : (d : List Step) (p : Pending) (t : List ℕ) → FitsText p.buffer (text_after p.flight t) → FitsText d (with_pending (Some p) t) → FitsText (with_buffer d p).buffer (text_after p.flight t)
fits-buffered d p t fb fd = (delta_laws.one_after_the_other p.buffer d (text_after p.flight t) fb (subst (FitsText d) (sym (buffer-text p.buffer p.flight t)) fd)).fits

pub buffer-shows : (d : List Step) (p : Pending) (t : List ℕ) → FitsText p.buffer (text_after p.flight t) → FitsText d (with_pending (Some p) t) → with_pending (Some (with_buffer d p)) t ≡ text_after d (with_pending (Some p) t)
buffer-shows d p t fb fd =
    let u : List ℕ = text_after p.flight t in
    sym (buffer-text (composed p.buffer d) p.flight t)
    ∙ ((delta_laws.one_after_the_other p.buffer d u fb (subst (FitsText d) (sym (buffer-text p.buffer p.flight t)) fd)).one_text ∙ ap (text_after d) (buffer-text p.buffer p.flight t))

-- what another's delta makes of pending edits, and of the text that shows them
pub record IsShifted (x : List Step) (p : Pending) (t : List ℕ) : Type 0 where
  pub flight : FitsText (shifted x p).flight (text_after x t)
  pub buffer : FitsText (shifted x p).buffer (text_after (shifted x p).flight (text_after x t))
  pub shown : FitsText (over_pending x p) (with_pending (Some p) t)
  pub text : with_pending (Some (shifted x p)) (text_after x t) ≡ text_after (over_pending x p) (with_pending (Some p) t)

pub shift-fits : (x : List Step) (p : Pending) (t : List ℕ) → FitsText x t → FitsText p.flight t → FitsText p.buffer (text_after p.flight t) → IsShifted x p t
shift-fits x p t fx ff fb =
    let u : List ℕ = text_after p.flight t in
    let x1 : List Step = transformed true p.flight x in
    let pair : IsPairMoved false x p.flight t = delta_laws.moved false x p.flight t fx ff in
    let next : IsPairMoved false x1 p.buffer u = delta_laws.moved false x1 p.buffer u pair.left_fits fb in
    record {
      flight = pair.right_fits;
      buffer = subst (FitsText (transformed false x1 p.buffer)) (sym pair.one_text) next.right_fits;
      shown = subst (FitsText (transformed true p.buffer x1)) (buffer-text p.buffer p.flight t) next.left_fits;
      text = sym (buffer-text (transformed false x1 p.buffer) (transformed false x p.flight) (text_after x t))
          ∙ (ap (text_after (transformed false x1 p.buffer)) pair.one_text ∙ (next.one_text ∙ ap (text_after (transformed true p.buffer x1)) (buffer-text p.buffer p.flight t)));
    }
