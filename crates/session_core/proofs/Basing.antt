-- The bindings after what stands before a cell that may start.
use Rattle.std.proofs.Common.{◌≡◌, ℕ, List, [], ◌∷◌, ◌++◌, map, Option, Some, None, refl, sym, ap, subst, ◌∙◌, append_assoc}
use Rattle.std.specs.Prelude.{Result, Ok, Err, IfOk}
use Rattle.std.proofs.lemmas.List.{append-nil, map-append}
use Rattle.ex_model.specs.declared.bindings.Binding.{Binding}
use Rattle.ex_model.specs.declared.ran.Ran.{Ran}
use Rattle.ex_model.specs.declared.ran.Outcome.TheVariants as Outcomes
use Rattle.ex_model.specs.Bound.{put_all}
use Rattle.ex_model.specs.Along.{After, MeansInCell, at_start}
use Rattle.ex_value.specs.declared.Value.{Value}
use Rattle.notebook.specs.declared.parts.Cell.{Cell}
use Rattle.notebook.specs.declared.parts.Passed.{Passed}
use Rattle.notebook.specs.Flow.{passed}
use Rattle.lanes.specs.declared.work.Finished.{Finished}
use Rattle.lanes.specs.declared.work.Mark.{Mark}
use Rattle.lanes.specs.declared.work.Work.{Work}
use Rattle.lanes.specs.Work.{last_finished, last_by, mark_of, is_mark_of}
use Rattle.lanes.proofs.Starting.{IsSound, AreSound, value-of}
use Rattle.session_ops.specs.State.{Job, ShowsAlong, source_bytes}
use Rattle.session_ops.proofs.Lists.{find-is}
use Rattle.session_ops.proofs.Shown.{IsFaithful, IsFaithfulIf, IsFaithfulWork}
use Rattle.session_core.specs.Jobs.{HasAfter}
use Rattle.session_core.proofs.Paths.{after-begin, after-one, shown-after}

last-shows : (o : Option Mark) (f : Finished) → last_by o ≡ Some f → ((m : Mark) → o ≡ Some m → IsFaithful m) → ShowsAlong f.path f.shown
last-shows None f e h = absurd (cc e)
last-shows (Some m) f e h = subst IsFaithfulIf e (h m refl)

-- what was finished is true
finished-shows : (w : Work) (js : List Job) (k : ℕ) (f : Finished) → IsFaithfulWork w js → last_finished w k ≡ Some f → ShowsAlong f.path f.shown
finished-shows w js k f h e = last-shows (mark_of w k) f e (λ m i. find-is (is_mark_of k) IsFaithful w.marks m h.shown i)

-- bindings stand after a sound cell's path
sound-after : (w : Work) (js : List Job) (k : ℕ) (present : List Passed) → IsFaithfulWork w js → IsSound w k present → HasAfter present
sound-after w js k present h s =
    let shows : ShowsAlong s.finished.path s.finished.shown = finished-shows w js k s.finished h s.last in
    let v : (v : Value) × (s.finished.shown.outcome ≡ Outcomes.Value v) = value-of s.finished.shown.outcome s.unfailed in
    let there : ShowsAlong present s.finished.shown = subst (λ p. ShowsAlong p s.finished.shown) s.read shows in
    shown-after (map source_bytes present) s.finished.shown v.0 there v.1

after-sound : (w : Work) (js : List Job) (done xs : List Cell) → IsFaithfulWork w js → AreSound w done xs → HasAfter (map passed done) → HasAfter (map passed (done ++ xs))
after-sound w js done [] h s a = subst (λ cs. HasAfter (map passed cs)) (sym (append-nil done)) a
after-sound w js done (x ∷ xs) h s a =
    subst (λ cs. HasAfter (map passed cs)) (append_assoc done (x ∷ []) xs) (after-sound w js (done ++ x ∷ []) xs h s.1 (sound-after w js x.id (map passed (done ++ x ∷ [])) h s.0))

pub has-after : (w : Work) (js : List Job) (xs : List Cell) → IsFaithfulWork w js → AreSound w [] xs → HasAfter (map passed xs)
has-after w js xs h s = after-sound w js [] xs h s ([], at_start)

-- one cell more was evaluated
pub gone-further : {E : Type 0} (r : Result (List Binding) E) (c : Cell) (text : List ℕ) (base : List Binding) (ran : Ran) → text ≡ source_bytes (passed c) → MeansInCell text base ran → IfOk r (λ b. b ≡ put_all base ran.made) → IfOk r (λ b. (ran : Ran) × MeansInCell (source_bytes (passed c)) base ran × (b ≡ put_all base ran.made))
gone-further (Ok b) c text base ran same means made = (ran, subst (λ t. MeansInCell t base ran) same means, made)
gone-further (Err e) c text base ran same means made = tt

-- going through the cells one after the other
pub record Walked (all rest : List Cell) (bindings : List Binding) : Type 0 where
  pub done : List Cell
  pub parts : all ≡ done ++ rest
  pub after : After (map source_bytes (map passed done)) bindings

pub walk-begin : (all : List Cell) (bindings : List Binding) → bindings ≡ [] → Walked all all bindings
walk-begin all bindings e = record { done = []; parts = refl; after = subst (After []) (sym e) at_start }

begun-path : (all done : List Cell) (c : Cell) (rest : List Cell) → all ≡ done ++ c ∷ rest → HasAfter (map passed all) → HasAfter (map passed (done ++ c ∷ []))
begun-path all done c rest e (bs, a) =
    let parts : all ≡ (done ++ c ∷ []) ++ rest = e ∙ sym (append_assoc done (c ∷ []) rest) in
    let one : map passed all ≡ map passed (done ++ c ∷ []) ++ map passed rest = ap (map passed) parts ∙ map-append passed (done ++ c ∷ []) rest in
    let joined : map source_bytes (map passed all) ≡ map source_bytes (map passed (done ++ c ∷ [])) ++ map source_bytes (map passed rest) =
    ap (map source_bytes) one ∙ map-append source_bytes (map passed (done ++ c ∷ [])) (map passed rest) in
    after-begin (map source_bytes (map passed (done ++ c ∷ []))) (map source_bytes (map passed rest)) bs (subst (λ s. After s bs) joined a)

pub walk-on : (all rest more : List Cell) (c : Cell) (old new : List Binding) → HasAfter (map passed all) → Walked all rest old → rest ≡ c ∷ more → (ran : Ran) × MeansInCell (source_bytes (passed c)) old ran × (new ≡ put_all old ran.made) → Walked all more new
walk-on all rest more c old new has w e step =
    let parts : all ≡ w.done ++ c ∷ more = w.parts ∙ ap (λ cs. w.done ++ cs) e in
    let whole : HasAfter (map passed (w.done ++ c ∷ [])) = begun-path all w.done c more parts has in
    let joined : map source_bytes (map passed (w.done ++ c ∷ [])) ≡ map source_bytes (map passed w.done) ++ source_bytes (passed c) ∷ [] =
    ap (map source_bytes) (map-append passed w.done (c ∷ [])) ∙ map-append source_bytes (map passed w.done) (passed c ∷ []) in
    let one : After (map source_bytes (map passed w.done) ++ source_bytes (passed c) ∷ []) (put_all old step.0.made) =
    after-one (map source_bytes (map passed w.done)) (source_bytes (passed c)) old whole.0 step.0 w.after (subst (λ s. After s whole.0) joined whole.1) step.1 in
    record {
      done = w.done ++ c ∷ [];
      parts = parts ∙ sym (append_assoc w.done (c ∷ []) more);
      after = subst (λ s. After s new) (sym joined) (subst (λ bs. After (map source_bytes (map passed w.done) ++ source_bytes (passed c) ∷ []) bs) (sym step.2) one);
    }

pub walk-end : (all rest : List Cell) (bindings : List Binding) → Walked all rest bindings → rest ≡ [] → After (map source_bytes (map passed all)) bindings
walk-end all rest bindings w e =
    let whole : all ≡ w.done = w.parts ∙ (ap (λ cs. w.done ++ cs) e ∙ append-nil w.done) in
    subst (λ cs. After (map source_bytes (map passed cs)) bindings) (sym whole) w.after
