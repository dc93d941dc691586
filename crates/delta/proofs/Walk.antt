-- A walk over the steps of a delta and the rest of a text.
use Rattle.std.proofs.Common.{◌≡◌, ℕ, ◌+◌, ◌<◌, ◌≤◌, true, false, List, [], ◌∷◌, ◌++◌, length, get_or, drop, Some, refl, sym, ap, ◌∙◌, arith, append_assoc, add-one, suc}
use Rattle.std.proofs.Math.Seq.{drop-cons}
use Rattle.std.proofs.lemmas.List.Sums.{sum_by-cons}
use Rattle.utf16_text.proofs.Counts.{whole_at, is_whole-append, units-append, unit_count-append}
use Rattle.utf16_text.proofs.Decoding.{decoded-units-AreScalars}
use Rattle.utf16_text.specs.Units.{units, unit_count, is_whole, decoded, AreScalars}
use Rattle.delta.specs.declared.Step.{Step}
use Rattle.delta.specs.declared.Step.TheVariants.{Retain, Insert, Delete}
use Rattle.delta.specs.Apply.{IsApplied, IsApplyCause}
use Rattle.delta.specs.Walk.{StepsOver, IsStepCause, written}
use Rattle.delta.specs.declared.ApplyError.{ApplyError}
use Rattle.delta.specs.declared.ApplyError.TheVariants.{PastEnd, SplitsPair, OutOfMemory}
use Rattle.delta.specs.Spread.{Small}
use Rattle.delta.specs.Steps.{passed, reach_of, small_steps, all_small, cuts_from, first_broken, broken_cut, applied}
use Rattle.delta.proofs.Run.{run, run-keeps, run-drops, run-puts, woven_is_run}

-- the walk has these steps to do, at this place, with this rest of the text and this text made
pub record Walked (steps : List Step) (cs : List ℕ) (todo : List Step) (at : ℕ) (rest made : List ℕ) : Type 0 where
  pub front : List ℕ
  pub parts : cs ≡ front ++ rest
  pub before : unit_count front ≡ at
  pub within : reach_of todo ≤ unit_count rest
  pub cuts : first_broken cs (cuts_from at todo) ≡ broken_cut steps cs
  pub makes : units made ++ run (all_small todo) (units rest) ≡ run (all_small steps) (units cs)

pub walked_start : (steps : List Step) (cs : List ℕ) → reach_of steps ≤ unit_count cs → Walked steps cs steps 0 cs []
walked_start steps cs h = record { front = []; parts = refl; before = refl; within = h; cuts = refl; makes = refl }

no_items : (us : List ℕ) → length us ≡ 0 → us ≡ []
no_items [] e = refl
no_items (u ∷ us) e = absurd (omega arith)

-- one step of the runs
run_step : (step : Step) (taken rest : List ℕ) (s : List Small) → unit_count taken ≡ passed step
    → run (small_steps step ++ s) (units taken ++ units rest) ≡ units (written step taken) ++ run s (units rest)
run_step (Retain n) taken rest s e = rw (← e) (run-keeps (units taken) (units rest) s)
run_step (Delete n) taken rest s e = rw (← e) (run-drops (units taken) (units rest) s)
run_step (Insert text) taken rest s e = let none = no_items (units taken) e in rw none (run-puts (units text) (units rest) s)

pub walked_step : (steps : List Step) (cs : List ℕ) (step : Step) (todo : List Step) (at : ℕ) (rest made rest' made' : List ℕ)
    → Walked steps cs (step ∷ todo) at rest made → StepsOver step made rest made' rest' → Walked steps cs todo (at + passed step) rest' made'
walked_step steps cs step todo at rest made rest' made' w s =
    let parts : cs ≡ (w.front ++ s.taken) ++ rest' = w.parts ∙ (ap (λ v. w.front ++ v) s.parts ∙ sym (append_assoc w.front s.taken rest')) in
    let before : unit_count (w.front ++ s.taken) ≡ at + passed step = omega (arith, unit_count-append w.front s.taken, w.before, s.passes) in
    let here : is_whole cs (at + passed step) ≡ true = whole_at cs (w.front ++ s.taken) rest' (at + passed step) parts before in
    record {
      front = w.front ++ s.taken;
      parts = parts;
      before = before;
      within = omega (arith, w.within, sum_by-cons passed step todo, s.passes, ap unit_count s.parts, unit_count-append s.taken rest');
      cuts = rw here at w.cuts;
      makes =
          let r = all_small todo in
          let written_units : units made' ≡ units made ++ units (written step s.taken) = ap units s.writes ∙ units-append made (written step s.taken) in
          let rest_units : units rest ≡ units s.taken ++ units rest' = ap units s.parts ∙ units-append s.taken rest' in
          rw (written_units, append_assoc, ← run_step step s.taken rest' r s.passes, ← rest_units) w.makes;
    }

pub walked_broken : (steps : List Step) (cs : List ℕ) (step : Step) (todo : List Step) (at : ℕ) (rest made : List ℕ)
    → Walked steps cs (step ∷ todo) at rest made → is_whole rest (passed step) ≡ false → broken_cut steps cs ≡ Some (at + passed step)
walked_broken steps cs step todo at rest made w h =
    let e : is_whole cs (at + passed step) ≡ false = rw (w.parts, ← w.before) (is_whole-append w.front rest (passed step) ∙ h) in
    sym (rw e at w.cuts)

pub walked_end : (steps : List Step) (cs : List ℕ) (at : ℕ) (rest made : List ℕ) → reach_of steps ≤ unit_count cs → Walked steps cs [] at rest made
    → AreScalars (made ++ rest) → IsApplied steps cs (made ++ rest)
walked_end steps cs at rest made h w good =
    let same : units (made ++ rest) ≡ applied steps (units cs) = units-append made rest ∙ (w.makes ∙ sym (woven_is_run (all_small steps) (units cs))) in
    record {
      fits = record { within = h; whole = sym w.cuts };
      text = sym (decoded-units-AreScalars (made ++ rest) good) ∙ ap decoded same;
    }

pub drop_item : {X : Type 0} (xs : List X) (i : ℕ) (x : X) → i < length xs → x ≡ get_or xs i x → drop i xs ≡ x ∷ drop (i + 1) xs
drop_item xs i x lt e = rw add-one (drop-cons xs i x lt ∙ ap (λ v. v ∷ drop (suc i) xs) (sym e))

-- the loop's turn, where the steps to do begin with this one
pub walked_turn : (steps : List Step) (cs : List ℕ) (step : Step) (todo more : List Step) (at n : ℕ) (rest made rest' made' : List ℕ)
    → todo ≡ step ∷ more → n ≡ passed step → Walked steps cs todo at rest made → StepsOver step made rest made' rest' → Walked steps cs more (at + n) rest' made'
walked_turn steps cs step todo more at n rest made rest' made' e p w s =
    rw p (walked_step steps cs step more at rest made rest' made' (rw e at w) s)

pub walked_within : (steps : List Step) (cs : List ℕ) (step : Step) (todo more : List Step) (at : ℕ) (rest made : List ℕ)
    → todo ≡ step ∷ more → Walked steps cs todo at rest made → passed step ≤ unit_count rest
walked_within steps cs step todo more at rest made e w = omega (arith, w.within, sum_by-cons passed step more, ap reach_of e)

pub walked_fits : (steps : List Step) (cs : List ℕ) (todo : List Step) (at : ℕ) (rest made : List ℕ) → Walked steps cs todo at rest made → at + unit_count rest ≡ unit_count cs
walked_fits steps cs todo at rest made w = omega (arith, w.before, ap unit_count w.parts, unit_count-append w.front rest)

-- the walk stops at the step
pub walked_cause : (steps : List Step) (cs : List ℕ) (step : Step) (todo more : List Step) (at : ℕ) (rest made : List ℕ) (error : ApplyError)
    → reach_of steps ≤ unit_count cs → todo ≡ step ∷ more → Walked steps cs todo at rest made → IsStepCause step at rest error → IsApplyCause steps cs error
walked_cause steps cs step todo more at rest made (PastEnd len) h e w cause = absurd cause
walked_cause steps cs step todo more at rest made (SplitsPair p) h e w cause =
    (h, rw cause.0 (walked_broken steps cs step more at rest made (rw e at w) cause.1))
walked_cause steps cs step todo more at rest made OutOfMemory h e w cause = tt
