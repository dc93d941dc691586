-- The turns of a pack.
use Rattle.std.proofs.Common.{◌≡◌, ℕ, ◌+◌, ◌^◌, ◌<◌, ◌≤◌, List, [], ◌++◌, length, get_or, drop, sym, ap, ◌∙◌, arith}
use Rattle.std.proofs.Math.ListN.{drop_of_length-le}
use Rattle.delta.proofs.PackerLemmas.{head_reach}
use Rattle.delta.proofs.Walk.{drop_item}
use Rattle.delta.specs.Fronts.{head_small}
use Rattle.delta.specs.Pack.{packed}
use Rattle.delta.specs.Packers.{packs, TakesSteps}
use Rattle.delta.specs.Runs.{all_runs, run_small}
use Rattle.delta.specs.Spread.{small_reach}
use Rattle.delta.specs.declared.front.Run.{Run}
use Rattle.delta.specs.declared.front.Head.{Head}
use Rattle.delta.specs.declared.packer.Packer.{Packer}

-- a loop's state: what the packer holds, with the runs to come, is the whole, within the limit
pub record Packing (runs : List Run) (i : ℕ) (p : Packer) : Type 0 where
  pub same : packs p (all_runs (drop i runs)) ≡ packed (all_runs runs)
  pub count : p.keeps + p.drops + small_reach (all_runs (drop i runs)) ≤ 2 ^ 62

parts : (runs : List Run) (i : ℕ) (run : Run) (h : Head) → i < length runs → run ≡ get_or runs i run → head_small h ≡ run_small run → all_runs (drop i runs) ≡ head_small h ++ all_runs (drop (i + 1) runs)
parts runs i run h lt e s = ap all_runs (drop_item runs i run lt e) ∙ ap (λ w. w ++ all_runs (drop (i + 1) runs)) (sym s)

pub packing_room : (runs : List Run) (i : ℕ) (p : Packer) (run : Run) (h : Head) → Packing runs i p → i < length runs → run ≡ get_or runs i run → head_small h ≡ run_small run → p.keeps + p.drops + small_reach (head_small h) ≤ 2 ^ 62
packing_room runs i p run h z lt e s = omega (arith, z.count, ap small_reach (parts runs i run h lt e s), head_reach h (all_runs (drop (i + 1) runs)))

pub packing_turn : (runs : List Run) (i : ℕ) (p p' : Packer) (run : Run) (h : Head) → Packing runs i p → i < length runs → run ≡ get_or runs i run → head_small h ≡ run_small run → TakesSteps p p' (head_small h) → Packing runs (i + 1) p'
packing_turn runs i p p' run h z lt e s k = record {
  same = k.same (all_runs (drop (i + 1) runs)) ∙ (ap (λ w. packs p w) (sym (parts runs i run h lt e s)) ∙ z.same);
  count = omega (arith, z.count, k.count, ap small_reach (parts runs i run h lt e s), head_reach h (all_runs (drop (i + 1) runs)));
}

pub packing_end : (runs : List Run) (i : ℕ) (p : Packer) → Packing runs i p → length runs ≤ i → packs p [] ≡ packed (all_runs runs)
packing_end runs i p z le = rw (drop_of_length-le runs {i = i} le) at z.same
