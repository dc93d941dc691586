-- A delta that fits a text, seen over the characters of the text.
use Rattle.std.proofs.Common.{◌≡◌, ℕ, zero, suc, ◌+◌, ◌-◌, ◌<◌, ◌≤◌, Bool, true, false, cond, ltb, ◌==◌, Option, Some, None, List, [], ◌∷◌, ◌++◌, length, map, replicate, refl, sym, ap, ◌∙◌, arith, append_assoc}
use Rattle.std.proofs.Math.Nat.{sub-zero}
use Rattle.std.proofs.lemmas.Bool.Decides.{nat_tests}
use Rattle.std.proofs.lemmas.List.{append-nil, map-append, replicate-append-replicate}
use Rattle.std.proofs.lemmas.List.Sums.{sum_by-cons}
use Rattle.utf16_text.proofs.Counts.{unit_count-append, unit_count-cons, is_whole-append, is_whole-zero, length-units_of_character}
use Rattle.utf16_text.proofs.Decoding.{only_scalars, AreScalars-only_scalars, units-only_scalars, decoded-units-AreScalars}
use Rattle.utf16_text.proofs.Scalars.{AreScalars-cons, AreScalars-head, AreScalars-tail, AreScalars-front, AreScalars-back}
use Rattle.utf16_text.specs.Units.{units, unit_count, units_of_character, is_scalar, is_whole, decoded, AreScalars, CutsInto}
use Rattle.delta.proofs.Run.{run, run-keeps, run-drops, run-puts, woven_is_run}
use Rattle.delta.specs.Moves.{FitsText, text_after}
use Rattle.delta.specs.Spread.{Small, Keep, Drop, Put}
use Rattle.delta.specs.Steps.{passed, reach_of, all_small, applied, cuts_from, first_broken}
use Rattle.delta.specs.declared.Step.{Step}
use Rattle.delta.specs.declared.Step.TheVariants.{Retain, Insert, Delete}

-- a character of the old text that stays or goes, or a new one
pub data Op : Type 0 where
  Kept : ℕ → Op
  Gone : ℕ → Op
  New : ℕ → Op

-- the old text, and the new one
abbrev pub old : List Op → List ℕ
old [] = []
old (Kept c ∷ s) = c ∷ old s
old (Gone c ∷ s) = c ∷ old s
old (New c ∷ s) = old s

abbrev pub new : List Op → List ℕ
new [] = []
new (Kept c ∷ s) = c ∷ new s
new (Gone c ∷ s) = new s
new (New c ∷ s) = c ∷ new s

-- the small steps, unit by unit
abbrev pub width : ℕ → ℕ
width c = length (units_of_character c)

abbrev pub wide : List Op → List Small
wide [] = []
wide (Kept c ∷ s) = replicate (width c) Keep ++ wide s
wide (Gone c ∷ s) = replicate (width c) Drop ++ wide s
wide (New c ∷ s) = map Put (units_of_character c) ++ wide s

-- each is a character
abbrev pub AreGood : List Op → Type 0
AreGood [] = Unit {0}
AreGood (Kept c ∷ s) = (is_scalar c ≡ true) × AreGood s
AreGood (Gone c ∷ s) = (is_scalar c ≡ true) × AreGood s
AreGood (New c ∷ s) = (is_scalar c ≡ true) × AreGood s

pub width_pos : (c : ℕ) → is_scalar c ≡ true → 0 < width c
width_pos c good = rw (length-units_of_character c good) (grind (arith, nat_tests))

pub new-AreScalars : (s : List Op) → AreGood s → AreScalars (new s)
new-AreScalars [] g = refl
new-AreScalars (Kept c ∷ s) g = AreScalars-cons c (new s) g.0 (new-AreScalars s g.1)
new-AreScalars (Gone c ∷ s) g = new-AreScalars s g.1
new-AreScalars (New c ∷ s) g = AreScalars-cons c (new s) g.0 (new-AreScalars s g.1)

-- the small steps make the new text of the old one
pub run-wide : (s : List Op) → run (wide s) (units (old s)) ≡ units (new s)
run-wide [] = refl
run-wide (Kept c ∷ s) = run-keeps (units_of_character c) (units (old s)) (wide s) ∙ ap (λ w. units_of_character c ++ w) (run-wide s)
run-wide (Gone c ∷ s) = run-drops (units_of_character c) (units (old s)) (wide s) ∙ run-wide s
run-wide (New c ∷ s) = run-puts (units_of_character c) (units (old s)) (wide s) ∙ ap (λ w. units_of_character c ++ w) (run-wide s)

-- Keeps at the end do nothing
run-all_kept : (k : ℕ) (us : List ℕ) → run (replicate k Keep) us ≡ us
run-all_kept zero us = refl
run-all_kept (suc k) [] = refl
run-all_kept (suc k) (u ∷ us) = ap (λ w. u ∷ w) (run-all_kept k us)

pub run-more_kept : (s : List Small) (k : ℕ) (us : List ℕ) → run (s ++ replicate k Keep) us ≡ run s us
run-more_kept [] k us = run-all_kept k us
run-more_kept (Keep ∷ s) k [] = refl
run-more_kept (Keep ∷ s) k (u ∷ us) = ap (λ w. u ∷ w) (run-more_kept s k us)
run-more_kept (Drop ∷ s) k [] = refl
run-more_kept (Drop ∷ s) k (u ∷ us) = run-more_kept s k us
run-more_kept (Put v ∷ s) k us = ap (λ w. v ∷ w) (run-more_kept s k us)

-- characters that all stay, go or are new
abbrev pub keeping : List ℕ → List Op → List Op
keeping [] s = s
keeping (c ∷ cs) s = Kept c ∷ keeping cs s

abbrev pub dropping : List ℕ → List Op → List Op
dropping [] s = s
dropping (c ∷ cs) s = Gone c ∷ dropping cs s

abbrev pub putting : List ℕ → List Op → List Op
putting [] s = s
putting (c ∷ cs) s = New c ∷ putting cs s

wide-keeping : (cs : List ℕ) (s : List Op) → wide (keeping cs s) ≡ replicate (unit_count cs) Keep ++ wide s
wide-keeping [] s = refl
wide-keeping (c ∷ cs) s =
    rw (unit_count-cons, ← replicate-append-replicate (width c) (unit_count cs) Keep, append_assoc) (ap (λ w. replicate (width c) Keep ++ w) (wide-keeping cs s))

wide-dropping : (cs : List ℕ) (s : List Op) → wide (dropping cs s) ≡ replicate (unit_count cs) Drop ++ wide s
wide-dropping [] s = refl
wide-dropping (c ∷ cs) s =
    rw (unit_count-cons, ← replicate-append-replicate (width c) (unit_count cs) Drop, append_assoc) (ap (λ w. replicate (width c) Drop ++ w) (wide-dropping cs s))

wide-putting : (cs : List ℕ) (s : List Op) → wide (putting cs s) ≡ map Put (units cs) ++ wide s
wide-putting [] s = refl
wide-putting (c ∷ cs) s = rw (map-append, append_assoc) (ap (λ w. map Put (units_of_character c) ++ w) (wide-putting cs s))

old-keeping : (cs : List ℕ) (s : List Op) → old (keeping cs s) ≡ cs ++ old s
old-keeping [] s = refl
old-keeping (c ∷ cs) s = ap (λ w. c ∷ w) (old-keeping cs s)

old-dropping : (cs : List ℕ) (s : List Op) → old (dropping cs s) ≡ cs ++ old s
old-dropping [] s = refl
old-dropping (c ∷ cs) s = ap (λ w. c ∷ w) (old-dropping cs s)

old-putting : (cs : List ℕ) (s : List Op) → old (putting cs s) ≡ old s
old-putting [] s = refl
old-putting (c ∷ cs) s = old-putting cs s

good-keeping : (cs : List ℕ) (s : List Op) → AreScalars cs → AreGood s → AreGood (keeping cs s)
good-keeping [] s h g = g
good-keeping (c ∷ cs) s h g = (AreScalars-head c cs h, good-keeping cs s (AreScalars-tail c cs h) g)

good-dropping : (cs : List ℕ) (s : List Op) → AreScalars cs → AreGood s → AreGood (dropping cs s)
good-dropping [] s h g = g
good-dropping (c ∷ cs) s h g = (AreScalars-head c cs h, good-dropping cs s (AreScalars-tail c cs h) g)

good-putting : (cs : List ℕ) (s : List Op) → AreScalars cs → AreGood s → AreGood (putting cs s)
good-putting [] s h g = g
good-putting (c ∷ cs) s h g = (AreScalars-head c cs h, good-putting cs s (AreScalars-tail c cs h) g)

-- a delta does to a text what these characters say; past its reach Keeps stand for it
pub record IsScript (d : List Step) (t : List ℕ) : Type 0 where
  pub script : List Op
  pub spare : ℕ
  pub small : all_small d ++ replicate spare Keep ≡ wide script
  pub from : old script ≡ t
  pub good : AreGood script

-- a whole place within a text cuts it
past_first : (c : ℕ) (cs : List ℕ) (n : ℕ) → 0 < n → is_whole (c ∷ cs) n ≡ true → (width c ≤ n) × (is_whole cs (n - width c) ≡ true)
past_first c cs n p h = (grind (arith, nat_tests), grind (arith, nat_tests))

whole_cuts : (cs : List ℕ) (n : ℕ) → is_whole cs n ≡ true → n ≤ unit_count cs → (front : List ℕ) × (back : List ℕ) × CutsInto cs n front back
whole_cuts cs zero h le = ([], cs, record { parts = refl; before = refl })
whole_cuts [] (suc n) h le = absurd (omega arith)
whole_cuts (c ∷ cs) (suc n) h le =
    let q = past_first c cs (suc n) (omega arith) h in
    let r = whole_cuts cs (suc n - width c) q.1 (omega (arith, unit_count-cons c cs, q.0)) in
    (c ∷ r.0, r.1, record { parts = ap (λ w. c ∷ w) r.2.parts; before = omega (arith, unit_count-cons c r.0, r.2.before, q.0) })

first_whole : (b : Bool) (o : Option ℕ) (at : ℕ) → cond b o (Some at) ≡ None → (b ≡ true) × (o ≡ None)
first_whole true o at e = (refl, e)
first_whole false o at e = cc

-- the script of one more step
retained : (n : ℕ) (steps : List Step) (rest taken rest' : List ℕ) → rest ≡ taken ++ rest' → unit_count taken ≡ n → AreScalars taken → IsScript steps rest' → IsScript (Retain n ∷ steps) rest
retained n steps rest taken rest' e m h s = record {
  script = keeping taken s.script;
  spare = s.spare;
  small = rw append_assoc (ap (λ w. replicate n Keep ++ w) s.small ∙ (rw (← m) (sym (wide-keeping taken s.script))));
  from = old-keeping taken s.script ∙ (ap (λ w. taken ++ w) s.from ∙ sym e);
  good = good-keeping taken s.script h s.good;
}

deleted : (n : ℕ) (steps : List Step) (rest taken rest' : List ℕ) → rest ≡ taken ++ rest' → unit_count taken ≡ n → AreScalars taken → IsScript steps rest' → IsScript (Delete n ∷ steps) rest
deleted n steps rest taken rest' e m h s = record {
  script = dropping taken s.script;
  spare = s.spare;
  small = rw append_assoc (ap (λ w. replicate n Drop ++ w) s.small ∙ (rw (← m) (sym (wide-dropping taken s.script))));
  from = old-dropping taken s.script ∙ (ap (λ w. taken ++ w) s.from ∙ sym e);
  good = good-dropping taken s.script h s.good;
}

inserted : (text : List ℕ) (steps : List Step) (rest : List ℕ) → IsScript steps rest → IsScript (Insert text ∷ steps) rest
inserted text steps rest s = record {
  script = putting (only_scalars text) s.script;
  spare = s.spare;
  small = rw append_assoc (ap (λ w. map Put (units text) ++ w) s.small ∙ (ap (λ w. map Put w ++ wide s.script) (sym (units-only_scalars text)) ∙ sym (wide-putting (only_scalars text) s.script)));
  from = old-putting (only_scalars text) s.script ∙ s.from;
  good = good-putting (only_scalars text) s.script (AreScalars-only_scalars text) s.good;
}

-- the part of a text that a step passes
pub record Part (cs rest : List ℕ) (at n : ℕ) (steps : List Step) : Type 0 where
  pub taken : List ℕ
  pub rest' : List ℕ
  pub parts : rest ≡ taken ++ rest'
  pub passes : unit_count taken ≡ n
  pub within : reach_of steps ≤ unit_count rest'
  pub whole : first_broken cs (cuts_from (at + n) steps) ≡ None

part_of : (cs front rest : List ℕ) (at n : ℕ) (steps : List Step) → cs ≡ front ++ rest → unit_count front ≡ at → n + reach_of steps ≤ unit_count rest
    → first_broken cs ((at + n) ∷ cuts_from (at + n) steps) ≡ None → Part cs rest at n steps
part_of cs front rest at n steps e m r h =
    let here = first_whole (is_whole cs (at + n)) (first_broken cs (cuts_from (at + n) steps)) (at + n) h in
    let local : is_whole rest n ≡ true = sym (is_whole-append front rest n) ∙ (rw (e, ← m) at here.0) in
    let cut = whole_cuts rest n local (omega arith) in
    record {
      taken = cut.0;
      rest' = cut.1;
      parts = cut.2.parts;
      passes = cut.2.before;
      within = omega (arith, ap unit_count cut.2.parts, unit_count-append cut.0 cut.1, cut.2.before);
      whole = here.1;
    }

further : (cs front rest taken rest' : List ℕ) → cs ≡ front ++ rest → rest ≡ taken ++ rest' → cs ≡ (front ++ taken) ++ rest'
further cs front rest taken rest' e p = e ∙ (ap (λ w. front ++ w) p ∙ sym (append_assoc front taken rest'))

script_from : (steps : List Step) (cs front rest : List ℕ) (at : ℕ) → cs ≡ front ++ rest → unit_count front ≡ at → AreScalars rest → reach_of steps ≤ unit_count rest
    → first_broken cs (cuts_from at steps) ≡ None → IsScript steps rest
script_from [] cs front rest at e m g r h = record {
  script = keeping rest [];
  spare = unit_count rest;
  small = sym (append-nil (replicate (unit_count rest) Keep)) ∙ sym (wide-keeping rest []);
  from = old-keeping rest [] ∙ append-nil rest;
  good = good-keeping rest [] g tt;
}
script_from (Retain n ∷ steps) cs front rest at e m g r h =
    let p = part_of cs front rest at n steps e m (omega (arith, sum_by-cons passed (Retain n) steps)) h in
    let good : AreScalars (p.taken ++ p.rest') = rw p.parts at g in
    retained n steps rest p.taken p.rest' p.parts p.passes (AreScalars-front p.taken p.rest' good)
    (script_from steps cs (front ++ p.taken) p.rest' (at + n) (further cs front rest p.taken p.rest' e p.parts) (omega (arith, unit_count-append front p.taken, p.passes)) (AreScalars-back p.taken p.rest' good) p.within p.whole)
script_from (Delete n ∷ steps) cs front rest at e m g r h =
    let p = part_of cs front rest at n steps e m (omega (arith, sum_by-cons passed (Delete n) steps)) h in
    let good : AreScalars (p.taken ++ p.rest') = rw p.parts at g in
    deleted n steps rest p.taken p.rest' p.parts p.passes (AreScalars-front p.taken p.rest' good)
    (script_from steps cs (front ++ p.taken) p.rest' (at + n) (further cs front rest p.taken p.rest' e p.parts) (omega (arith, unit_count-append front p.taken, p.passes)) (AreScalars-back p.taken p.rest' good) p.within p.whole)
script_from (Insert text ∷ steps) cs front rest at e m g r h =
    let here = first_whole (is_whole cs (at + 0)) (first_broken cs (cuts_from (at + 0) steps)) (at + 0) h in
    inserted text steps rest (script_from steps cs front rest (at + 0) e (omega arith) g (omega (arith, sum_by-cons passed (Insert text) steps)) here.1)

-- numbers that are no characters stand for nothing in a text
is_whole-only_scalars : (cs : List ℕ) (at : ℕ) → is_whole (only_scalars cs) at ≡ is_whole cs at
is_whole-only_scalars [] at = refl
is_whole-only_scalars (c ∷ cs) at = on (is_scalar c) refl (λ n. is_whole-only_scalars cs n)
  where
    no_width : (n : ℕ) → is_whole cs n ≡ cond (n == 0) true (cond (ltb n 0) false (is_whole cs (n - 0)))
    no_width zero = is_whole-zero cs
    no_width (suc n) = rw sub-zero (grind (arith, nat_tests))

    on : (b : Bool) → is_scalar c ≡ b → ((n : ℕ) → is_whole (only_scalars cs) n ≡ is_whole cs n) → is_whole (cond b (c ∷ only_scalars cs) (only_scalars cs)) at ≡ is_whole (c ∷ cs) at
    on true e h = rw (h (at - width c)) refl
    on false e h = rw e (h at ∙ no_width at)

first_broken-only_scalars : (cs : List ℕ) (places : List ℕ) → first_broken (only_scalars cs) places ≡ first_broken cs places
first_broken-only_scalars cs [] = refl
first_broken-only_scalars cs (at ∷ places) = rw is_whole-only_scalars (ap (λ w. cond (is_whole cs at) w (Some at)) (first_broken-only_scalars cs places))

pub FitsText-only_scalars : (d : List Step) (t : List ℕ) → FitsText d t → FitsText d (only_scalars t)
FitsText-only_scalars d t f = record {
  within = omega (arith, f.within, ap length (units-only_scalars t));
  whole = first_broken-only_scalars t (cuts_from 0 d) ∙ f.whole;
}

pub FitsText-from_only_scalars : (d : List Step) (t : List ℕ) → FitsText d (only_scalars t) → FitsText d t
FitsText-from_only_scalars d t f = record {
  within = omega (arith, f.within, ap length (units-only_scalars t));
  whole = sym (first_broken-only_scalars t (cuts_from 0 d)) ∙ f.whole;
}

-- a delta that fits has a script
pub script_of : (d : List Step) (t : List ℕ) → FitsText d t → IsScript d (only_scalars t)
script_of d t f =
    let g = FitsText-only_scalars d t f in
    script_from d (only_scalars t) [] (only_scalars t) 0 refl refl (AreScalars-only_scalars t) g.within g.whole

-- and makes the script's new text
pub text_after-script : (d : List Step) (t : List ℕ) (s : IsScript d (only_scalars t)) → text_after d t ≡ new s.script
text_after-script d t s =
    let us : units (old s.script) ≡ units t = ap units s.from ∙ units-only_scalars t in
    let made : applied d (units t) ≡ units (new s.script) =
    woven_is_run (all_small d) (units t) ∙ (sym (run-more_kept (all_small d) s.spare (units t)) ∙ (ap (λ w. run w (units t)) s.small ∙ (ap (λ w. run (wide s.script) w) (sym us) ∙ run-wide s.script))) in
    ap decoded made ∙ decoded-units-AreScalars (new s.script) (new-AreScalars s.script s.good)
