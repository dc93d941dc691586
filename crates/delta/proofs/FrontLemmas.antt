-- Runs that are still to come.
use Rattle.std.proofs.Common.{◌≡◌, ℕ, zero, suc, ◌+◌, ◌-◌, ◌<◌, ◌≤◌, List, [], ◌∷◌, ◌++◌, length, length-append, map, replicate, take, drop, refl, sym, ap, ◌∙◌, arith, append_assoc, zero-add, Bor}
use Rattle.std.proofs.lemmas.List.{append-nil, length-map, map-append, take-append-drop, take_all, length-drop}
use Rattle.std.proofs.lemmas.List.Concat.{flat_map-append}
use Rattle.delta.specs.Fronts.{IsFront, IsHead, HasRun, HasMore, IsPast, IsShorter, IsLongest, left, head_small, run_of}
use Rattle.delta.specs.Runs.{run_small, all_runs, AllRuns, AppendsRun, IsRun}
use Rattle.delta.specs.Spread.{Small, Keep, Drop, Put}
use Rattle.delta.specs.Steps.{small_steps}
use Rattle.delta.specs.declared.Step.{Step}
use Rattle.delta.specs.declared.front.Run.{Run}
use Rattle.delta.specs.declared.front.Run.TheVariants.{Kept as RunKept, Gone as RunGone, New as RunNew}
use Rattle.delta.specs.declared.front.Head.{Head}
use Rattle.delta.specs.declared.front.Head.TheVariants.{End, Kept, Gone, New}
use Rattle.delta.specs.declared.front.Front.{Front}

-- one more run
pub all_runs-push : (runs : List Run) (run : Run) → all_runs (runs ++ run ∷ []) ≡ all_runs runs ++ run_small run
all_runs-push runs run = flat_map-append run_small runs (run ∷ []) ∙ ap (λ w. all_runs runs ++ w) (append-nil (run_small run))

pub AllRuns-push : (runs : List Run) (run : Run) → AllRuns runs → IsRun run → AllRuns (runs ++ run ∷ [])
AllRuns-push [] run h r = (r, tt)
AllRuns-push (x ∷ runs) run h r = (h.0, AllRuns-push runs run h.1 r)

no_items : {X : Type 0} (xs : List X) → (0 < length xs → ⊥) → xs ≡ []
no_items [] h = refl
no_items (x ∷ xs) h = absurd (h (omega arith))

empty_run : (run : Run) → (IsRun run → ⊥) → run_small run ≡ []
empty_run (RunKept zero) h = refl
empty_run (RunKept (suc n)) h = absurd (h (omega arith))
empty_run (RunGone zero) h = refl
empty_run (RunGone (suc n)) h = absurd (h (omega arith))
empty_run (RunNew units) h = ap (λ w. map Put w) (no_items units.items h)

pub pushed_run : (runs runs' : List Run) (run : Run) (step : Step) → runs' ≡ runs ++ run ∷ [] → run_small run ≡ small_steps step → IsRun run → AppendsRun runs runs' step
pushed_run runs runs' run step e s r = record {
  same = rw e (all_runs-push runs run ∙ ap (λ w. all_runs runs ++ w) s);
  runs = λ h. rw e (AllRuns-push runs run h r);
}

pub passed_run : (runs : List Run) (run : Run) (step : Step) → run_small run ≡ small_steps step → (IsRun run → ⊥) → AppendsRun runs runs step
passed_run runs run step s none = record {
  same = sym (append-nil (all_runs runs)) ∙ ap (λ w. all_runs runs ++ w) (sym (empty_run run none) ∙ s);
  runs = λ h. h;
}

-- a run in two parts
pub replicate-plus : (x : Small) (m n : ℕ) → replicate (m + n) x ≡ replicate m x ++ replicate n x
replicate-plus x zero n = rw zero-add refl
replicate-plus x (suc m) n = let e : suc m + n ≡ suc (m + n) = omega arith in rw e (ap (λ w. x ∷ w) (replicate-plus x m n))

parted : (x : Small) (m n : ℕ) (more : List Small) → m < n → replicate n x ++ more ≡ replicate m x ++ (replicate (n - m) x ++ more)
parted x m n more lt = let e : n ≡ m + (n - m) = omega arith in ap (λ k. replicate k x ++ more) e ∙ (ap (λ w. w ++ more) (replicate-plus x m (n - m)) ∙ append_assoc (replicate m x) (replicate (n - m) x) more)

parted_puts : (us : List ℕ) (m : ℕ) (more : List Small) → map Put us ++ more ≡ map Put (take m us) ++ (map Put (drop m us) ++ more)
parted_puts us m more =
    ap (λ w. map Put w ++ more) (sym (take-append-drop m us)) ∙ (ap (λ w. w ++ more) (map-append Put (take m us) (drop m us)) ∙ append_assoc (map Put (take m us)) (map Put (drop m us)) more)

pub past_shorter : (h g : Head) (rest : Bor (List Run)) (m : ℕ) → HasMore h m → IsShorter h m g → IsFront (record { head = h; rest = rest }) → IsPast (record { head = h; rest = rest }) m (record { head = g; rest = rest })
past_shorter End g rest m lt s i = rw s (record { front = i; parts = refl; ends = λ e. refl })
past_shorter (Kept n) g rest m lt s i = rw s (record {
  front = record { head = omega arith; rest = i.rest };
  parts = parted Keep m n (all_runs rest.now) lt;
  ends = λ e. absurd (cc);
})
past_shorter (Gone n) g rest m lt s i = rw s (record {
  front = record { head = omega arith; rest = i.rest };
  parts = parted Drop m n (all_runs rest.now) lt;
  ends = λ e. absurd (cc);
})
past_shorter (New units) End rest m lt s i = absurd s
past_shorter (New units) (Kept n) rest m lt s i = absurd s
past_shorter (New units) (Gone n) rest m lt s i = absurd s
past_shorter (New units) (New units') rest m lt s i = record {
  front = record { head = omega (arith, ap length s, length-drop m units.now); rest = i.rest };
  parts = parted_puts units.now m (all_runs rest.now) ∙ ap (λ w. map Put (take m units.now) ++ (map Put w ++ all_runs rest.now)) (sym s);
  ends = λ e. absurd (cc);
}

-- nothing is left where the end is at the front, and then alone
pub ended : (f : Front) → IsFront f → f.head ≡ End → left f ≡ []
ended f i e =
    let rest : IsHead End f.rest.now = rw e at i.head in
    rw (e, rest) refl

is_end : (h : Head) (rest : List Run) → IsHead h rest → head_small h ++ all_runs rest ≡ [] → h ≡ End
is_end End rest i e = refl
is_end (Kept zero) rest i e = absurd (omega arith)
is_end (Kept (suc n)) rest i e = absurd (cc)
is_end (Gone zero) rest i e = absurd (omega arith)
is_end (Gone (suc n)) rest i e = absurd (cc)
is_end (New units) rest i e = absurd (omega (arith, i, ap length e, length-append (map Put units.now) (all_runs rest), length-map units.now Put))

whole_head : (h : Head) (m : ℕ) → HasRun h m → (k : ℕ) → IsLongest h k → k ≤ m → head_small h ≡ run_of h m
whole_head End m r k l le = refl
whole_head (Kept n) m r k l le = let e : n ≡ m = omega arith in ap (λ w. replicate w Keep) e
whole_head (Gone n) m r k l le = let e : n ≡ m = omega arith in ap (λ w. replicate w Drop) e
whole_head (New units) m r k l le = ap (λ w. map Put w) (sym (take_all m units.now (omega arith)))

pub past_whole : (f g : Front) (m k : ℕ) → HasRun f.head m → IsLongest f.head k → k ≤ m → IsFront f → IsFront g → left g ≡ all_runs f.rest.now → IsPast f m g
past_whole f g m k r l le i j e = record {
  front = j;
  parts = ap (λ w. w ++ all_runs f.rest.now) (whole_head f.head m r k l le) ∙ ap (λ w. run_of f.head m ++ w) (sym e);
  ends = λ z.
      let rest : IsHead End f.rest.now = rw z at i.head in
      is_end g.head g.rest.now j.head (e ∙ rw rest refl);
}

pub has_more : (h : Head) (m k : ℕ) → IsLongest h k → m < k → HasMore h m
has_more End m k l lt = tt
has_more (Kept n) m k l lt = omega arith
has_more (Gone n) m k l lt = omega arith
has_more (New units) m k l lt = omega arith

pub first_run : (runs rest : List Run) (first run : Run) → runs ≡ first ∷ rest → first ≡ run → AllRuns runs → IsRun run × AllRuns rest
first_run runs rest first run e i h = rw (e, i) at h
