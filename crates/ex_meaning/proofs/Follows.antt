-- What an evaluation does to what was printed and to the steps, wherever it begins.
use Rattle.std.proofs.Common.{◌≡◌, ◌≤◌, ℕ, ◌-◌, nat_le, if◌then◌else◌, Bool, true, false, List, [], ◌++◌, length, refl, sym, ap, ◌∙◌, arith, append_assoc}
use Rattle.std.proofs.lemmas.List.{append-nil}
use Rattle.ex_faults.specs.declared.fault.Fault.{Fault}
use Rattle.ex_faults.specs.declared.fault.Fault.TheVariants.{TooManySteps}
use Rattle.ex_meaning.specs.Bound.{Bindings}
use Rattle.ex_meaning.specs.Going.{State, Going, Gives, Ends, left_after, ends, charge, and_then, restored, scoped, bind, print_limit}
use Rattle.ex_meaning.specs.Laws.{Follows}

-- a state that comes after another: it follows, and where what was printed had room it has room
pub record Comes (s t : State) : Type 0 where
  pub follows : Follows s t
  pub fits : length s.printed ≤ print_limit → length t.printed ≤ print_limit

-- an end after a state: what was printed has room, and where steps are wanting none is left
pub record Halts (s : State) (f : Fault) (printed : List ℕ) (left : ℕ) : Type 0 where
  pub fits : length s.printed ≤ print_limit → length printed ≤ print_limit
  pub used : f ≡ TooManySteps → left ≡ 0

-- what an evaluation gives from a state is a later one, or such an end
abbrev pub GoesOn : {X : Type 0} → State → Going X → Type 0
GoesOn s (Gives x t) = Comes s t
GoesOn s (Ends f printed left) = Halts s f printed left

-- an evaluation that does so from each state
pub record Keeps {X : Type 0} (go : State → Going X) : Type 0 where
  pub goes : (s : State) → GoesOn s (go s)

-- a state comes after itself
stays : (s : State) → Comes s s
stays s = record { follows = record { more = []; printed = sym (append-nil s.printed); left = omega arith }; fits = λ h. h }

-- what comes after a later state comes after the first
comes_later : {s t u : State} → Comes s t → Comes t u → Comes s u
comes_later {s} {t} {u} a b = record {
  follows = record {
    more = a.follows.more ++ b.follows.more;
    printed = b.follows.printed ∙ (ap (λ xs. xs ++ b.follows.more) a.follows.printed ∙ append_assoc s.printed a.follows.more b.follows.more);
    left = omega (arith, a.follows.left, b.follows.left);
  };
  fits = λ h. b.fits (a.fits h);
}

-- what goes on from a later state goes on from the first
pub goes_later : {X : Type 0} (s t : State) (r : Going X) → Comes s t → GoesOn t r → GoesOn s r
goes_later s t (Gives x u) c g = comes_later c g
goes_later s t (Ends f printed left) c g = record { fits = λ h. g.fits (c.fits h); used = g.used }

-- names that are bound print nothing and take no step
pub binds : (found : Bindings) (s : State) → Comes s (bind found s)
binds found s = record { follows = record { more = []; printed = sym (append-nil s.printed); left = omega arith }; fits = λ h. h }

-- steps that are taken don't come back
fewer : (n : ℕ) (s : State) → Comes s (record s { left = s.left - n })
fewer n s = record { follows = record { more = []; printed = sym (append-nil s.printed); left = omega arith }; fits = λ h. h }

-- where steps are wanting none is left
none_left : (f : Fault) (left : ℕ) → f ≡ TooManySteps → left_after f left ≡ 0
none_left TooManySteps left e = refl
none_left f left e = absurd (cc)

-- giving a value at once does
pub given : {X : Type 0} (x : X) → Keeps (λ s. Gives x s)
given x = record { goes = λ s. stays s }

-- so does ending by a fault
pub ended : {X : Type 0} (f : Fault) → Keeps {X = X} (λ s. ends f s)
ended f = record { goes = λ s. record { fits = λ h. h; used = none_left f s.left } }

-- either there are enough steps and it goes on with fewer, or none is left
charge_goes : {X : Type 0} (b : Bool) (n : ℕ) (s : State) (go : State → Going X) → Keeps go → GoesOn s (if b then go (record s { left = s.left - n }) else ends TooManySteps s)
charge_goes true n s go k = goes_later s (record s { left = s.left - n }) (go (record s { left = s.left - n })) (fewer n s) (k.goes (record s { left = s.left - n }))
charge_goes false n s go k = record { fits = λ h. h; used = λ e. refl }

-- what goes on does so also where steps are taken first
pub charged : {X : Type 0} {go : State → Going X} (n : ℕ) → Keeps go → Keeps (λ s. charge n s go)
charged {X} {go} n k = record { goes = λ s. charge_goes (nat_le n s.left) n s go k }

-- what goes on from the state that an evaluation gives goes on from where that began
then_goes : {X Y : Type 0} (s : State) (r : Going X) (next : X → State → Going Y) → GoesOn s r → ((x : X) → Keeps (next x)) → GoesOn s (and_then r next)
then_goes s (Gives x t) next g h = goes_later s t (next x t) g ((h x).goes t)
then_goes s (Ends f printed left) next g h = g

-- so do two evaluations, one after the other
pub followed_by : {X Y : Type 0} {go : State → Going X} {next : X → State → Going Y} → Keeps go → ((x : X) → Keeps (next x)) → Keeps (λ s. and_then (go s) next)
followed_by {X} {Y} {go} {next} k h = record { goes = λ s. then_goes s (go s) next (k.goes s) h }

-- the bindings from before change nothing else
restored_goes : {X : Type 0} (made : Bindings) (s : State) (r : Going X) → GoesOn s r → GoesOn s (restored made r)
restored_goes made s (Gives x t) g = record { follows = record { more = g.follows.more; printed = g.follows.printed; left = g.follows.left }; fits = g.fits }
restored_goes made s (Ends f printed left) g = g

-- so does an evaluation whose bindings don't leave
pub within : {X : Type 0} {go : State → Going X} → Keeps go → Keeps (λ s. scoped s go)
within {X} {go} k = record { goes = λ s. restored_goes s.made s (go s) (k.goes s) }

-- so does one of two, whichever it is
pub either_way : {X : Type 0} {here there : State → Going X} (b : Bool) → Keeps here → Keeps there → Keeps (λ s. if b then here s else there s)
either_way true k l = record { goes = λ s. k.goes s }
either_way false k l = record { goes = λ s. l.goes s }
