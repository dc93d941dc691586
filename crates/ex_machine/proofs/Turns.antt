-- A turn of the machine keeps what is given in the end.
use Rattle.std.proofs.Common.{◌≡◌, ◌-◌, ℕ, true, false, List, [], ◌∷◌, ◌++◌, Option, Some, None, Result, Err, refl, sym, subst, arith}
use Rattle.std.specs.Prelude.{nat_le, slice_get, pos}
use Rattle.std.proofs.lemmas.Bool.Decides.{nat_tests}
use Rattle.ex_value.specs.declared.Value.{Value}
use Rattle.ex_model.specs.declared.ast.Operator.{Operator}
use Rattle.ex_model.specs.declared.ast.Node.{Node}
use Rattle.ex_model.specs.declared.ast.Node.TheVariants.{Literal, Lookup, Bind, Apply}
use Rattle.ex_model.specs.declared.bindings.Binding.{Binding}
use Rattle.ex_model.specs.declared.fault.Fault.{Fault}
use Rattle.ex_model.specs.declared.fault.Fault.TheVariants.{TooManySteps}
use Rattle.ex_model.specs.Tree.{Tree, Integer, Variable, Match, Binary, Named}
use Rattle.ex_model.specs.At.{IsAt}
use Rattle.ex_model.specs.Meaning.{Evaluated, Gives, Faults, charge, meaning_of, looked_up, seen, matched, operated, applied}
use Rattle.ex_machine.specs.declared.machine.Frame.{Frame}
use Rattle.ex_machine.specs.declared.machine.Frame.TheVariants.{First, Second, Bound}
use Rattle.ex_machine.specs.declared.machine.Spot.{Spot}
use Rattle.ex_machine.specs.declared.machine.Spot.TheVariants.{Entered, Returned}
use Rattle.ex_machine.specs.Futures.{Rest, ThenSecond, ThenApply, ThenBind, rest_meaning, resumed, begun, IsFrame, waits_for_second, waits_to_apply, waits_to_bind, AreFrames, Sees, sees_integer, sees_variable, sees_match, sees_binary, IsFuture, spot_of}

-- nothing comes after a fault
pub resumed-fault : (base : List Binding) (rests : List Rest) (f : Fault) (left : ℕ) → resumed base rests (Faults f left) ≡ Faults f left
resumed-fault base [] f left = refl
resumed-fault base (rest ∷ rests) f left = resumed-fault base rests f left

-- a value is given on
pub value_stays : (nodes : List Node) (base : List Binding) (frames : List Frame) (made : List Binding) (left : ℕ) (v : Value) (rests : List Rest) → AreFrames nodes frames rests → IsFuture nodes base frames made left (Returned v) (resumed base rests (Gives v made left))
value_stays nodes base frames made left v rests h = (rests, h, refl)

-- too few steps
pub unpaid : (base : List Binding) (n left left' : ℕ) (go : ℕ → Evaluated) (rests : List Rest)
    → nat_le n left ≡ false → left' ≡ left - n → Faults TooManySteps left' ≡ resumed base rests (charge n left go)
unpaid base n left left' go rests e is =
    let none : left' ≡ 0 = grind (arith, nat_tests) in
    rw (e, none) (sym (resumed-fault base rests TooManySteps 0))

-- enough steps
pub paid : (nodes : List Node) (base : List Binding) (frames : List Frame) (made : List Binding) (n left left' left'' : ℕ) (go : ℕ → Evaluated) (rests : List Rest) (spot : Spot)
    → nat_le n left ≡ true → left' ≡ left - n → IsFuture nodes base frames made left'' spot (resumed base rests (go left')) → IsFuture nodes base frames made left'' spot (resumed base rests (charge n left go))
paid nodes base frames made n left left' left'' go rests spot e is h =
    rw e (subst (λ l. IsFuture nodes base frames made left'' spot (resumed base rests (go l))) is h)

-- the node for a step, and then the rest
pub meaning-begins : (base : List Binding) (t : Tree) (made : List Binding) (left : ℕ) → charge 1 left (λ left. begun base t made left) ≡ meaning_of base t made left
meaning-begins base (Integer n) made left = refl
meaning-begins base (Variable x) made left = refl
meaning-begins base (Match p a) made left = refl
meaning-begins base (Binary o a b) made left = refl

-- what a node shows of the tree at its place
pub seen_at : (nodes : List Node) (i : ℕ) (node : Node) (t : Tree) → slice_get nodes i ≡ Some node → IsAt nodes i t → Sees nodes node t
seen_at nodes i node (Integer n) e h = let s : node ≡ Literal (pos n) = cc in rw s sees_integer
seen_at nodes i node (Variable x) e h = let s : node ≡ Lookup x = cc in rw s sees_variable
seen_at nodes i node (Match (Named x) a) e h = let s : node ≡ Bind x h.0 = cc (h.1) in rw s (sees_match h.2)
seen_at nodes i node (Binary o a b) e h = let s : node ≡ Apply o h.0 h.1 = cc (h.2) in rw s (sees_binary h.3 h.4)

-- a part is gone into, with a frame for its value
pub went : (nodes : List Node) (base : List Binding) (frames frames' : List Frame) (made : List Binding) (left i : ℕ) (frame : Frame) (t : Tree) (rest : Rest) (rests : List Rest)
    → frames' ≡ frames ++ frame ∷ [] → IsAt nodes i t → IsFrame nodes frame rest → AreFrames nodes frames rests → IsFuture nodes base frames' made left (Entered i) (resumed base (rest ∷ rests) (meaning_of base t made left))
went nodes base frames frames' made left i frame t rest rests e at is are = (t, rest ∷ rests, at, (frames, frame, e, is, are), refl)

-- the value of a name
pub name_seen : (nodes : List Node) (base : List Binding) (frames : List Frame) (made : List Binding) (left : ℕ) (x : List ℕ) (o : Option Value) (rests : List Rest) → AreFrames nodes frames rests
    → IsFuture nodes base frames made left (spot_of x o) (resumed base rests (looked_up x o made left))
name_seen nodes base frames made left x None rests h = sym (resumed-fault base rests _ left)
name_seen nodes base frames made left x (Some v) rests h = value_stays nodes base frames made left v rests h

-- begins a name
pub begins_variable : (nodes : List Node) (base : List Binding) (frames : List Frame) (made : List Binding) (left : ℕ) (x : List ℕ) (spot : Spot) (t : Tree) (rests : List Rest)
    → Sees nodes (Lookup x) t → AreFrames nodes frames rests → spot ≡ spot_of x (seen base made x) → IsFuture nodes base frames made left spot (resumed base rests (begun base t made left))
begins_variable nodes base frames made left x spot t rests sees_variable are e = rw e (name_seen nodes base frames made left x (seen base made x) rests are)

-- where a part is gone into
abbrev pub Goes : List Frame → List Frame → List Binding → List Binding → ℕ → ℕ → Spot → ℕ → Frame → Type 0
Goes frames frames' made made' left left' spot i frame = (spot ≡ Entered i) × (frames' ≡ frames ++ frame ∷ []) × (made' ≡ made) × (left' ≡ left)

module _ (nodes : List Node) (base : List Binding) (frames frames' : List Frame) (made made' : List Binding) (left left' : ℕ) (spot : Spot) (rests : List Rest) (are : AreFrames nodes frames rests) where
  -- begins a match
  pub begins_match : (x : List ℕ) (i : ℕ) (t : Tree) → Sees nodes (Bind x i) t → Goes frames frames' made made' left left' spot i (Bound x) → IsFuture nodes base frames' made' left' spot (resumed base rests (begun base t made left))
  begins_match x i t (sees_match {a = a} at) e = rw (e.0, e.2, e.3) (went nodes base frames frames' made left i (Bound x) a (ThenBind x) rests e.1 at waits_to_bind are)

  -- begins an operator
  pub begins_operator : (o : Operator) (i j : ℕ) (t : Tree) → Sees nodes (Apply o i j) t → Goes frames frames' made made' left left' spot i (First o j) → IsFuture nodes base frames' made' left' spot (resumed base rests (begun base t made left))
  begins_operator o i j t (sees_binary {a = a} {b = b} at bt) e = rw (e.0, e.2, e.3) (went nodes base frames frames' made left i (First o j) a (ThenSecond o b) rests e.1 at (waits_for_second bt) are)

  -- goes on to the second operand
  pub goes_to_second : (o : Operator) (j : ℕ) (v : Value) (rest : Rest) → IsFrame nodes (First o j) rest → Goes frames frames' made made' left left' spot j (Second o v) → IsFuture nodes base frames' made' left' spot (resumed base rests (rest_meaning base rest v made left))
  goes_to_second o j v rest (waits_for_second {b = b} bt) e = rw (e.0, e.2, e.3) (went nodes base frames frames' made left j (Second o v) b (ThenApply o v) rests e.1 bt waits_to_apply are)

-- goes on to apply an operator
pub goes_to_apply : (nodes : List Node) (base : List Binding) (frames' : List Frame) (made made' : List Binding) (left left' : ℕ) (spot : Spot) (rests : List Rest) (o : Operator) (v w : Value) (rest : Rest)
    → IsFrame nodes (Second o v) rest → IsFuture nodes base frames' made' left' spot (resumed base rests (applied v w (operated o v w) made left)) → IsFuture nodes base frames' made' left' spot (resumed base rests (rest_meaning base rest w made left))
goes_to_apply nodes base frames' made made' left left' spot rests o v w rest waits_to_apply h = h

-- goes on to bind a name
pub goes_to_bind : (nodes : List Node) (base : List Binding) (frames' : List Frame) (made made' : List Binding) (left left' : ℕ) (spot : Spot) (rests : List Rest) (x : List ℕ) (w : Value) (rest : Rest)
    → IsFrame nodes (Bound x) rest → IsFuture nodes base frames' made' left' spot (resumed base rests (matched (Named x) w made left)) → IsFuture nodes base frames' made' left' spot (resumed base rests (rest_meaning base rest w made left))
goes_to_bind nodes base frames' made made' left left' spot rests x w rest waits_to_bind h = h

-- an operator's own fault
pub operator_fails : (base : List Binding) (made : List Binding) (left : ℕ) (v w : Value) (r : Result Value Fault) (f : Fault) (rests : List Rest)
    → Err f ≡ r → Faults f left ≡ resumed base rests (applied v w r made left)
operator_fails base made left v w r f rests e = rw (← e) (sym (resumed-fault base rests f left))
