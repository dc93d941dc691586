-- The turn rule: what holds of the table between any two steps, and what each step tells its seat.
-- Word 0 is the next ticket, word 1 the ticket that is served, word 2 the length of the history. The slot has the state.
use Rattle.std.specs.Prelude.{◌≡◌, ◌≢◌, ℕ, ◌+◌, ◌%◌, ◌^◌, ◌==◌, ◌<◌, ◌≤◌, ◌⊎◌, Bool, true, false, cond, nat_lt, List, [], ◌∷◌, ◌++◌, length, map, max, sum_by, count_by, All, Option, Some, None, is_some}
use mathlib.Core.Option.{some}
use mathlib.Core.List.{IsPrefix}
use lib.ListN.{get_elem?}
use Rattle.atomic_table.specs.Table.{State, Me, Step}
use Rattle.turn.specs.Histories.{entries_by, MayFind}
use Rattle.turn.specs.Passes.{Pass}
use Rattle.turn.specs.declared.rule.View.{View}
use Rattle.turn.specs.declared.rule.Ended.{Ended}

-- how often the number stands in the list
abbrev pub times : ℕ → List ℕ → ℕ
times q numbers = count_by (λ n. n == q) numbers

-- the longer of two lists
abbrev pub longer : {E : Type 0} → List E → List E → List E
longer xs ys = cond (nat_lt (length xs) (length ys)) ys xs

module _ {O E : Type 0} where
  -- The views.

  -- what the first seat knows
  abbrev pub first_view : O → View O E
  first_view o = record { opening = Some o; number = 0; seen = []; known = 0; alone = []; ticket = None; turn = false; ended = []; made = 1 }

  -- what is left of a seat that was joined into another
  abbrev pub spent_view : View O E
  spent_view = record { opening = None; number = 0; seen = []; known = 0; alone = []; ticket = None; turn = false; ended = []; made = 0 }

  -- whether the seat wasn't joined into another
  abbrev pub is_live : View O E → Bool
  is_live v = is_some v.opening

  -- 1 for a seat that has drawn a ticket
  abbrev pub ticket_count : View O E → ℕ
  ticket_count v = cond (is_some v.ticket) 1 0

  -- how many tickets are drawn
  abbrev pub drawn : List (View O E) → ℕ
  drawn views = sum_by ticket_count views

  -- the numbers that the seat stands for: its own, and those of the seats that were joined into it
  abbrev pub numbers_of : View O E → List ℕ
  numbers_of v = cond (is_live v) (v.number ∷ map (λ e. e.number) v.ended) []

  -- The rule.

  -- what holds of the view at the place i
  pub record IsSeat (number_of : E → ℕ) (opening : O) (next serving : ℕ) (log : List E) (i : ℕ) (v : View O E) : Type 0 where
    -- a seat that was joined into another is spent
    pub spent : is_live v ≡ false → v ≡ spent_view
    -- a live seat's number is its place among the views
    pub numbered : is_live v ≡ true → v.number ≡ i
    -- all views have one opening
    pub opened : is_live v ≡ true → v.opening ≡ Some opening
    -- a drawn ticket is one of those from the ticket that is served up to the next one
    pub ticket : (t : ℕ) → v.ticket ≡ Some t → (serving ≤ t) × (t < next)
    -- a seat that has the turn has the ticket that is served, and has seen the whole history
    pub turn : v.turn ≡ true → (v.ticket ≡ Some serving) × (v.seen ≡ log)
    -- what a seat has seen is a beginning of the history, so of two such lists one begins the other
    pub prefix : IsPrefix v.seen log
    -- the history has at least the entries that a seat was told of
    pub known : v.known ≤ length log
    -- under a live seat's number stand the entries that it has seen there
    pub own : is_live v ≡ true → entries_by number_of i log ≡ entries_by number_of i v.seen
    -- and those that it had seen there before others were joined into it
    pub alone : is_live v ≡ true → IsPrefix v.alone log × (entries_by number_of i log ≡ entries_by number_of i v.alone)
    -- under an ended number stand just the entries of the list that was kept with it, which is a beginning too
    pub past : All (λ e. IsPrefix e.seen log × (entries_by number_of e.number log ≡ entries_by number_of e.number e.seen)) v.ended

  -- each number that was made stands for one seat, live or ended, and no other number for any: so live and ended numbers all differ
  pub record AreNumbered (views : List (View O E)) : Type 0 where
    pub once : (q : ℕ) → sum_by (λ v. times q (numbers_of v)) views ≡ cond (nat_lt q (length views)) 1 0
    pub whole : sum_by (λ v. length (numbers_of v)) views ≡ length views

  -- one seat at most makes new ones, and knows how many there are
  pub record HaveMaker (views : List (View O E)) : Type 0 where
    pub made : (i : ℕ) (v : View O E) → get_elem? views i ≡ some v → 0 < v.made → v.made ≡ length views
    pub one : (i j : ℕ) (v w : View O E) → get_elem? views i ≡ some v → get_elem? views j ≡ some w → 0 < v.made → 0 < w.made → i ≡ j

  -- no two seats have drawn one ticket, so at most one seat has the turn
  abbrev pub AreApart : List (View O E) → Type 0
  AreApart views = (i j : ℕ) (v w : View O E) (t : ℕ) → get_elem? views i ≡ some v → get_elem? views j ≡ some w → v.ticket ≡ Some t → w.ticket ≡ Some t → i ≡ j

  -- a seat has the turn
  abbrev pub SomeTurn : List (View O E) → Type 0
  SomeTurn views = (i : ℕ) × (v : View O E) × (get_elem? views i ≡ some v) × (v.turn ≡ true)

  -- a live seat has seen the whole history
  abbrev pub SomeSeen : List (View O E) → List E → Type 0
  SomeSeen views log = (i : ℕ) × (v : View O E) × (get_elem? views i ≡ some v) × (is_live v ≡ true) × (v.seen ≡ log)

  module _ {S : Type 0} (list : S → List E) (opening_of : S → O) (number_of : E → ℕ) where
    -- the state is in the slot, with the opening and the history
    abbrev pub IsHome : O → List E → List (mathlib.Core.Option.Option (Option S)) → Type 0
    IsHome opening log homes = (y : S) × (get_elem? homes 0 ≡ some (some (Some y))) × (list y ≡ log) × (opening_of y ≡ opening)

    -- the table of a lock with this opening and this many seats
    pub record TurnRule (opening : O) (seats : ℕ) (s : State (Option S) (View O E)) : Type 0 where
      -- the next ticket and the one that is served, counted without end, and the history
      pub next : ℕ
      pub serving : ℕ
      pub log : List E
      pub words : s.words ≡ next % 2 ^ 64 ∷ serving % 2 ^ 64 ∷ length log ∷ []
      -- the seats that were made are no more than the lock has, which are at most 64
      pub few : length s.views ≤ seats
      pub most : seats ≤ 64
      -- the ticket that is served and the number of drawn tickets give the next ticket
      pub counted : serving + drawn s.views ≡ next
      pub apart : AreApart s.views
      pub each : (i : ℕ) (v : View O E) → get_elem? s.views i ≡ some v → IsSeat number_of opening next serving log i v
      -- the history is the longest list that a seat has seen
      pub longest : SomeSeen s.views log
      pub numbers : AreNumbered s.views
      pub maker : HaveMaker s.views
      -- a number that was not yet made has no entry
      pub unborn : (q : ℕ) → length s.views ≤ q → entries_by number_of q log ≡ []
      -- there is one slot, and the state is out of it only while a seat has the turn
      pub one_slot : length s.homes ≡ 1
      pub slot : IsHome opening log s.homes ⊎ SomeTurn s.views

    -- The steps: what a seat, with its view and the slot that it holds, knows afterwards.

    -- a seat's view, and the slots that it holds
    abbrev pub Holder : Type 0
    Holder = Me (Option S) (View O E)

    -- the slot is held, with the state in it
    abbrev pub hand : S → List (ℕ × Option S)
    hand y = (0, Some y) ∷ []

    -- a seat with this ticket, or with none, which waits for its turn or wants none
    abbrev pub with_ticket : View O E → Option ℕ → View O E
    with_ticket v t = record v { ticket = t; turn = false }

    -- a seat that has the turn, and has seen the state's list
    abbrev pub in_turn : View O E → List E → View O E
    in_turn v log = record v { seen = log; alone = log; turn = true }

    -- a ticket was drawn: the old value of word 0
    abbrev pub Drew : Step (Option S) → Holder → ℕ → Holder → Type 0
    Drew st m r m' = (t : ℕ) × (r ≡ t % 2 ^ 64) × (m' ≡ (with_ticket m.0 (Some t), m.1))

    -- the turn has come, and the state is held: its list is one that the seat may find, its opening the seat's
    pub record IsTaken (v : View O E) (y : S) : Type 0 where
      pub found : MayFind number_of v.number v.seen v.known (list y)
      pub opened : v.opening ≡ Some (opening_of y)

    -- the seat looked whose turn it is: its own where the value is its ticket
    abbrev pub Looked : Step (Option S) → Holder → ℕ → Holder → Type 0
    Looked st m r m' = (t : ℕ) → m.0.ticket ≡ Some t → (r ≡ t % 2 ^ 64 → (y : S) × (m' ≡ (in_turn m.0 (list y), hand y)) × IsTaken m.0 y) × (r ≢ t % 2 ^ 64 → m' ≡ m)

    -- the list of the state in the slot was published
    abbrev pub Published : Step (Option S) → Holder → ℕ → Holder → Type 0
    Published st m r m' = (y : S) → m.1 ≡ hand y → m' ≡ (in_turn m.0 (list y), m.1)

    -- the next ticket is served, and the state is back
    abbrev pub Served : Step (Option S) → Holder → ℕ → Holder → Type 0
    Served st m r m' = m' ≡ (with_ticket m.0 None, [])

    -- the length of the history was read: it is at least the length of what the seat has seen, and what the seat was told before.
    -- Now the seat is told of that many
    abbrev pub Told : Step (Option S) → Holder → ℕ → Holder → Type 0
    Told st m r m' = (length m.0.seen ≤ r) × (m.0.known ≤ r) × (m' ≡ (record m.0 { known = r }, m.1))

    -- from drawing to the turn
    abbrev pub HasTurn : Holder → Holder → Type 0
    HasTurn m m' = (y : S) × (t : Option ℕ) × (m' ≡ (in_turn (with_ticket m.0 t) (list y), hand y)) × IsTaken m.0 y

  -- no ticket, no turn, and the slot not held
  pub record IsIdle {S : Type 0} (m : Me (Option S) (View O E)) : Type 0 where
    pub live : is_live m.0 ≡ true
    pub ticket : m.0.ticket ≡ None
    pub turn : m.0.turn ≡ false
    pub hand : m.1 ≡ []

  -- no seat was joined into it
  pub record IsSingle (v : View O E) : Type 0 where
    pub ended : v.ended ≡ []
    pub alone : v.alone ≡ v.seen

  -- a new seat is split off: the old one makes no more
  abbrev pub hands_on : View O E → View O E
  hands_on v = record v { made = 0 }

  -- and the new one has a copy of the opening, of what was seen and of what it was told, a new number, no ticket, and nothing ended
  abbrev pub new_seat : View O E → View O E
  new_seat v = record { opening = v.opening; number = v.made; seen = v.seen; known = v.known; alone = v.seen; ticket = None; turn = false; ended = []; made = v.made + 1 }

  -- the seat w ends with this number and this list
  abbrev pub end_of : View O E → Ended E
  end_of w = record { number = w.number; seen = w.seen }

  -- and so does the seat of a pass
  abbrev pub end_of_pass : Pass O E → Ended E
  end_of_pass p = record { number = p.number; seen = p.seen }

  -- w is joined into v, which takes the longer list, the greater of the numbers that the two were told, and all that has ended
  abbrev pub joined : View O E → View O E → View O E
  joined v w = record v { seen = longer v.seen w.seen; known = max v.known w.known; ended = v.ended ++ end_of w ∷ w.ended; made = max v.made w.made }

  -- what a seat that stands for all numbers knows of the state that it finds at the end
  pub record IsWhole {S : Type 0} (list : S → List E) (opening_of : S → O) (number_of : E → ℕ) (opening : O) (v : View O E) (y : S) : Type 0 where
    pub opened : opening_of y ≡ opening
    pub alone : IsPrefix v.alone (list y) × (entries_by number_of v.number (list y) ≡ entries_by number_of v.number v.alone)
    pub past : All (λ e. IsPrefix e.seen (list y) × (entries_by number_of e.number (list y) ≡ entries_by number_of e.number e.seen)) v.ended
    pub known : v.known ≤ length (list y)
    pub others : (q : ℕ) → times q (numbers_of v) ≡ 0 → entries_by number_of q (list y) ≡ []
