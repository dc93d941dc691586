-- What stands before a cell in its flow.
use Rattle.std.proofs.Common.{◌≡◌, ℕ, Bool, true, false, List, [], ◌∷◌, ◌++◌, Option, Some, None, map, refl, sym, ap, subst, ◌∙◌, eq-eqb, append_assoc}
use Rattle.std.specs.Prelude.{if◌then◌else◌, unwrap_or, option_map}
use Rattle.notebook.specs.declared.parts.Cell.{Cell}
use Rattle.notebook.specs.declared.parts.Parts.{Parts}
use Rattle.notebook.specs.declared.states.Lane.{Lane}
use Rattle.notebook.specs.declared.before.Before.{Before}
use Rattle.notebook.specs.Before.{left, IsBefore}
use Rattle.notebook.specs.Rules.{IsNotebook, cell_number}
use Rattle.notebook.specs.Flow.{flow, flow_in, lane_of, lane_cells, is_cell, up_to}
use Rattle.notebook.proofs.Flows.{prefix-flow}
use Rattle.section_queues.specs.Starts.{before, earlier, earlier_in}

one-only : {X : Type 0} (x : X) (ys : List X) (y : X) → x ∷ [] ≡ ys ++ y ∷ [] → [] ≡ ys
one-only x [] y e = refl
one-only x (z ∷ []) y e = absurd (cc e)
one-only x (z ∷ w ∷ ys) y e = absurd (cc e)

before-more : {X : Type 0} (p : X → Bool) (x : X) (xs ys : List X) (y : X) → ((zs : List X) → up_to p xs ≡ zs ++ y ∷ [] → before p xs ≡ zs) → p x ≡ false → x ∷ up_to p xs ≡ ys ++ y ∷ [] → p y ≡ true → x ∷ before p xs ≡ ys
before-more p x xs [] y further t e h =
    let same : x ≡ y = cc e in
    absurd (cc (t, ap p same ∙ h))
before-more p x xs (z ∷ ys) y further t e h =
    let same : x ≡ z = cc e in
    let rest : up_to p xs ≡ ys ++ y ∷ [] = cc e in
    ap (λ k. k ∷ before p xs) same ∙ ap (λ ks. z ∷ ks) (further ys rest)

-- the list up to and with the first that passes, without that one
pub before-up_to : {X : Type 0} (p : X → Bool) (xs ys : List X) (y : X) → up_to p xs ≡ ys ++ y ∷ [] → p y ≡ true → before p xs ≡ ys
before-up_to p [] [] y e h = absurd (cc e)
before-up_to p [] (z ∷ ys) y e h = absurd (cc e)
before-up_to p (x ∷ xs) ys y e h =
    elim (p x)
    as (λ b. p x ≡ b → (if b then x ∷ [] else x ∷ up_to p xs) ≡ ys ++ y ∷ [] → (if b then [] else x ∷ before p xs) ≡ ys) [
      | true ↦ λ t f. one-only x ys y f
      | false ↦ λ t f. before-more p x xs ys y (λ zs k. before-up_to p xs zs y k h) t f h
    ]
    refl
    e

-- what stands before a cell whose lane is known
pub earlier-by : (n : Parts) (id : ℕ) (lane : Lane) → lane_of n id ≡ Some lane → earlier n id ≡ map cell_number (before (is_cell id) (lane_cells n lane))
earlier-by n id lane e = ap (λ o. unwrap_or (option_map (earlier_in n id) o) []) e

pub flow-by : (n : Parts) (id : ℕ) (lane : Lane) → lane_of n id ≡ Some lane → flow n id ≡ Some (up_to (is_cell id) (lane_cells n lane))
flow-by n id lane e = ap (option_map (flow_in n id)) e

pub earlier-is : (n : Parts) (id : ℕ) (b : Before) → IsBefore n id b → earlier n id ≡ map cell_number (left b.earlier)
earlier-is n id b h =
    let both : Some (up_to (is_cell id) (lane_cells n b.lane)) ≡ Some (left b.earlier ++ b.cell.now ∷ []) = sym (flow-by n id b.lane h.home) ∙ h.ahead in
    let same : up_to (is_cell id) (lane_cells n b.lane) ≡ left b.earlier ++ b.cell.now ∷ [] = cc both in
    earlier-by n id b.lane h.home ∙ ap (map cell_number) (before-up_to (is_cell id) (lane_cells n b.lane) (left b.earlier) b.cell.now same (eq-eqb b.cell.now.id id h.number))

pub earlier-none : (n : Parts) (id : ℕ) → lane_of n id ≡ None → earlier n id ≡ []
earlier-none n id e = ap (λ o. unwrap_or (option_map (earlier_in n id) o) []) e

-- what stands before a cell whose flow is known
none-flow : (n : Parts) (id : ℕ) (xs : List Cell) (y : Cell) → lane_of n id ≡ None → flow n id ≡ Some (xs ++ y ∷ []) → ⊥
none-flow n id xs y h e =
    let none : flow n id ≡ None = ap (option_map (flow_in n id)) h in
    let both : None ≡ Some (xs ++ y ∷ []) = sym none ∙ e in
    cc both

pub earlier-lane : (n : Parts) (id : ℕ) (xs : List Cell) (y : Cell) (o : Option Lane) → lane_of n id ≡ o → flow n id ≡ Some (xs ++ y ∷ []) → y.id ≡ id → earlier n id ≡ map cell_number xs
earlier-lane n id xs y None h e same = absurd (none-flow n id xs y h e)
earlier-lane n id xs y (Some lane) h e same =
    let both : Some (up_to (is_cell id) (lane_cells n lane)) ≡ Some (xs ++ y ∷ []) = sym (flow-by n id lane h) ∙ e in
    let line : up_to (is_cell id) (lane_cells n lane) ≡ xs ++ y ∷ [] = cc both in
    earlier-by n id lane h ∙ ap (map cell_number) (before-up_to (is_cell id) (lane_cells n lane) xs y line (eq-eqb y.id id same))

pub earlier-flow : (n : Parts) (id : ℕ) (xs : List Cell) (y : Cell) → flow n id ≡ Some (xs ++ y ∷ []) → y.id ≡ id → earlier n id ≡ map cell_number xs
earlier-flow n id xs y e same = earlier-lane n id xs y (lane_of n id) refl e same

-- what stands before is the beginning of the flow
up_to-before : {X : Type 0} (p : X → Bool) (xs : List X) → (ys : List X) × (up_to p xs ≡ before p xs ++ ys)
up_to-before p [] = ([], refl)
up_to-before {X} p (x ∷ xs) =
    elim (p x)
    as (λ b. (ys : List X) × ((if b then x ∷ [] else x ∷ up_to p xs) ≡ (if b then [] else x ∷ before p xs) ++ ys)) [
      | true ↦ (x ∷ [], refl)
      | false ↦ let r : (ys : List X) × (up_to p xs ≡ before p xs ++ ys) = up_to-before p xs in (r.0, ap (λ ks. x ∷ ks) r.1)
    ]

-- a place among numbers is a place among their cells
pub record NumberSpot (cs : List Cell) (ks : List ℕ) (k : ℕ) : Type 0 where
  pub front : List Cell
  pub cell : Cell
  pub back : List Cell
  pub parts : cs ≡ front ++ cell ∷ back
  pub ahead : map cell_number front ≡ ks
  pub number : cell.id ≡ k

pub number-spot : (cs : List Cell) (ks js : List ℕ) (k : ℕ) → map cell_number cs ≡ ks ++ k ∷ js → NumberSpot cs ks k
number-spot [] [] js k e = absurd (cc e)
number-spot [] (i ∷ ks) js k e = absurd (cc e)
number-spot (c ∷ cs) [] js k e = let same : c.id ≡ k = cc e in record { front = []; cell = c; back = cs; parts = refl; ahead = refl; number = same }
number-spot (c ∷ cs) (i ∷ ks) js k e =
    let same : c.id ≡ i = cc e in
    let rest : map cell_number cs ≡ ks ++ k ∷ js = cc e in
    let t : NumberSpot cs ks k = number-spot cs ks js k rest in
    record {
      front = c ∷ t.front;
      cell = t.cell;
      back = t.back;
      parts = ap (λ ds. c ∷ ds) t.parts;
      ahead = ap (λ j. j ∷ map cell_number t.front) same ∙ ap (λ js. i ∷ js) t.ahead;
      number = t.number;
    }

-- a cell before another, by its number: it has a flow, and what stands before it stands before the other
pub record Ahead (n : Parts) (ks : List ℕ) (k : ℕ) : Type 0 where
  pub front : List Cell
  pub cell : Cell
  pub number : cell.id ≡ k
  pub flows : flow n k ≡ Some (front ++ cell ∷ [])
  pub ahead : map cell_number front ≡ ks

ahead-lane : (n : Parts) (id : ℕ) (ks js : List ℕ) (k : ℕ) (o : Option Lane) → IsNotebook n → lane_of n id ≡ o → earlier n id ≡ ks ++ k ∷ js → Ahead n ks k
ahead-lane n id [] js k None book h e = absurd (cc (sym (earlier-none n id h) ∙ e))
ahead-lane n id (i ∷ ks) js k None book h e = absurd (cc (sym (earlier-none n id h) ∙ e))
ahead-lane n id ks js k (Some lane) book h e =
    let line : List Cell = lane_cells n lane in
    let t : NumberSpot (before (is_cell id) line) ks k = number-spot (before (is_cell id) line) ks js k (sym (earlier-by n id lane h) ∙ e) in
    let r : (ys : List Cell) × (up_to (is_cell id) line ≡ before (is_cell id) line ++ ys) = up_to-before (is_cell id) line in
    let whole : flow n id ≡ Some (t.front ++ t.cell ∷ (t.back ++ r.0)) =
    flow-by n id lane h ∙ ap (λ cs. Some cs) (r.1 ∙ (ap (λ cs. cs ++ r.0) t.parts ∙ append_assoc t.front (t.cell ∷ t.back) r.0)) in
    record {
      front = t.front;
      cell = t.cell;
      number = t.number;
      flows = subst (λ j. flow n j ≡ Some (t.front ++ t.cell ∷ [])) t.number (prefix-flow n id t.front (t.back ++ r.0) t.cell book whole);
      ahead = t.ahead;
    }

pub ahead-of : (n : Parts) (id : ℕ) (ks js : List ℕ) (k : ℕ) → IsNotebook n → earlier n id ≡ ks ++ k ∷ js → Ahead n ks k
ahead-of n id ks js k book e = ahead-lane n id ks js k (lane_of n id) book refl e

pub ahead-earlier : (n : Parts) (ks : List ℕ) (k : ℕ) → Ahead n ks k → earlier n k ≡ ks
ahead-earlier n ks k t = earlier-flow n k t.front t.cell t.flows t.number ∙ t.ahead
