-- The logs of a notebook's live cells, in no order.
use Rattle.std.proofs.Common.{◌≡◌, ℕ, ◌+◌, ◌<◌, ◌==◌, Bool, true, false, if◌then◌else◌, List, [], ◌∷◌, length, map, Option, Some, None, suc, refl, sym, ap, subst, ◌∙◌, arith, eq-eqb, eqb-true}
use Rattle.std.proofs.Common.{set, get_or}
use Rattle.std.specs.Prelude.{◌||◌, IsSome}
use Rattle.std.specs.List.{AllByRecursion, list_any}
use Rattle.std.proofs.lemmas.Bool.Decides.{nat_tests}
use Rattle.notebook.specs.declared.parts.Cell.{Cell}
use Rattle.notebook.specs.declared.parts.Parts.{Parts}
use Rattle.notebook.specs.Book.{cells, found}
use Rattle.notebook.specs.Rules.{IsNotebook, cell_number}
use Rattle.notebook.specs.Flow.{is_cell}
use Rattle.lanes.specs.declared.work.Work.{Work}
use Rattle.session_ops.specs.Numbers.{is_in, AreOnce}
use Rattle.session_ops.specs.State.{State, opening}
use Rattle.session_ops.proofs.Lists.{all-weaker}
use Rattle.session_ops.proofs.Live.{AreApart, live-apart}
use Rattle.session_core.specs.declared.logs.CellLog.{CellLog}
use Rattle.session_core.specs.Stands.{StandsFor}
use Rattle.session_core.specs.Logs.{LineUp, IsLogIn, IsLiveIn, AreLogs, BeginsIn, log_cell, place_in, later}
use Rattle.session_core.proofs.Others.{begins}

pub found-some : (o : Option Cell) (c : Cell) → o ≡ Some c → IsSome o
found-some o c e = subst IsSome (sym e) (search)

-- with other logs of the same cells
pub logs-kept : (s t : State) (ls ls' : List CellLog) → AreLogs s ls → t.book ≡ s.book → map log_cell ls' ≡ map log_cell ls → AllByRecursion (IsLogIn t) ls' → AreLogs t ls'
logs-kept s t ls ls' h eb ec all = record {
  once = subst AreOnce (sym ec) h.once;
  logs = all;
  live = λ cell l. subst (λ ns. is_in cell ns ≡ true) (sym ec) (h.live cell (subst (λ n. IsSome (found cell (cells n))) eb l));
}

-- what a state says of the evaluators doesn't matter to the logs
log-work : (s : State) (w : Work) (l : CellLog) → IsLogIn s l → IsLogIn (record s { work = w }) l
log-work s w l h = record { owner = h.owner; is_found = h.is_found; stands = record { log_of = h.stands.log_of; known = h.stands.known } }

pub logs-work : (s : State) (w : Work) (ls : List CellLog) → AreLogs s ls → AreLogs (record s { work = w }) ls
logs-work s w ls h = record { once = h.once; logs = all-weaker (IsLogIn s) (IsLogIn (record s { work = w })) (log-work s w) ls h.logs; live = h.live }

-- the logs of all live cells in notebook order
number-of : (n : ℕ) (cs : List Cell) (c : Cell) → found n cs ≡ Some c → is_in n (map cell_number cs) ≡ true
number-of n [] c e = absurd (cc e)
number-of n (x ∷ xs) c e =
    elim (x.id == n)
    as (λ b. (if b then Some x else found n xs) ≡ Some c → (if b then true else is_in n (map cell_number xs)) ≡ true)
    [ true ↦ λ k. refl | false ↦ λ k. number-of n xs c k ]
    e

number-some : (n : ℕ) (cs : List Cell) (o : Option Cell) → found n cs ≡ o → IsSome o → is_in n (map cell_number cs) ≡ true
number-some n cs None e h = absurd (cc h)
number-some n cs (Some c) e h = number-of n cs c e

out-numbers : (n : ℕ) (cs : List Cell) → list_any (is_cell n) cs ≡ false → is_in n (map cell_number cs) ≡ false
out-numbers n [] e = refl
out-numbers n (c ∷ cs) e =
    elim (c.id == n)
    as (λ b. (b || list_any (is_cell n) cs) ≡ false → (if b then true else is_in n (map cell_number cs)) ≡ false)
    [ true ↦ λ k. absurd (cc k) | false ↦ λ k. out-numbers n cs k ]
    e

once-numbers : (cs : List Cell) → AreApart cs → AreOnce (map cell_number cs)
once-numbers [] h = tt
once-numbers (c ∷ cs) h = (out-numbers c.id cs h.0, once-numbers cs h.1)

lined-cells : (s : State) (cs : List Cell) (ls : List CellLog) → LineUp s cs ls → map log_cell ls ≡ map cell_number cs
lined-cells s [] [] h = refl
lined-cells s [] (l ∷ ls) h = absurd h
lined-cells s (c ∷ cs) [] h = absurd h
lined-cells s (c ∷ cs) (l ∷ ls) h = rw (h.0.cell, lined-cells s cs ls h.1) refl

-- each of some cells with numbers of their own is found by its number
abbrev IsFoundIn : List Cell → Cell → Type 0
IsFoundIn cs c = found c.id cs ≡ Some c

found-later : (x : Cell) (cs ds : List Cell) → list_any (is_cell x.id) ds ≡ false → AllByRecursion (IsFoundIn cs) ds → AllByRecursion (IsFoundIn (x ∷ cs)) ds
found-later x cs [] none h = tt
found-later x cs (d ∷ ds) none h =
    elim (d.id == x.id)
    as (λ b. (d.id == x.id) ≡ b → (b || list_any (is_cell x.id) ds) ≡ false → AllByRecursion (IsFoundIn (x ∷ cs)) (d ∷ ds)) [
      | true ↦ λ t k. absurd (cc k)
      | false ↦ λ t k.
          let here : (x.id == d.id) ≡ false = grind (arith, nat_tests, t) in
          (ap (λ b. if b then Some x else found d.id cs) here ∙ h.0, found-later x cs ds k h.1)
    ]
    refl
    none

found-all : (cs : List Cell) → AreApart cs → AllByRecursion (IsFoundIn cs) cs
found-all [] h = tt
found-all (c ∷ cs) h = (ap (λ b. if b then Some c else found c.id cs) (eq-eqb c.id c.id refl), found-later c cs cs h.0 (found-all cs h.1))

lined-logs : (s : State) (all cs : List Cell) (ls : List CellLog) → cells s.book ≡ all → AllByRecursion (IsFoundIn all) cs → LineUp s cs ls → AllByRecursion (IsLogIn s) ls
lined-logs s all [] [] e f h = tt
lined-logs s all [] (l ∷ ls) e f h = absurd h
lined-logs s all (c ∷ cs) [] e f h = absurd h
lined-logs s all (c ∷ cs) (l ∷ ls) e f h =
    let here : found l.cell (cells s.book) ≡ Some c = ap (λ n. found n (cells s.book)) h.0.cell ∙ (ap (found c.id) e ∙ f.0) in
    (record { owner = c; is_found = here; stands = subst (λ n. StandsFor s n c.source l.log) (sym h.0.cell) h.0.log }, lined-logs s all cs ls e f.1 h.1)

pub opening-logs : (n : Parts) (ls : List CellLog) → IsNotebook n → LineUp (opening n) (cells n) ls → AreLogs (opening n) ls
opening-logs n ls is h =
    let apart : AreApart (cells n) = live-apart n is in
    let same : map log_cell ls ≡ map cell_number (cells n) = lined-cells (opening n) (cells n) ls h in
    record {
      once = subst AreOnce (sym same) (once-numbers (cells n) apart);
      logs = lined-logs (opening n) (cells n) (cells n) ls refl (found-all (cells n) apart) h;
      live = λ cell l. subst (λ ns. is_in cell ns ≡ true) (sym same) (number-some cell (cells n) (found cell (cells n)) refl l);
    }

pub all-begin : (n : Parts) → IsNotebook n → AllByRecursion (BeginsIn n) (cells n)
all-begin n is = all-weaker (IsFoundIn (cells n)) (BeginsIn n) (λ c f. begins c.id (cells n) c f) (cells n) (found-all (cells n) (live-apart n is))

-- a place is within the list, and has the cell's log
pub record Placed (s : State) (cell at : ℕ) (ls : List CellLog) (l : CellLog) : Type 0 where
  pub within : at < length ls
  pub named : l.cell ≡ cell
  pub is : IsLogIn s l

placed-of : (s : State) (cell at : ℕ) (x : CellLog) (ls : List CellLog) (l : CellLog) (b : Bool) (o : Option ℕ) → (x.cell == cell) ≡ b → place_in cell ls ≡ o → IsLogIn s x → Some at ≡ (if b then Some 0 else later 1 o) → l ≡ get_or (x ∷ ls) at l
    → ((k : ℕ) → Some k ≡ place_in cell ls → l ≡ get_or ls k l → Placed s cell k ls l) → Placed s cell at (x ∷ ls) l
placed-of s cell at x ls l true o t eo h e is more =
    let z : at ≡ 0 = cc e in
    let same : l ≡ x = subst (λ k. l ≡ get_or (x ∷ ls) k l) z is in
    record { within = omega (arith, z); named = ap log_cell same ∙ eqb-true x.cell cell t; is = subst (IsLogIn s) (sym same) h }
placed-of s cell at x ls l false None t eo h e is more = absurd (cc e)
placed-of s cell at x ls l false (Some k) t eo h e is more =
    let z' : at ≡ 1 + k = cc e in
    let z : at ≡ suc k = omega (arith, z') in
    let p : Placed s cell k ls l = more k (sym eo) (subst (λ j. l ≡ get_or (x ∷ ls) j l) z is) in
    record { within = omega (arith, z, p.within); named = p.named; is = p.is }

pub placed : (s : State) (cell at : ℕ) (ls : List CellLog) (l : CellLog) → AllByRecursion (IsLogIn s) ls → Some at ≡ place_in cell ls → l ≡ get_or ls at l → Placed s cell at ls l
placed s cell at [] l h e is = absurd (cc e)
placed s cell at (x ∷ ls) l h e is = placed-of s cell at x ls l (x.cell == cell) (place_in cell ls) refl refl h.0 e is (λ k ek ik. placed s cell k ls l h.1 ek ik)

-- a place is within the list
within-of : (cell at : ℕ) (x : CellLog) (ls : List CellLog) (b : Bool) (o : Option ℕ) → ((k : ℕ) → Some k ≡ o → k < length ls) → Some at ≡ (if b then Some 0 else later 1 o) → at < length (x ∷ ls)
within-of cell at x ls true o h e = let z : at ≡ 0 = cc e in omega (arith, z)
within-of cell at x ls false None h e = absurd (cc e)
within-of cell at x ls false (Some k) h e = let z : at ≡ 1 + k = cc e in omega (arith, z, h k refl)

pub place-within : (cell at : ℕ) (ls : List CellLog) → Some at ≡ place_in cell ls → at < length ls
place-within cell at [] e = absurd (cc e)
place-within cell at (x ∷ ls) e = within-of cell at x ls (x.cell == cell) (place_in cell ls) (λ k j. place-within cell k ls j) e

-- a number without a log is no live cell's
later-none : (o : Option ℕ) → None ≡ later 1 o → None ≡ o
later-none None e = refl
later-none (Some k) e = absurd (cc e)

unplaced : (cell : ℕ) (ls : List CellLog) → None ≡ place_in cell ls → is_in cell (map log_cell ls) ≡ false
unplaced cell [] e = refl
unplaced cell (x ∷ ls) e =
    elim (x.cell == cell)
    as (λ b. None ≡ (if b then Some 0 else later 1 (place_in cell ls)) → (if b then true else is_in cell (map log_cell ls)) ≡ false)
    [ true ↦ λ k. absurd (cc k) | false ↦ λ k. unplaced cell ls (later-none (place_in cell ls) k) ]
    e

absent-of : (o : Option Cell) → (IsSome o → ⊥) → o ≡ None
absent-of None h = refl
absent-of (Some c) h = absurd (h refl)

pub absent : (s : State) (cell : ℕ) (ls : List CellLog) → AreLogs s ls → None ≡ place_in cell ls → found cell (cells s.book) ≡ None
absent s cell ls h e = absent-of (found cell (cells s.book)) (λ l. let in_it : is_in cell (map log_cell ls) ≡ true = h.live cell l in let out : is_in cell (map log_cell ls) ≡ false = unplaced cell ls e in cc (in_it, out))

-- the logs of a state in which only this cell's has changed
pub record StaysElsewhere (s t : State) (cell : ℕ) : Type 0 where
  pub stays : (l : CellLog) → (l.cell == cell) ≡ false → IsLogIn s l → IsLogIn t l

all-elsewhere : (s t : State) (cell : ℕ) → StaysElsewhere s t cell → (ls : List CellLog) → is_in cell (map log_cell ls) ≡ false → AllByRecursion (IsLogIn s) ls → AllByRecursion (IsLogIn t) ls
all-elsewhere s t cell stays [] out h = tt
all-elsewhere s t cell stays (x ∷ ls) out h =
    elim (x.cell == cell)
    as (λ b. (x.cell == cell) ≡ b → (if b then true else is_in cell (map log_cell ls)) ≡ false → AllByRecursion (IsLogIn t) (x ∷ ls))
    [ true ↦ λ e k. absurd (cc k) | false ↦ λ e k. (stays.stays x e h.0, all-elsewhere s t cell stays ls k h.1) ]
    refl
    out

moved-of : (s t : State) (cell at : ℕ) (x : CellLog) (ls : List CellLog) (l' : CellLog) (b : Bool) (o : Option ℕ) → StaysElsewhere s t cell → IsLogIn t l' → (x.cell == cell) ≡ b → place_in cell ls ≡ o → AreOnce (map log_cell (x ∷ ls)) → IsLogIn s x → AllByRecursion (IsLogIn s) ls → Some at ≡ (if b then Some 0 else later 1 o)
    → ((k : ℕ) → Some k ≡ place_in cell ls → AllByRecursion (IsLogIn t) (set ls k l')) → AllByRecursion (IsLogIn t) (set (x ∷ ls) at l')
moved-of s t cell at x ls l' true o stays own e eo once h rest z more =
    let zero_at : at ≡ 0 = cc z in
    let same : x.cell ≡ cell = eqb-true x.cell cell e in
    let out : is_in cell (map log_cell ls) ≡ false = subst (λ n. is_in n (map log_cell ls) ≡ false) same once.0 in
    subst (λ k. AllByRecursion (IsLogIn t) (set (x ∷ ls) k l')) (sym zero_at) (own, all-elsewhere s t cell stays ls out rest)
moved-of s t cell at x ls l' false None stays own e eo once h rest z more = absurd (cc z)
moved-of s t cell at x ls l' false (Some k) stays own e eo once h rest z more =
    let one : at ≡ 1 + k = cc z in
    let next : at ≡ suc k = omega (arith, one) in
    subst (λ j. AllByRecursion (IsLogIn t) (set (x ∷ ls) j l')) (sym next) (stays.stays x e h, more k (sym eo))

logs-moved : (s t : State) (cell at : ℕ) (l' : CellLog) → StaysElsewhere s t cell → IsLogIn t l' → (ls : List CellLog) → AreOnce (map log_cell ls) → AllByRecursion (IsLogIn s) ls → Some at ≡ place_in cell ls → AllByRecursion (IsLogIn t) (set ls at l')
logs-moved s t cell at l' stays own [] once h e = absurd (cc e)
logs-moved s t cell at l' stays own (x ∷ ls) once h e = moved-of s t cell at x ls l' (x.cell == cell) (place_in cell ls) stays own refl refl once h.0 h.1 e (λ j ej. logs-moved s t cell j l' stays own ls once.1 h.1 ej)

cells-placed-of : (cell at : ℕ) (x : CellLog) (ls : List CellLog) (l' : CellLog) (b : Bool) (o : Option ℕ) → l'.cell ≡ cell → (x.cell == cell) ≡ b → place_in cell ls ≡ o → Some at ≡ (if b then Some 0 else later 1 o) → ((k : ℕ) → Some k ≡ place_in cell ls → map log_cell (set ls k l') ≡ map log_cell ls) → map log_cell (set (x ∷ ls) at l') ≡ map log_cell (x ∷ ls)
cells-placed-of cell at x ls l' true o named t eo e more =
    let z : at ≡ 0 = cc e in
    subst (λ k. map log_cell (set (x ∷ ls) k l') ≡ map log_cell (x ∷ ls)) (sym z) (ap (λ n. n ∷ map log_cell ls) (named ∙ sym (eqb-true x.cell cell t)))
cells-placed-of cell at x ls l' false None named t eo e more = absurd (cc e)
cells-placed-of cell at x ls l' false (Some k) named t eo e more =
    let one : at ≡ 1 + k = cc e in
    let next : at ≡ suc k = omega (arith, one) in
    subst (λ j. map log_cell (set (x ∷ ls) j l') ≡ map log_cell (x ∷ ls)) (sym next) (ap (λ ns. x.cell ∷ ns) (more k (sym eo)))

cells-placed : (cell at : ℕ) (ls : List CellLog) (l' : CellLog) → l'.cell ≡ cell → Some at ≡ place_in cell ls → map log_cell (set ls at l') ≡ map log_cell ls
cells-placed cell at [] l' named e = absurd (cc e)
cells-placed cell at (x ∷ ls) l' named e = cells-placed-of cell at x ls l' (x.cell == cell) (place_in cell ls) named refl refl e (λ k ek. cells-placed cell k ls l' named ek)

-- the logs once the cell's is another
pub replaced : (s t : State) (cell at : ℕ) (ls : List CellLog) (l' : CellLog) → AreLogs s ls → StaysElsewhere s t cell → Some at ≡ place_in cell ls → l'.cell ≡ cell → IsLogIn t l' → ((k : ℕ) → IsLiveIn t k → IsLiveIn s k) → AreLogs t (set ls at l')
replaced s t cell at ls l' h stays e named own live =
    let same : map log_cell (set ls at l') ≡ map log_cell ls = cells-placed cell at ls l' named e in
    record {
      once = subst AreOnce (sym same) h.once;
      logs = logs-moved s t cell at l' stays own ls h.once h.logs e;
      live = λ k l. subst (λ ns. is_in k ns ≡ true) (sym same) (h.live k (live k l));
    }

-- the cell that is found is the log's
pub same-owner : (s : State) (cell : ℕ) (c : Cell) (l : CellLog) → found cell (cells s.book) ≡ Some c → l.cell ≡ cell → IsLogIn s l → StandsFor s cell c.source l.log
same-owner s cell c l f named h =
    let there : found cell (cells s.book) ≡ Some h.owner = ap (λ n. found n (cells s.book)) (sym named) ∙ h.is_found in
    let both : Some h.owner ≡ Some c = sym there ∙ f in
    let same : h.owner ≡ c = cc both in
    subst (λ n. StandsFor s n c.source l.log) named (subst (λ (o : Cell). StandsFor s l.cell o.source l.log) same h.stands)

-- a log of the same state put in the place of the cell's
pub put-back : (s : State) (cell at : ℕ) (c : Cell) (ls : List CellLog) (l' : CellLog) → AreLogs s ls → Some at ≡ place_in cell ls → found cell (cells s.book) ≡ Some c → l'.cell ≡ cell → StandsFor s cell c.source l'.log → AreLogs s (set ls at l')
put-back s cell at c ls l' h e f named stands =
    replaced s s cell at ls l' h (record { stays = λ l other k. k }) e named (record { owner = c; is_found = ap (λ n. found n (cells s.book)) named ∙ f; stands = subst (λ n. StandsFor s n c.source l'.log) (sym named) stands }) (λ k l. l)
