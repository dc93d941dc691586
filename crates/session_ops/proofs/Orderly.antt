-- What every state of a legal history keeps.
use Rattle.std.proofs.Common.{◌≡◌, ℕ, ◌+◌, ◌<◌, ◌==◌, Bool, true, false, if◌then◌else◌, List, [], ◌∷◌, ◌++◌, map, Option, Some, None, refl, sym, ap, subst, ◌∙◌, arith}
use Rattle.std.specs.Prelude.{◌&&◌, is_some, filter}
use Rattle.std.specs.Option.{option_map}
use Rattle.std.specs.List.{list_any, AllByRecursion}
use Rattle.std.proofs.lemmas.Bool.{eq-eqb}
use Rattle.std.proofs.lemmas.Bool.Decides.{nat_tests}
use Rattle.delta.specs.declared.Step.{Step}
use Rattle.ex_model.specs.declared.ran.Shown.{Shown}
use Rattle.notebook.specs.declared.parts.Cell.{Cell}
use Rattle.notebook.specs.declared.parts.Parts.{Parts}
use Rattle.notebook.specs.declared.states.Lane.{Lane}
use Rattle.notebook.specs.declared.change.Change.{Change}
use Rattle.notebook.specs.declared.change.Changed.{Changed}
use Rattle.notebook.specs.declared.change.Changed.TheVariants.{Plain, NewCell as MakesCell, NewSection as MakesSection}
use Rattle.notebook.specs.Change.{Makes, change}
use Rattle.notebook.specs.Book.{cells, found, resourced, resourced_cell}
use Rattle.notebook.specs.Rules.{IsNotebook}
use Rattle.notebook.proofs.Sources.{IsNotebook-resourced, found-resourced}
use Rattle.lanes.specs.declared.work.Mark.{Mark}
use Rattle.lanes.specs.declared.work.Running.{Running}
use Rattle.lanes.specs.declared.work.Work.{Work}
use Rattle.lanes.specs.Work.{may_start}
use Rattle.lanes.specs.Changes.{new_mark, marked, as_asked, as_begun, as_stored, as_cancelled, as_aborted, is_hopeless, asked, begun, stored, cancelled, housed, swept, is_other_eval, remarked, runs_other, mark_lives, run_lives, without_dead, is_home, has_moved, moved_mark, swept_mark}
use Rattle.session_ops.specs.declared.entry.Entry.{Entry}
use Rattle.session_ops.specs.Orderly.{IsCodeKind, IsCodeLive, IsBeganBelow, IsTakenBelow, IsKnownBelow, has_begun, HaveBegun, IsLiveMark, IsLiveRun, mark_cell, IsOrderly}
use Rattle.session_ops.specs.Numbers.{AreOnce, is_in, is_other}
use Rattle.session_ops.specs.Deeds.{moved_source}
use Rattle.session_ops.specs.State.{State, Began, beginnings, beginnings_of, begins_now, revision, knows_all, is_of_other, once_left, once_made, opening, state, Legal}
use Rattle.session_ops.proofs.Lists.{all-append, all-kept, all-weaker}
use Rattle.session_ops.proofs.Marks.{all-map, all-marked, all-remarked}
use Rattle.session_ops.proofs.Live.{found-number, found-below, live-below, HasNumberBelow, may-live}
use Rattle.session_ops.proofs.Steps.{KeepsState, state-keeps, once_joined, once_applied, once_reported, once_asked, once_cancelled, once_begun, once_stored, once_swept}
use Rattle.session_ops.proofs.Changes.{changed-so}
use Rattle.session_ops.proofs.Structures.{HasChanged, IsNewCell, LivesOn, is_new, is_old, lives-cases, code-stays}

-- numbers that are fewer, and one more
out-kept : (p : ℕ → Bool) (n : ℕ) (ns : List ℕ) → is_in n ns ≡ false → is_in n (filter p ns) ≡ false
out-kept p n [] e = refl
out-kept p n (m ∷ ns) e =
    elim (m == n)
    as (λ b. (m == n) ≡ b → (if b then true else is_in n ns) ≡ false → is_in n (filter p (m ∷ ns)) ≡ false) [
      | true ↦ λ t k. absurd (cc k)
      | false ↦ λ t k.
          elim (p m)
          as (λ c. is_in n (if c then m ∷ filter p ns else filter p ns) ≡ false)
          [ true ↦ ap (λ b. if b then true else is_in n (filter p ns)) t ∙ out-kept p n ns k | false ↦ out-kept p n ns k ]
    ]
    refl
    e

out-more : (m n : ℕ) (ns : List ℕ) → is_in m ns ≡ false → (n == m) ≡ false → is_in m (ns ++ n ∷ []) ≡ false
out-more m n [] e t = ap (λ b. if b then true else false) t
out-more m n (x ∷ ns) e t =
    elim (x == m)
    as (λ b. (if b then true else is_in m ns) ≡ false → (if b then true else is_in m (ns ++ n ∷ [])) ≡ false)
    [ true ↦ λ k. k | false ↦ λ k. out-more m n ns k t ]
    e

once-kept : (p : ℕ → Bool) (ns : List ℕ) → AreOnce ns → AreOnce (filter p ns)
once-kept p [] h = tt
once-kept p (n ∷ ns) h =
    elim (p n)
    as (λ b. AreOnce (if b then n ∷ filter p ns else filter p ns))
    [ true ↦ (out-kept p n ns h.0, once-kept p ns h.1) | false ↦ once-kept p ns h.1 ]

once-more : (n : ℕ) (ns : List ℕ) → is_in n ns ≡ false → AreOnce ns → AreOnce (ns ++ n ∷ [])
once-more n [] e h = (refl, tt)
once-more n (m ∷ ns) e h =
    elim (m == n)
    as (λ b. (m == n) ≡ b → (if b then true else is_in n ns) ≡ false → AreOnce (m ∷ (ns ++ n ∷ []))) [
      | true ↦ λ t k. absurd (cc k)
      | false ↦ λ t k. (out-more m n ns h.0 (grind (arith, nat_tests, t)), once-more n ns k h.1)
    ]
    refl
    e

-- marks keep their cells
cells-map : (f : Mark → Mark) → ((m : Mark) → (f m).cell ≡ m.cell) → (ms : List Mark) → map mark_cell (map f ms) ≡ map mark_cell ms
cells-map f k [] = refl
cells-map f k (m ∷ ms) = rw (k m, cells-map f k ms) refl

cells-remarked : (cell : ℕ) (f : Mark → Mark) → ((m : Mark) → (f m).cell ≡ m.cell) → (ms : List Mark) → map mark_cell (remarked cell f ms) ≡ map mark_cell ms
cells-remarked cell f k [] = refl
cells-remarked cell f k (m ∷ ms) =
    elim (m.cell == cell)
    as (λ b. map mark_cell (if b then f m ∷ ms else m ∷ remarked cell f ms) ≡ m.cell ∷ map mark_cell ms)
    [ true ↦ ap (λ n. n ∷ map mark_cell ms) (k m) | false ↦ ap (λ ns. m.cell ∷ ns) (cells-remarked cell f k ms) ]

push-in : (n : ℕ) (b : Bool) (xs ys : List ℕ) → n ∷ (if b then xs else ys) ≡ (if b then n ∷ xs else n ∷ ys)
push-in n true xs ys = refl
push-in n false xs ys = refl

-- the cells of the marks once one has a mark
abbrev with_number : ℕ → List ℕ → List ℕ
with_number n ns = if is_in n ns then ns else ns ++ n ∷ []

cells-marked : (cell : ℕ) (f : Mark → Mark) → ((m : Mark) → (f m).cell ≡ m.cell) → (ms : List Mark) → map mark_cell (marked cell f ms) ≡ with_number cell (map mark_cell ms)
cells-marked cell f k [] = ap (λ n. n ∷ []) (k (new_mark cell))
cells-marked cell f k (m ∷ ms) =
    elim (m.cell == cell)
    as (λ b. map mark_cell (if b then f m ∷ ms else m ∷ marked cell f ms) ≡ (if (if b then true else is_in cell (map mark_cell ms)) then m.cell ∷ map mark_cell ms else m.cell ∷ (map mark_cell ms ++ cell ∷ []))) [
      | true ↦ ap (λ n. n ∷ map mark_cell ms) (k m)
      | false ↦ ap (λ ns. m.cell ∷ ns) (cells-marked cell f k ms) ∙ push-in m.cell (is_in cell (map mark_cell ms)) (map mark_cell ms) (map mark_cell ms ++ cell ∷ [])
    ]

once-with : (n : ℕ) (ns : List ℕ) → AreOnce ns → AreOnce (with_number n ns)
once-with n ns h =
    elim (is_in n ns)
    as (λ b. is_in n ns ≡ b → AreOnce (if b then ns else ns ++ n ∷ []))
    [ true ↦ λ t. h | false ↦ λ t. once-more n ns t h ]
    refl

marked-once : (cell : ℕ) (f : Mark → Mark) → ((m : Mark) → (f m).cell ≡ m.cell) → (ms : List Mark) → AreOnce (map mark_cell ms) → AreOnce (map mark_cell (marked cell f ms))
marked-once cell f k ms h = subst AreOnce (sym (cells-marked cell f k ms)) (once-with cell (map mark_cell ms) h)

cell-out : (p : Mark → Bool) (n : ℕ) (ms : List Mark) → is_in n (map mark_cell ms) ≡ false → is_in n (map mark_cell (filter p ms)) ≡ false
cell-out p n [] e = refl
cell-out p n (m ∷ ms) e =
    elim (m.cell == n)
    as (λ b. (m.cell == n) ≡ b → (if b then true else is_in n (map mark_cell ms)) ≡ false → is_in n (map mark_cell (filter p (m ∷ ms))) ≡ false) [
      | true ↦ λ t k. absurd (cc k)
      | false ↦ λ t k.
          elim (p m)
          as (λ c. is_in n (map mark_cell (if c then m ∷ filter p ms else filter p ms)) ≡ false)
          [ true ↦ ap (λ b. if b then true else is_in n (map mark_cell (filter p ms))) t ∙ cell-out p n ms k | false ↦ cell-out p n ms k ]
    ]
    refl
    e

filtered-once : (p : Mark → Bool) (ms : List Mark) → AreOnce (map mark_cell ms) → AreOnce (map mark_cell (filter p ms))
filtered-once p [] h = tt
filtered-once p (m ∷ ms) h =
    elim (p m)
    as (λ b. AreOnce (map mark_cell (if b then m ∷ filter p ms else filter p ms)))
    [ true ↦ (cell-out p m.cell ms h.0, filtered-once p ms h.1) | false ↦ filtered-once p ms h.1 ]

-- a live code cell stays one with new sources
code-kind-of : (f : Cell → List ℕ) (c : Cell) → IsCodeKind c.kind → IsCodeKind (resourced_cell f c).kind
code-kind-of f c h = h

live-resourced : (f : Cell → List ℕ) (n : Parts) (id : ℕ) → IsCodeLive n id → IsCodeLive (resourced f n) id
live-resourced f n id h = record { cell = resourced_cell f h.cell; is_found = found-resourced f id n ∙ ap (option_map (resourced_cell f)) h.is_found; code = code-kind-of f h.cell h.code }

found-before : (f : Cell → List ℕ) (o : Option Cell) (c : Cell) → option_map (resourced_cell f) o ≡ Some c → is_some o ≡ true
found-before f None c e = absurd (cc e)
found-before f (Some x) c e = refl

begun-if : (o : Option Cell) (cell : ℕ) (bs : List Began) → o ≡ o → is_some o ≡ true → ((x : Cell) → o ≡ Some x → has_begun cell bs ≡ true) → has_begun cell bs ≡ true
begun-if None cell bs e k h = absurd (cc k)
begun-if (Some x) cell bs e k h = h x refl

begun-resourced : (f : Cell → List ℕ) (n : Parts) (bs : List Began) → HaveBegun n bs → HaveBegun (resourced f n) bs
begun-resourced f n bs h cell c e = begun-if (found cell (cells n)) cell bs refl (found-before f (found cell (cells n)) c (sym (found-resourced f cell n) ∙ e)) (λ x k. h cell x k)

-- cells that have begun stay so, and more begin
begun-more : (cell : ℕ) (bs more : List Began) → has_begun cell bs ≡ true → has_begun cell (bs ++ more) ≡ true
begun-more cell [] more e = absurd (cc e)
begun-more cell (b ∷ bs) more e =
    elim (b.cell == cell)
    as (λ t. (if t then true else has_begun cell bs) ≡ true → (if t then true else has_begun cell (bs ++ more)) ≡ true)
    [ true ↦ λ k. refl | false ↦ λ k. begun-more cell bs more k ]
    e

begun-new : (cell : ℕ) (bs : List Began) (b : Began) → b.cell ≡ cell → has_begun cell (bs ++ b ∷ []) ≡ true
begun-new cell [] b e = ap (λ t. if t then true else false) (eq-eqb b.cell cell e)
begun-new cell (x ∷ bs) b e =
    elim (x.cell == cell)
    as (λ t. (if t then true else has_begun cell (bs ++ b ∷ [])) ≡ true)
    [ true ↦ refl | false ↦ begun-new cell bs b e ]

begun-opening : (cell : ℕ) (cs : List Cell) (c : Cell) → found cell cs ≡ Some c → has_begun cell (beginnings cs) ≡ true
begun-opening cell [] c e = absurd (cc e)
begun-opening cell (x ∷ xs) c e =
    elim (x.id == cell)
    as (λ t. (if t then Some x else found cell xs) ≡ Some c → (if t then true else has_begun cell (beginnings xs)) ≡ true)
    [ true ↦ λ k. refl | false ↦ λ k. begun-opening cell xs c k ]
    e

began-of : (next : ℕ) (cs : List Cell) → AllByRecursion (HasNumberBelow next) cs → AllByRecursion (IsBeganBelow next) (beginnings cs)
began-of next [] h = tt
began-of next (c ∷ cs) h = (h.0, began-of next cs h.1)

known-of : (s : State) (n next : ℕ) (cs : List Cell) → AllByRecursion (HasNumberBelow next) cs → AllByRecursion (IsKnownBelow next) (knows_all s n cs)
known-of s n next [] h = tt
known-of s n next (c ∷ cs) h = (h.0, known-of s n next cs h.1)

pub opening-orderly : (n0 : Parts) → IsNotebook n0 → IsOrderly (opening n0)
opening-orderly n0 h = record {
  book = h;
  joined = tt;
  began = began-of n0.next_cell (cells n0) (live-below n0 h);
  all_began = λ cell c e. begun-opening cell (cells n0) c e;
  taken = tt;
  known = tt;
  marks = tt;
  apart = tt;
  running = tt;
}

joined-orderly : (s : State) (n : ℕ) → IsOrderly s → is_in n s.joined ≡ false → IsOrderly (once_joined s n)
joined-orderly s n h none = record {
  book = h.book;
  joined = once-more n s.joined none h.joined;
  began = h.began;
  all_began = h.all_began;
  taken = h.taken;
  known = all-append (IsKnownBelow s.book.next_cell) s.known (knows_all s n (cells s.book)) h.known (known-of s n s.book.next_cell (cells s.book) (live-below s.book h.book));
  marks = h.marks;
  apart = h.apart;
  running = h.running;
}

left-orderly : (s : State) (n : ℕ) → IsOrderly s → IsOrderly (once_left n s)
left-orderly s n h = record {
  book = h.book;
  joined = once-kept (is_other n) s.joined h.joined;
  began = h.began;
  all_began = h.all_began;
  taken = h.taken;
  known = all-kept (is_of_other n) (IsKnownBelow s.book.next_cell) s.known h.known;
  marks = h.marks;
  apart = h.apart;
  running = h.running;
}

applied-orderly : (s : State) (n cell rev : ℕ) (x : List Step) (c : Cell) → IsOrderly s → found cell (cells s.book) ≡ Some c → IsOrderly (once_applied s n cell rev x)
applied-orderly s n cell rev x c h f =
    let next : ℕ = s.book.next_cell in
    let below : cell < next = found-below s.book cell c h.book f in
    record {
      book = IsNotebook-resourced (moved_source cell x) s.book h.book;
      joined = h.joined;
      began = h.began;
      all_began = begun-resourced (moved_source cell x) s.book s.began h.all_began;
      taken = all-append (IsTakenBelow next) s.taken (record { cell = cell; delta = x } ∷ []) h.taken (below, tt);
      known = all-append (IsKnownBelow next) s.known (record { client = n; cell = cell; rev = rev } ∷ []) h.known (below, tt);
      marks = all-weaker (IsLiveMark s.book) (IsLiveMark (resourced (moved_source cell x) s.book)) (λ m k. live-resourced (moved_source cell x) s.book m.cell k) s.work.marks h.marks;
      apart = h.apart;
      running = all-weaker (IsLiveRun s.book) (IsLiveRun (resourced (moved_source cell x) s.book)) (λ r k. live-resourced (moved_source cell x) s.book r.cell k) s.work.running h.running;
    }

reported-orderly : (s : State) (n cell rev : ℕ) (c : Cell) → IsOrderly s → found cell (cells s.book) ≡ Some c → IsOrderly (once_reported s n cell rev)
reported-orderly s n cell rev c h f = record {
  book = h.book;
  joined = h.joined;
  began = h.began;
  all_began = h.all_began;
  taken = h.taken;
  known = all-append (IsKnownBelow s.book.next_cell) s.known (record { client = n; cell = cell; rev = rev } ∷ []) h.known (found-below s.book cell c h.book f, tt);
  marks = h.marks;
  apart = h.apart;
  running = h.running;
}

-- with other work over the same notebook
abbrev IsOrderlyWork : Parts → Work → Type 0
IsOrderlyWork n w = AllByRecursion (IsLiveMark n) w.marks × (AreOnce (map mark_cell w.marks) × AllByRecursion (IsLiveRun n) w.running)

with-work : (s : State) (w : Work) → IsOrderly s → IsOrderlyWork s.book w → IsOrderly (record s { work = w })
with-work s w h k = record { book = h.book; joined = h.joined; began = h.began; all_began = h.all_began; taken = h.taken; known = h.known; marks = k.0; apart = k.1.0; running = k.1.1 }

work-of : (s : State) → IsOrderly s → IsOrderlyWork s.book s.work
work-of s h = (h.marks, (h.apart, h.running))

asked-orderly : (s : State) (cell : ℕ) → IsOrderly s → IsCodeLive s.book cell → IsOrderly (once_asked s cell)
asked-orderly s cell h live = with-work s (asked cell s.work) h (all-marked (IsLiveMark s.book) cell as_asked (λ m k. k) live s.work.marks h.marks, (marked-once cell as_asked (λ m. refl) s.work.marks h.apart, h.running))

cancelled-orderly : (s : State) (cell : ℕ) → IsOrderly s → IsOrderly (once_cancelled s cell)
cancelled-orderly s cell h = with-work s (cancelled cell s.work) h (
  all-remarked (IsLiveMark s.book) cell as_cancelled (λ m k. k) s.work.marks h.marks,
  (
    subst AreOnce (sym (cells-remarked cell as_cancelled (λ m. refl) s.work.marks)) h.apart,
    all-kept (runs_other cell) (IsLiveRun s.book) s.work.running h.running,
  ),
)

begun-orderly : (s : State) (lane : Lane) (cell : ℕ) → IsOrderly s → may_start s.book s.work lane ≡ Some cell → IsOrderly (once_begun s lane cell)
begun-orderly s lane cell h e =
    let live : IsCodeLive s.book cell = may-live s.book s.work lane cell h.book e in
    with-work s (begun s.book lane (s.work.started + 1) cell s.work) h (
      all-marked (IsLiveMark s.book) cell as_begun (λ m k. k) live s.work.marks h.marks,
      (
        marked-once cell as_begun (λ m. refl) s.work.marks h.apart,
        all-append (IsLiveRun s.book) s.work.running _ h.running (live, tt),
      ),
    )

stored-orderly : (s : State) (shown : Shown) (r : Running) → IsOrderly s → IsOrderly (once_stored s shown r)
stored-orderly s shown r h = with-work s (stored shown s.work (Some r)) h (
  all-remarked (IsLiveMark s.book) r.cell (as_stored r.path shown) (λ m k. k) s.work.marks h.marks,
  (
    subst AreOnce (sym (cells-remarked r.cell (as_stored r.path shown) (λ m. refl) s.work.marks)) h.apart,
    all-kept (is_other_eval r.eval) (IsLiveRun s.book) s.work.running h.running,
  ),
)

swept-live : (n m : Parts) (w : Work) (k : Mark) → IsLiveMark m k → IsLiveMark m (swept_mark n w k)
swept-live n m w k h = elim (k.queued && is_hopeless n w k.cell) as (λ b. IsLiveMark m (if b then as_cancelled k else k)) [ true ↦ h | false ↦ h ]

swept-cell : (n : Parts) (w : Work) (k : Mark) → (swept_mark n w k).cell ≡ k.cell
swept-cell n w k = elim (k.queued && is_hopeless n w k.cell) as (λ b. mark_cell (if b then as_cancelled k else k) ≡ k.cell) [ true ↦ refl | false ↦ refl ]

swept-orderly : (s : State) → IsOrderly s → IsOrderly (once_swept s)
swept-orderly s h = with-work s (swept s.book s.work) h (
  all-map (IsLiveMark s.book) (swept_mark s.book s.work) (λ m k. swept-live s.book s.book s.work m k) s.work.marks h.marks,
  (
    subst AreOnce (sym (cells-map (swept_mark s.book s.work) (swept-cell s.book s.work) s.work.marks)) h.apart,
    h.running,
  ),
)

-- of cells that live no more all is dropped, and what lives on is the same cell
dead-live : (n n' : Parts) (asked : Change) (what : Changed) → IsNotebook n → change n asked ≡ Makes n' what → HasChanged n n' asked → (ms : List Mark) → AllByRecursion (IsLiveMark n) ms → AllByRecursion (IsLiveMark n') (filter (mark_lives n') ms)
dead-live n n' asked what h e ch [] k = tt
dead-live n n' asked what h e ch (m ∷ ms) k =
    elim (mark_lives n' m)
    as (λ b. mark_lives n' m ≡ b → AllByRecursion (IsLiveMark n') (if b then m ∷ filter (mark_lives n') ms else filter (mark_lives n') ms))
    [ true ↦ λ t. (code-stays n n' asked what m.cell h e ch k.0 t, dead-live n n' asked what h e ch ms k.1) | false ↦ λ t. dead-live n n' asked what h e ch ms k.1 ]
    refl

dead-runs : (n n' : Parts) (asked : Change) (what : Changed) → IsNotebook n → change n asked ≡ Makes n' what → HasChanged n n' asked → (rs : List Running) → AllByRecursion (IsLiveRun n) rs → AllByRecursion (IsLiveRun n') (filter (run_lives n') rs)
dead-runs n n' asked what h e ch [] k = tt
dead-runs n n' asked what h e ch (r ∷ rs) k =
    elim (run_lives n' r)
    as (λ b. run_lives n' r ≡ b → AllByRecursion (IsLiveRun n') (if b then r ∷ filter (run_lives n') rs else filter (run_lives n') rs))
    [ true ↦ λ t. (code-stays n n' asked what r.cell h e ch k.0 t, dead-runs n n' asked what h e ch rs k.1) | false ↦ λ t. dead-runs n n' asked what h e ch rs k.1 ]
    refl

moved-live : (n m : Parts) (rs : List Running) (k : Mark) → IsLiveMark m k → IsLiveMark m (moved_mark n rs k)
moved-live n m rs k h = elim (list_any (has_moved n k.cell) rs) as (λ b. IsLiveMark m (if b then as_aborted k else k)) [ true ↦ h | false ↦ h ]

moved-cell : (n : Parts) (rs : List Running) (k : Mark) → (moved_mark n rs k).cell ≡ k.cell
moved-cell n rs k = elim (list_any (has_moved n k.cell) rs) as (λ b. mark_cell (if b then as_aborted k else k) ≡ k.cell) [ true ↦ refl | false ↦ refl ]

housed-orderly : (n n' : Parts) (asked : Change) (what : Changed) (w : Work) → IsNotebook n → change n asked ≡ Makes n' what → HasChanged n n' asked → IsOrderlyWork n w → IsOrderlyWork n' (housed n' w)
housed-orderly n n' asked what w h e ch k =
    let d : Work = without_dead n' w in (
      all-map (IsLiveMark n') (moved_mark n' d.running) (λ m j. moved-live n' n' d.running m j) d.marks (dead-live n n' asked what h e ch w.marks k.0),
      (
        subst AreOnce (sym (cells-map (moved_mark n' d.running) (moved-cell n' d.running) d.marks)) (filtered-once (mark_lives n') w.marks k.1.0),
        all-kept (is_home n') (IsLiveRun n') d.running (dead-runs n n' asked what h e ch w.running k.1.1),
      ),
    )

-- a cell that is made begins
begins-of : (n : Parts) (id : ℕ) (o : Option Cell) → IsNotebook n → found id (cells n) ≡ o → AllByRecursion (IsBeganBelow n.next_cell) (beginnings_of o)
begins-of n id None h f = tt
begins-of n id (Some c) h f = (subst (λ k. k < n.next_cell) (sym (found-number id (cells n) c f)) (found-below n id c h f), tt)

begins-below : (n : Parts) (what : Changed) → IsNotebook n → AllByRecursion (IsBeganBelow n.next_cell) (begins_now n what)
begins-below n Plain h = tt
begins-below n (MakesCell id) h = begins-of n id (found id (cells n)) h refl
begins-below n (MakesSection id) h = tt

new-begun : (n n' : Parts) (what : Changed) (id : ℕ) (c : Cell) (bs : List Began) → IsNewCell n what id → found id (cells n') ≡ Some c → has_begun id (bs ++ begins_now n' what) ≡ true
new-begun n n' what id c bs new f =
    let is : what ≡ MakesCell id = new.what_is ∙ ap MakesCell (sym new.number) in
    let now : begins_now n' what ≡ beginnings_of (Some c) = ap (begins_now n') is ∙ ap beginnings_of f in
    subst (λ x. has_begun id (bs ++ x) ≡ true) (sym now) (begun-new id bs (record { cell = c.id; source = c.source }) (found-number id (cells n') c f))

case-begun : (n n' : Parts) (what : Changed) (id : ℕ) (c : Cell) (bs : List Began) → HaveBegun n bs → found id (cells n') ≡ Some c → LivesOn n what id c → has_begun id (bs ++ begins_now n' what) ≡ true
case-begun n n' what id c bs h f (is_new new) = new-begun n n' what id c bs new f
case-begun n n' what id c bs h f (is_old old) = begun-more id bs (begins_now n' what) (h id c old)

made-orderly : (s : State) (asked : Change) (n' : Parts) (what : Changed) → IsOrderly s → change s.book asked ≡ Makes n' what → HasChanged s.book n' asked → IsOrderly (once_made s (Makes n' what))
made-orderly s asked n' what h e ch =
    let n : Parts = s.book in
    let w : IsOrderlyWork n' (housed n' s.work) = housed-orderly n n' asked what s.work h.book e ch (work-of s h) in
    record {
      book = ch.keeps;
      joined = h.joined;
      began = all-append (IsBeganBelow n'.next_cell) s.began (begins_now n' what) (all-weaker (IsBeganBelow n.next_cell) (IsBeganBelow n'.next_cell) (λ b l. omega (arith, l, ch.more)) s.began h.began) (begins-below n' what ch.keeps);
      all_began = λ id c f. case-begun n n' what id c s.began h.all_began f (lives-cases n n' asked what id c e ch f);
      taken = all-weaker (IsTakenBelow n.next_cell) (IsTakenBelow n'.next_cell) (λ t l. omega (arith, l, ch.more)) s.taken h.taken;
      known = all-weaker (IsKnownBelow n.next_cell) (IsKnownBelow n'.next_cell) (λ k l. omega (arith, l, ch.more)) s.known h.known;
      marks = w.0;
      apart = w.1.0;
      running = w.1.1;
    }

pub orderly-kept : KeepsState IsOrderly
orderly-kept = record {
  ops = record {
    join = λ s n h none. joined-orderly s n h none;
    leave = λ s n h. left-orderly s n h;
    made = λ s asked n' what h e. made-orderly s asked n' what h e (changed-so s.book n' asked what h.book e);
    applied = λ s n cell base d x c h f is e. applied-orderly s n cell (revision s cell + 1) x c h f;
    reported = λ s n cell rev c h f l. reported-orderly s n cell rev c h f;
    queued = λ s cell c h f kind none. asked-orderly s cell h (record { cell = c; is_found = f; code = kind });
    cancel = λ s cell c h f kind. cancelled-orderly s cell h;
  };
  started = λ s lane cell h e. begun-orderly s lane cell h e;
  stored = λ s eval shown r h e. stored-orderly s shown r h;
  swept = λ s h. swept-orderly s h;
}

-- every state of a legal history over a notebook is orderly
pub orderly-state : (n0 : Parts) (h : List Entry) → IsNotebook n0 → Legal n0 h → IsOrderly (state n0 h)
orderly-state n0 h is l = state-keeps IsOrderly orderly-kept n0 h l (opening-orderly n0 is)
