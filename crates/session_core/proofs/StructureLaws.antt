-- What a change of the notebook's structure makes of a session.
use Rattle.std.proofs.Common.{◌≡◌, ℕ, ◌<◌, ◌==◌, Bool, true, false, if◌then◌else◌, List, [], ◌∷◌, ◌++◌, map, Option, Some, None, refl, sym, ap, subst, ◌∙◌, arith, eq-eqb, eqb-true}
use Rattle.std.specs.Prelude.{filter, find, is_some, IsSome}
use Rattle.std.specs.List.{AllByRecursion}
use Rattle.std.proofs.lemmas.Bool.Decides.{nat_tests}
use Rattle.notebook.specs.declared.parts.Cell.{Cell}
use Rattle.notebook.specs.declared.parts.Parts.{Parts}
use Rattle.notebook.specs.declared.change.Change.{Change}
use Rattle.notebook.specs.declared.change.Change.TheVariants.{DeleteSection, InsertCell, DeleteCell, RestoreCell}
use Rattle.notebook.specs.declared.change.Changed.{Changed}
use Rattle.notebook.specs.declared.change.Changed.TheVariants.{Plain, NewCell, NewSection}
use Rattle.notebook.specs.declared.change.NoteError.{NoteError}
use Rattle.notebook.specs.declared.change.NoteError.TheVariants as note
use Rattle.notebook.specs.Book.{cells, found}
use Rattle.notebook.specs.Flow.{is_cell}
use Rattle.notebook.specs.Change.{Makes, Refuses, change, kind_of, new_cell, renumbered}
use Rattle.notebook.specs.Living.{gone_cells, made_cells, first_or, restored}
use Rattle.lanes.specs.Changes.{housed, swept}
use Rattle.session_ops.specs.declared.entry.Op.{Op}
use Rattle.session_ops.specs.declared.entry.Op.TheVariants.{Join, Leave, Delta, Report, Queue, Cancel}
use Rattle.session_ops.specs.declared.entry.Call.TheVariants.{Client}
use Rattle.session_ops.specs.declared.entry.Refusal.{Refusal}
use Rattle.session_ops.specs.declared.entry.Refusal.TheVariants.{NotJoined}
use Rattle.session_ops.specs.declared.entry.Reply.TheVariants.{Refused}
use Rattle.session_ops.specs.Numbers.{is_in, AreOnce}
use Rattle.session_ops.specs.Orderly.{IsOrderly}
use Rattle.session_ops.specs.Deeds.{changes_if}
use Rattle.session_ops.specs.State.{State, Began, reply, joined_reply, stranger_reply, change_reply, attempt_reply, made_reply, after_op, begins_now, beginnings_of, first_source, once_made, once_done}
use Rattle.session_ops.specs.Structure.{change_of}
use Rattle.session_ops.proofs.Changes.{changed-so}
use Rattle.session_ops.proofs.Fresh.{fresh-taken, fresh-floor, fresh-source, kept-source}
use Rattle.session_ops.proofs.Lists.{all-append, all-weaker}
use Rattle.session_ops.proofs.Live.{found-below}
use Rattle.session_ops.proofs.Orderly.{orderly-state}
use Rattle.session_ops.proofs.Settled.{hopeful-state}
use Rattle.session_ops.proofs.Structures.{HasChanged, made-new, stays-live}
use Rattle.session_ops.proofs.Sweeps.{swept-same}
use Rattle.session_core.specs.History.{Grows, KeepsEntries}
use Rattle.session_core.specs.declared.logs.CellLog.{CellLog}
use Rattle.session_core.specs.declared.held.Held.{Held}
use Rattle.session_core.specs.Logs.{AreLogs, IsLogIn, IsFreshIn, IsNewLog, log_cell, log_lives}
use Rattle.session_core.specs.Held.{IsHeld, Holds, HasAnswered, HasMade, HasNotMade, IsAsBefore, history_of, state_of}
use Rattle.session_core.specs.Session.{first_of, new_source, takes_away, told_change, entry_of}
use Rattle.session_core.specs.Stands.{StandsFor}
use Rattle.session_core.proofs.Others.{stands-same}
use Rattle.session_core.proofs.Owners.{found-some, logs-work}
use Rattle.session_core.proofs.SessionLaws.{answered-holding, before-holding, member-reply, outsider-reply}

-- what is found by its number
pub found-find : (id : ℕ) (cs : List Cell) → find (is_cell id) cs ≡ found id cs
found-find id [] = refl
found-find id (c ∷ cs) = ap (λ o. if c.id == id then Some c else o) (found-find id cs)

-- a restored cell begins with the source that it has in the bin
pub restores : (n : Parts) (asked : Change) (cell section index : ℕ) (o : Option Cell) → asked ≡ RestoreCell cell section index → o ≡ find (is_cell cell) n.bin → new_source n asked ≡ first_of (restored n.next_cell o)
restores n asked cell section index o a e = ap (new_source n) a ∙ ap (λ x. first_of (restored n.next_cell x)) (sym (found-find cell n.bin) ∙ sym e)

-- a cell that lives on keeps its log
log-made : (s : State) (asked : Change) (n' : Parts) (what : Changed) (l : CellLog) → IsOrderly s → change s.book asked ≡ Makes n' what → IsLogIn s l → log_lives n' l ≡ true → IsLogIn (once_made s (Makes n' what)) l
log-made s asked n' what l o e h live = record {
  owner = h.owner;
  is_found = stays-live s.book n' asked what l.cell h.owner o.book e (changed-so s.book n' asked what o.book e) h.is_found live;
  stands = stands-same s (once_made s (Makes n' what)) l.cell h.owner.source l.log h.stands (kept-source l.cell s.began (begins_now n' what) (o.all_began l.cell h.owner h.is_found)) refl refl (λ n. refl);
}

logs-living : (s : State) (asked : Change) (n' : Parts) (what : Changed) → IsOrderly s → change s.book asked ≡ Makes n' what → (ls : List CellLog) → AllByRecursion (IsLogIn s) ls → AllByRecursion (IsLogIn (once_made s (Makes n' what))) (filter (log_lives n') ls)
logs-living s asked n' what o e [] h = tt
logs-living s asked n' what o e (l ∷ ls) h =
    elim (log_lives n' l)
    as (λ b. log_lives n' l ≡ b → AllByRecursion (IsLogIn (once_made s (Makes n' what))) (if b then l ∷ filter (log_lives n') ls else filter (log_lives n') ls))
    [ true ↦ λ t. (log-made s asked n' what l o e h.0 t, logs-living s asked n' what o e ls h.1) | false ↦ λ t. logs-living s asked n' what o e ls h.1 ]
    refl

-- fewer logs still are once each
out-fewer : (p : CellLog → Bool) (n : ℕ) (ls : List CellLog) → is_in n (map log_cell ls) ≡ false → is_in n (map log_cell (filter p ls)) ≡ false
out-fewer p n [] e = refl
out-fewer p n (l ∷ ls) e =
    elim (l.cell == n)
    as (λ b. (l.cell == n) ≡ b → (if b then true else is_in n (map log_cell ls)) ≡ false → is_in n (map log_cell (filter p (l ∷ ls))) ≡ false) [
      | true ↦ λ t k. absurd (cc k)
      | false ↦ λ t k.
          elim (p l)
          as (λ c. is_in n (map log_cell (if c then l ∷ filter p ls else filter p ls)) ≡ false)
          [ true ↦ ap (λ b. if b then true else is_in n (map log_cell (filter p ls))) t ∙ out-fewer p n ls k | false ↦ out-fewer p n ls k ]
    ]
    refl
    e

once-fewer : (p : CellLog → Bool) (ls : List CellLog) → AreOnce (map log_cell ls) → AreOnce (map log_cell (filter p ls))
once-fewer p [] h = tt
once-fewer p (l ∷ ls) h =
    elim (p l)
    as (λ b. AreOnce (map log_cell (if b then l ∷ filter p ls else filter p ls)))
    [ true ↦ (out-fewer p l.cell ls h.0, once-fewer p ls h.1) | false ↦ once-fewer p ls h.1 ]

-- a cell that lives on has its log among those that are left
in-living : (n' : Parts) (id : ℕ) (ls : List CellLog) → IsSome (found id (cells n')) → is_in id (map log_cell ls) ≡ true → is_in id (map log_cell (filter (log_lives n') ls)) ≡ true
in-living n' id [] some e = absurd (cc e)
in-living n' id (l ∷ ls) some e =
    let rest : List CellLog = filter (log_lives n') ls in
    elim (l.cell == id)
    as (λ b. (l.cell == id) ≡ b → (if b then true else is_in id (map log_cell ls)) ≡ true → is_in id (map log_cell (if log_lives n' l then l ∷ filter (log_lives n') ls else filter (log_lives n') ls)) ≡ true) [
      | true ↦ λ t k.
          let here : log_lives n' l ≡ true = subst (λ j. is_some (found j (cells n')) ≡ true) (sym (eqb-true l.cell id t)) some in
          ap (λ b. is_in id (map log_cell (if b then l ∷ rest else rest))) here ∙ ap (λ b. if b then true else is_in id (map log_cell rest)) t
      | false ↦ λ t k.
          elim (log_lives n' l)
          as (λ c. is_in id (map log_cell (if c then l ∷ filter (log_lives n') ls else filter (log_lives n') ls)) ≡ true)
          [ true ↦ ap (λ b. if b then true else is_in id (map log_cell rest)) t ∙ in-living n' id ls some k | false ↦ in-living n' id ls some k ]
    ]
    refl
    e

-- where no cell is made, those that live lived before
none-made : (cs : List Cell) → first_of cs ≡ None → cs ≡ []
none-made [] e = refl
none-made (c ∷ cs) e = absurd (cc e)

lived : (gone : Bool) (o : Option Cell) → IsSome (if gone then None else o) → IsSome o
lived true o h = absurd (cc h)
lived false o h = h

unmade-lived : (n n' : Parts) (asked : Change) (id : ℕ) → HasChanged n n' asked → found id (made_cells n asked) ≡ None → IsSome (found id (cells n')) → IsSome (found id (cells n))
unmade-lived n n' asked id h made some =
    let now : IsSome (if is_some (found id (gone_cells n asked)) then None else first_or (found id (made_cells n asked)) (found id (cells n))) = subst IsSome (h.live id) some in
    lived (is_some (found id (gone_cells n asked))) (found id (cells n)) (subst (λ o. IsSome (if is_some (found id (gone_cells n asked)) then None else first_or o (found id (cells n)))) made now)

-- where none is taken away, those that lived live on
none-gone : (n : Parts) (asked : Change) → takes_away asked ≡ false → gone_cells n asked ≡ []
none-gone n (DeleteSection section) e = absurd (cc e)
none-gone n (DeleteCell cell) e = absurd (cc e)
none-gone n asked e = refl

first-some : (o p : Option Cell) → IsSome p → IsSome (first_or o p)
first-some None p h = h
first-some (Some c) p h = search

stays-some : (n n' : Parts) (asked : Change) (id : ℕ) → HasChanged n n' asked → gone_cells n asked ≡ [] → IsSome (found id (cells n)) → IsSome (found id (cells n'))
stays-some n n' asked id h e some =
    let first : IsSome (first_or (found id (made_cells n asked)) (found id (cells n))) = first-some (found id (made_cells n asked)) (found id (cells n)) some in
    subst IsSome (sym (h.live id)) (subst (λ cs. IsSome (if is_some (found id cs) then None else first_or (found id (made_cells n asked)) (found id (cells n)))) (sym e) first)

all-living : (s : State) (asked : Change) (n' : Parts) → HasChanged s.book n' asked → gone_cells s.book asked ≡ [] → (ls : List CellLog) → AllByRecursion (IsLogIn s) ls → filter (log_lives n') ls ≡ ls
all-living s asked n' h e [] a = refl
all-living s asked n' h e (l ∷ ls) a =
    let here : log_lives n' l ≡ true = stays-some s.book n' asked l.cell h e (found-some (found l.cell (cells s.book)) a.0.owner a.0.is_found) in
    ap (λ b. if b then l ∷ filter (log_lives n') ls else filter (log_lives n') ls) here ∙ ap (λ xs. l ∷ xs) (all-living s asked n' h e ls a.1)

-- a change that makes no cell: the logs of the cells that live on are left
left-logs : (gone : Bool) (xs ys : List CellLog) → (gone ≡ false → xs ≡ ys) → (if gone then xs else ys) ≡ xs
left-logs true xs ys h = refl
left-logs false xs ys h = sym (h refl)

plain-logs : (s : State) (asked : Change) (n' : Parts) (what : Changed) (ls ls' : List CellLog) → IsOrderly s → change s.book asked ≡ Makes n' what → new_source s.book asked ≡ None → AreLogs s ls → ls' ≡ (if takes_away asked then filter (log_lives n') ls else ls) → AreLogs (once_made s (Makes n' what)) ls'
plain-logs s asked n' what ls ls' o e plain h left =
    let ch : HasChanged s.book n' asked = changed-so s.book n' asked what o.book e in
    let made : made_cells s.book asked ≡ [] = none-made (made_cells s.book asked) plain in
    let same : ls' ≡ filter (log_lives n') ls = left ∙ left-logs (takes_away asked) (filter (log_lives n') ls) ls (λ t. all-living s asked n' ch (none-gone s.book asked t) ls h.logs) in
    subst
    (AreLogs (once_made s (Makes n' what)))
    (sym same)
    (record {
      once = once-fewer (log_lives n') ls h.once;
      logs = logs-living s asked n' what o e ls h.logs;
      live = λ cell l. in-living n' cell ls l (h.live cell (unmade-lived s.book n' asked cell ch (ap (found cell) made) l));
    })

pub plain-made : (s : State) (asked : Change) (made : Changed) (x x' : Held) → Holds s x → IsOrderly s → change x.book asked ≡ Makes x'.book made → new_source x.book asked ≡ None
    → x'.joined.items ≡ x.joined.items → x'.logs.items ≡ (if takes_away asked then filter (log_lives x'.book) x.logs.items else x.logs.items) → x'.work ≡ housed x'.book x.work → HasMade s asked x' made
plain-made s asked made x x' h o e plain ej el ew =
    let e' : change s.book asked ≡ Makes x'.book made = subst (λ n. change n asked ≡ Makes x'.book made) h.book e in
    let plain' : new_source s.book asked ≡ None = subst (λ n. new_source n asked ≡ None) h.book plain in (
      e',
      record {
        book = refl;
        joined = ej ∙ h.joined;
        logs = plain-logs s asked x'.book made x.logs.items x'.logs.items o e' plain' h.logs el;
        work = ew ∙ ap (housed x'.book) h.work;
      },
    )

-- the one cell that a change makes: it has the next number, and begins with the source
record MakesOne (n : Parts) (asked : Change) (source : List ℕ) : Type 0 where
  cell : Cell
  made : made_cells n asked ≡ cell ∷ []
  number : cell.id ≡ n.next_cell
  begins : cell.source ≡ source
  stays : gone_cells n asked ≡ []

restores-one : (n : Parts) (cell section index : ℕ) (source : List ℕ) (o : Option Cell) → found cell n.bin ≡ o → first_of (restored n.next_cell o) ≡ Some source → MakesOne n (RestoreCell cell section index) source
restores-one n cell section index source None f e = absurd (cc e)
restores-one n cell section index source (Some c) f e = record { cell = renumbered n.next_cell c; made = ap (restored n.next_cell) f; number = refl; begins = cc e; stays = refl }

makes-one : (n : Parts) (asked : Change) (source : List ℕ) → new_source n asked ≡ Some source → MakesOne n asked source
makes-one n (InsertCell section index kind) source e = record { cell = new_cell n.next_cell (kind_of kind); made = refl; number = refl; begins = cc e; stays = refl }
makes-one n (RestoreCell cell section index) source e = restores-one n cell section index source (found cell n.bin) refl e
makes-one n asked source e = absurd (cc e)

one-found : (n : Parts) (asked : Change) (source : List ℕ) (one : MakesOne n asked source) → found n.next_cell (made_cells n asked) ≡ Some one.cell
one-found n asked source one = ap (found n.next_cell) one.made ∙ ap (λ b. if b then Some one.cell else None) (eq-eqb one.cell.id n.next_cell one.number)

one-lives : (n n' : Parts) (asked : Change) (source : List ℕ) (one : MakesOne n asked source) → HasChanged n n' asked → found n.next_cell (cells n') ≡ Some one.cell
one-lives n n' asked source one h =
    h.live n.next_cell
    ∙ (ap (λ cs. if is_some (found n.next_cell cs) then None else first_or (found n.next_cell (made_cells n asked)) (found n.next_cell (cells n))) one.stays ∙ ap (λ o. first_or o (found n.next_cell (cells n))) (one-found n asked source one))

other-unmade : (n : Parts) (asked : Change) (source : List ℕ) (one : MakesOne n asked source) (id : ℕ) → (n.next_cell == id) ≡ false → found id (made_cells n asked) ≡ None
other-unmade n asked source one id e = ap (found id) one.made ∙ ap (λ b. if b then Some one.cell else None) (ap (λ k. k == id) one.number ∙ e)

-- one log more
in-old : (id : ℕ) (ls : List CellLog) (l : CellLog) → is_in id (map log_cell ls) ≡ true → is_in id (map log_cell (ls ++ l ∷ [])) ≡ true
in-old id [] l e = absurd (cc e)
in-old id (x ∷ ls) l e =
    elim (x.cell == id)
    as (λ b. (if b then true else is_in id (map log_cell ls)) ≡ true → (if b then true else is_in id (map log_cell (ls ++ l ∷ []))) ≡ true)
    [ true ↦ λ k. refl | false ↦ λ k. in-old id ls l k ]
    e

in-last : (id : ℕ) (ls : List CellLog) (l : CellLog) → (l.cell == id) ≡ true → is_in id (map log_cell (ls ++ l ∷ [])) ≡ true
in-last id [] l e = ap (λ b. if b then true else false) e
in-last id (x ∷ ls) l e =
    elim (x.cell == id)
    as (λ b. (if b then true else is_in id (map log_cell (ls ++ l ∷ []))) ≡ true)
    [ true ↦ refl | false ↦ in-last id ls l e ]

out-more : (id : ℕ) (ls : List CellLog) (l : CellLog) → is_in id (map log_cell ls) ≡ false → (l.cell == id) ≡ false → is_in id (map log_cell (ls ++ l ∷ [])) ≡ false
out-more id [] l e t = ap (λ b. if b then true else false) t
out-more id (x ∷ ls) l e t =
    elim (x.cell == id)
    as (λ b. (if b then true else is_in id (map log_cell ls)) ≡ false → (if b then true else is_in id (map log_cell (ls ++ l ∷ []))) ≡ false)
    [ true ↦ λ k. k | false ↦ λ k. out-more id ls l k t ]
    e

abbrev IsLogBelow : ℕ → CellLog → Type 0
IsLogBelow next l = l.cell < next

once-more : (next : ℕ) (ls : List CellLog) (l : CellLog) → l.cell ≡ next → AllByRecursion (IsLogBelow next) ls → AreOnce (map log_cell ls) → AreOnce (map log_cell (ls ++ l ∷ []))
once-more next [] l e b h = (refl, tt)
once-more next (x ∷ ls) l e b h =
    let below : x.cell < next = b.0 in
    let apart : (l.cell == x.cell) ≡ false = grind (arith, nat_tests, below, e) in
    (out-more x.cell ls l h.0 apart, once-more next ls l e b.1 h.1)

-- the cell that was made begins with its source, and nothing else is known of it
cell-began : (s : State) (asked : Change) (n' : Parts) (what : Changed) (source : List ℕ) → IsOrderly s → change s.book asked ≡ Makes n' what → MakesOne s.book asked source → first_source s.book.next_cell (s.began ++ begins_now n' what) ≡ source
cell-began s asked n' what source o e one =
    let next : ℕ = s.book.next_cell in
    let start : ℕ → List ℕ → Began = λ k x. record { cell = k; source = x } in
    let lives : found next (cells n') ≡ Some one.cell = one-lives s.book n' asked source one (changed-so s.book n' asked what o.book e) in
    let new : what ≡ NewCell next = (made-new s.book n' asked what next one.cell e (one-found s.book asked source one)).what_is in
    let now : begins_now n' what ≡ start next source ∷ [] =
    ap (begins_now n') new ∙ (ap beginnings_of lives ∙ (ap (λ k. start k one.cell.source ∷ []) one.number ∙ ap (λ x. start next x ∷ []) one.begins)) in
    ap (λ bs. first_source next (s.began ++ bs)) now ∙ fresh-source s next source o (omega arith)

cell-fresh : (s : State) (asked : Change) (n' : Parts) (what : Changed) (source joined : List ℕ) → IsOrderly s → change s.book asked ≡ Makes n' what → MakesOne s.book asked source → joined ≡ s.joined → IsFreshIn (once_made s (Makes n' what)) joined s.book.next_cell source
cell-fresh s asked n' what source joined o e one j = record {
  joined_are = sym j;
  began = cell-began s asked n' what source o e one;
  taken = fresh-taken s s.book.next_cell o (omega arith);
  known = λ n. fresh-floor s n s.book.next_cell o (omega arith);
}

-- a change that makes a cell: its log is one more
cell-log : (s : State) (asked : Change) (n' : Parts) (what : Changed) (source : List ℕ) (l : CellLog) → IsOrderly s → change s.book asked ≡ Makes n' what → MakesOne s.book asked source → IsNewLog (once_made s (Makes n' what)) s.book.next_cell source l → IsLogIn (once_made s (Makes n' what)) l
cell-log s asked n' what source l o e one new =
    let t : State = once_made s (Makes n' what) in
    let lives : found s.book.next_cell (cells n') ≡ Some one.cell = one-lives s.book n' asked source one (changed-so s.book n' asked what o.book e) in
    record {
      owner = one.cell;
      is_found = ap (λ k. found k (cells n')) new.0 ∙ lives;
      stands = subst (λ k. StandsFor t k one.cell.source l.log) (sym new.0) (subst (λ x. StandsFor t s.book.next_cell x l.log) (sym one.begins) new.1);
    }

cell-logs : (s : State) (asked : Change) (n' : Parts) (what : Changed) (source : List ℕ) (ls : List CellLog) (l : CellLog) → IsOrderly s → change s.book asked ≡ Makes n' what → MakesOne s.book asked source → AreLogs s ls → IsNewLog (once_made s (Makes n' what)) s.book.next_cell source l
    → AreLogs (once_made s (Makes n' what)) (ls ++ l ∷ [])
cell-logs s asked n' what source ls l o e one h new =
    let t : State = once_made s (Makes n' what) in
    let ch : HasChanged s.book n' asked = changed-so s.book n' asked what o.book e in
    let all : filter (log_lives n') ls ≡ ls = all-living s asked n' ch one.stays ls h.logs in
    let old : AllByRecursion (IsLogIn t) ls = subst (AllByRecursion (IsLogIn t)) all (logs-living s asked n' what o e ls h.logs) in
    let own : IsLogIn t l = cell-log s asked n' what source l o e one new in
    let below : AllByRecursion (IsLogBelow s.book.next_cell) ls = all-weaker (IsLogIn s) (IsLogBelow s.book.next_cell) (λ x k. found-below s.book x.cell k.owner o.book k.is_found) ls h.logs in
    record {
      once = once-more s.book.next_cell ls l new.0 below h.once;
      logs = all-append (IsLogIn t) ls (l ∷ []) old (own, tt);
      live = λ id some.
          elim (l.cell == id)
          as (λ b. (l.cell == id) ≡ b → is_in id (map log_cell (ls ++ l ∷ [])) ≡ true) [
            | true ↦ λ k. in-last id ls l k
            | false ↦ λ k.
                let other : (s.book.next_cell == id) ≡ false = subst (λ j. (j == id) ≡ false) new.0 k in
                in-old id ls l (h.live id (unmade-lived s.book n' asked id ch (other-unmade s.book asked source one id other) some))
          ]
          refl;
    }

pub cell-made : (s : State) (asked : Change) (made : Changed) (source joined : List ℕ) (cell : ℕ) (x x' : Held) (l : CellLog) → Holds s x → IsOrderly s → change x.book asked ≡ Makes x'.book made → new_source x.book asked ≡ Some source → joined ≡ x.joined.items → cell ≡ x.book.next_cell
    → ((t : State) → IsFreshIn t joined cell source → IsNewLog t cell source l) → x'.joined.items ≡ x.joined.items → x'.logs.items ≡ x.logs.items ++ l ∷ [] → x'.work ≡ housed x'.book x.work → HasMade s asked x' made
cell-made s asked made source joined cell x x' l h o e begins ejs ec new ej el ew =
    let t : State = once_made s (Makes x'.book made) in
    let e' : change s.book asked ≡ Makes x'.book made = subst (λ n. change n asked ≡ Makes x'.book made) h.book e in
    let one : MakesOne s.book asked source = makes-one s.book asked source (subst (λ n. new_source n asked ≡ Some source) h.book begins) in
    let number : cell ≡ s.book.next_cell = ec ∙ ap (λ n. n.next_cell) h.book in
    let fresh : IsFreshIn t joined s.book.next_cell source = cell-fresh s asked x'.book made source joined o e' one (ejs ∙ h.joined) in
    let log : IsNewLog t s.book.next_cell source l = subst (λ k. IsNewLog t k source l) number (new t (subst (λ k. IsFreshIn t joined k source) (sym number) fresh)) in (
      e',
      record {
        book = refl;
        joined = ej ∙ h.joined;
        logs = subst (AreLogs t) (sym el) (cell-logs s asked x'.book made source x.logs.items l o e' one h.logs log);
        work = ew ∙ ap (housed x'.book) h.work;
      },
    )

-- a change that isn't made, and after which all is as it was
pub unmade : (s : State) (asked : Change) (why : NoteError) (x x' : Held) → Holds s x → Refuses x.book asked why → x'.book ≡ x.book → x'.joined.items ≡ x.joined.items → x'.logs.items ≡ x.logs.items → x'.work ≡ x.work → HasNotMade s asked x' why
unmade s asked why x x' h e eb ej el ew = (
  subst (λ n. Refuses n asked why) h.book e,
  record { book = eb ∙ h.book; joined = ej ∙ h.joined; logs = subst (AreLogs s) (sym el) h.logs; work = ew ∙ h.work },
)

pub short : (s : State) (asked : Change) (why : NoteError) (x x' : Held) → Holds s x → why ≡ note.OutOfMemory → x'.book ≡ x.book → x'.joined.items ≡ x.joined.items → x'.logs.items ≡ x.logs.items → x'.work ≡ x.work → HasNotMade s asked x' why
short s asked why x x' h e eb ej el ew = unmade s asked why x x' h (subst (Refuses x.book asked) (sym e) tt) eb ej el ew

-- an operation that asks for a change: what it is answered, and what is after it
structure-reply : (s : State) (op : Op) → IsSome (change_of op) → joined_reply s op ≡ change_reply s (change_of op)
structure-reply s Join h = absurd (cc h)
structure-reply s (Delta cell base d) h = absurd (cc h)
structure-reply s (Report cell rev) h = absurd (cc h)
structure-reply s (Queue cell) h = absurd (cc h)
structure-reply s (Cancel cell) h = absurd (cc h)
structure-reply s op h = refl

structure-stranger : (op : Op) → IsSome (change_of op) → stranger_reply op ≡ Refused NotJoined
structure-stranger Join h = absurd (cc h)
structure-stranger op h = refl

structure-after : (s : State) (client : ℕ) (op : Op) (made : Changed) → IsSome (change_of op) → after_op s client op (made_reply made) ≡ once_done s (changes_if (change_of op))
structure-after s client Join made h = absurd (cc h)
structure-after s client Leave made h = absurd (cc h)
structure-after s client (Delta cell base d) made h = absurd (cc h)
structure-after s client (Report cell rev) made h = absurd (cc h)
structure-after s client (Queue cell) made h = absurd (cc h)
structure-after s client (Cancel cell) made h = absurd (cc h)
structure-after s client op Plain h = refl
structure-after s client op (NewCell cell) h = refl
structure-after s client op (NewSection section) h = refl

asks : (op : Op) (asked : Change) → change_of op ≡ Some asked → IsSome (change_of op)
asks op asked e = subst (λ o. is_some o ≡ true) (sym e) refl

-- a stranger asks for a change
pub stranger-change : (n0 : Parts) (s : Held) (client : ℕ) (op : Op) (asked : Change) → IsHeld n0 s → is_in client s.joined.items ≡ false → change_of op ≡ Some asked → reply (state_of n0 s) (Client client op) ≡ Refused NotJoined
stranger-change n0 s client op asked is e a = outsider-reply n0 s client op is e ∙ structure-stranger op (asks op asked a)

member-change : (n0 : Parts) (s : Held) (client : ℕ) (op : Op) (asked : Change) → IsHeld n0 s → is_in client s.joined.items ≡ true → change_of op ≡ Some asked → reply (state_of n0 s) (Client client op) ≡ attempt_reply (change (state_of n0 s).book asked)
member-change n0 s client op asked is e a = member-reply n0 s client op is e ∙ (structure-reply (state_of n0 s) op (asks op asked a) ∙ ap (change_reply (state_of n0 s)) a)

-- the session once a change was made, and the evaluations were swept
pub changed-session : (n0 : Parts) (s m s' : Held) (by client : ℕ) (op : Op) (asked : Change) (made : Changed) → IsHeld n0 s → is_in client s.joined.items ≡ true → change_of op ≡ Some asked → HasMade (state_of n0 s) asked m made
    → Grows s.history (entry_of by (Client client op) (made_reply made)) s'.history → s'.book ≡ m.book → s'.joined.items ≡ m.joined.items → s'.logs.items ≡ m.logs.items → s'.work ≡ swept m.book m.work → HasAnswered n0 by (Client client op) s s' (made_reply made)
changed-session n0 s m s' by client op asked made is member a done grown eb ej el ew =
    let st : State = state_of n0 s in
    let t : State = once_made st (Makes m.book made) in
    let h : Holds t m = done.1 in
    let now : after_op st client op (made_reply made) ≡ t = structure-after st client op made (asks op asked a) ∙ (ap (λ o. once_done st (changes_if o)) a ∙ ap (once_made st) done.0) in
    let right : made_reply made ≡ reply st (Client client op) = sym (member-change n0 s client op asked is member a ∙ ap attempt_reply done.0) in
    let held : Holds (record t { work = swept t.book t.work }) s' = record {
      book = eb ∙ h.book;
      joined = ej ∙ h.joined;
      logs = subst (AreLogs (record t { work = swept t.book t.work })) (sym el) (logs-work t (swept t.book t.work) m.logs.items h.logs);
      work = ew ∙ (ap (λ n. swept n m.work) h.book ∙ ap (swept t.book) h.work);
    } in
    answered-holding n0 s s' by (Client client op) (made_reply made) is tt right grown (subst (λ (u : State). Holds (record u { work = swept u.book u.work }) s') (sym now) held)

-- a change that isn't made is refused for its cause, if a client is told of one
told-cause : (n : Parts) (asked : Change) (fault : NoteError) (why : Refusal) → Refuses n asked fault → Some why ≡ told_change fault → attempt_reply (change n asked) ≡ Refused why
told-cause n asked note.NoCell why h k = ap attempt_reply h ∙ ap Refused (sym (cc k))
told-cause n asked note.NoSection why h k = ap attempt_reply h ∙ ap Refused (sym (cc k))
told-cause n asked (note.BadIndex len) why h k = ap attempt_reply h ∙ ap Refused (sym (cc k))
told-cause n asked note.BadParent why h k = ap attempt_reply h ∙ ap Refused (sym (cc k))
told-cause n asked note.HasBranches why h k = ap attempt_reply h ∙ ap Refused (sym (cc k))
told-cause n asked note.TooManyCells why h k = ap attempt_reply h ∙ ap Refused (sym (cc k))
told-cause n asked note.TooManySections why h k = ap attempt_reply h ∙ ap Refused (sym (cc k))
told-cause n asked note.OutOfMemory why h k = absurd (cc k)

pub unchanged-session : (n0 : Parts) (s m s' : Held) (by client : ℕ) (op : Op) (asked : Change) (fault : NoteError) (why : Refusal) → IsHeld n0 s → is_in client s.joined.items ≡ true → change_of op ≡ Some asked → HasNotMade (state_of n0 s) asked m fault → Some why ≡ told_change fault
    → Grows s.history (entry_of by (Client client op) (Refused why)) s'.history → s'.book ≡ m.book → s'.joined.items ≡ m.joined.items → s'.logs.items ≡ m.logs.items → s'.work ≡ m.work → HasAnswered n0 by (Client client op) s s' (Refused why)
unchanged-session n0 s m s' by client op asked fault why is member a done told grown eb ej el ew =
    let st : State = state_of n0 s in
    let h : Holds st m = done.1 in
    let right : Refused why ≡ reply st (Client client op) = sym (member-change n0 s client op asked is member a ∙ told-cause st.book asked fault why done.0 told) in
    let t : State = record st { work = swept st.book st.work } in
    let same : swept st.book st.work ≡ st.work = swept-same st.book st.work (hopeful-state n0 (history_of s)) in
    answered-holding n0 s s' by (Client client op) (Refused why) is tt right grown (record {
      book = eb ∙ h.book;
      joined = ej ∙ h.joined;
      logs = subst (AreLogs t) (sym el) (logs-work st (swept st.book st.work) m.logs.items h.logs);
      work = ew ∙ (h.work ∙ sym same);
    })

-- nothing is appended for want of memory
pub unmade-before : (n0 : Parts) (s m s' : Held) (asked : Change) (fault : NoteError) → IsHeld n0 s → HasNotMade (state_of n0 s) asked m fault → KeepsEntries s.history s'.history → s'.book ≡ m.book → s'.joined.items ≡ m.joined.items → s'.logs.items ≡ m.logs.items → s'.work ≡ m.work → IsAsBefore n0 s s'
unmade-before n0 s m s' asked fault is done eh eb ej el ew =
    let h : Holds (state_of n0 s) m = done.1 in
    before-holding n0 s s' is eh (record { book = eb ∙ h.book; joined = ej ∙ h.joined; logs = subst (AreLogs (state_of n0 s)) (sym el) h.logs; work = ew ∙ h.work })

-- what a session holds doesn't depend on its history
pub holds-pushed : (n0 : Parts) (s m : Held) → IsHeld n0 s → m.book ≡ s.book → m.joined.items ≡ s.joined.items → m.logs.items ≡ s.logs.items → m.work ≡ s.work → Holds (state_of n0 s) m
holds-pushed n0 s m is eb ej el ew = record { book = eb ∙ is.book; joined = ej ∙ is.joined; logs = subst (AreLogs (state_of n0 s)) (sym el) is.logs; work = ew ∙ is.work }

pub orderly-session : (n0 : Parts) (s : Held) → IsHeld n0 s → IsOrderly (state_of n0 s)
orderly-session n0 s is = orderly-state n0 (history_of s) is.opening is.legal
