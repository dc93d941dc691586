-- Each live source is the one that its cell began with, after its accepted deltas in order.
use Rattle.std.proofs.Common.{◌≡◌, ℕ, ◌+◌, ◌≤◌, ◌==◌, Bool, true, false, if◌then◌else◌, ◌++◌, ◌∷◌, [], List, Option, Some, None, refl, arith, sym, ap, ◌∙◌}
use Rattle.std.specs.Prelude.{is_some}
use Rattle.std.specs.List.{AllByRecursion}
use Rattle.std.specs.Option.{option_map}
use Rattle.std.proofs.lemmas.Bool.{eqb-true}
use Rattle.std.proofs.lemmas.Bool.Decides.{nat_tests}
use Rattle.std.proofs.lemmas.List.{append-nil}
use Rattle.delta.specs.declared.Step.{Step}
use Rattle.delta.specs.Moves.{text_after}
use Rattle.notebook.specs.declared.parts.Cell.{Cell}
use Rattle.notebook.specs.declared.parts.Parts.{Parts}
use Rattle.notebook.specs.declared.change.Change.{Change}
use Rattle.notebook.specs.declared.change.Change.TheVariants.{SetName, InsertSection, SetSectionName, DeleteSection, MoveSection, SetParent, InsertCell, DeleteCell, RestoreCell, MoveCell}
use Rattle.notebook.specs.declared.change.Changed.{Changed}
use Rattle.notebook.specs.declared.change.Changed.TheVariants.{Plain, NewCell as MakesCell, NewSection as MakesSection}
use Rattle.notebook.specs.Book.{cells, found, resourced_cell}
use Rattle.notebook.specs.Change.{Makes, change, new_cell, kind_of, renumbered}
use Rattle.notebook.specs.Living.{gone_cells, made_cells, first_or, restored}
use Rattle.notebook.specs.Rules.{IsNotebook}
use Rattle.notebook.proofs.Sources.{found-resourced}
use Rattle.notebook.proofs.Living.{change-found}
use Rattle.session_ops.specs.declared.entry.Entry.{Entry}
use Rattle.session_ops.specs.Deeds.{moved_source}
use Rattle.session_ops.specs.State.{State, Taken, Began, taken_by, first_source, beginnings, beginnings_of, begins_now, once_made, state, revision, Legal}
use Rattle.session_ops.proofs.Live.{found-number}
use Rattle.session_ops.specs.Orderly.{IsOrderly, IsBeganBelow, has_begun}
use Rattle.session_ops.proofs.Orderly.{orderly-kept, opening-orderly}
use Rattle.session_ops.proofs.Fresh.{fresh-taken, kept-source}
use Rattle.session_ops.proofs.Steps.{KeepsOps, KeepsState, once_applied, state-keeps}
use Rattle.driver.specs.Headline.{AllGrown, text_after_all}

text-append : (t : List ℕ) (xs : List (List Step)) (x : List Step) → text_after_all t (xs ++ x ∷ []) ≡ text_after x (text_after_all t xs)
text-append t [] x = refl
text-append t (y ∷ xs) x = text-append (text_after y t) xs x

-- a cell's deltas after one more
more-of : (b : Bool) (d : List Step) (xs : List (List Step)) (ys : List (List Step)) → (if b then d ∷ xs ++ ys else xs ++ ys) ≡ (if b then d ∷ xs else xs) ++ ys
more-of true d xs ys = refl
more-of false d xs ys = refl

pub taken-append : (id : ℕ) (ts : List Taken) (t : Taken) → taken_by id (ts ++ t ∷ []) ≡ taken_by id ts ++ (if t.cell == id then t.delta ∷ [] else [])
taken-append id [] t = refl
taken-append id (u ∷ ts) t = rw (taken-append id ts t) (more-of (u.cell == id) u.delta (taken_by id ts) (if t.cell == id then t.delta ∷ [] else []))

by-id : (b c : Bool) (x : List Step) (start source : List ℕ) (xs : List (List Step)) → b ≡ c → source ≡ text_after_all start xs → (if b then text_after x source else source) ≡ text_after_all start (xs ++ (if c then x ∷ [] else []))
by-id true true x start source xs same is = rw (text-append start xs x, is) refl
by-id false false x start source xs same is = rw (append-nil xs) is
by-id true false x start source xs same is = absurd (grind (arith, same))
by-id false true x start source xs same is = absurd (grind (arith, same))

same-id : (a b k : ℕ) → b ≡ k → (b == a) ≡ (a == k)
same-id a b k e = grind (arith, nat_tests, e)

-- one cell took a delta
grown-of : (s : State) (cell k : ℕ) (x : List Step) (o : Option Cell) (c : Cell) → found k (cells s.book) ≡ o → option_map (resourced_cell (moved_source cell x)) o ≡ Some c → AllGrown s
    → c.source ≡ text_after_all (first_source k s.began) (taken_by k (s.taken ++ record { cell = cell; delta = x } ∷ []))
grown-of s cell k x None c f e h = absurd (cc e)
grown-of s cell k x (Some c0) c f e h =
    let is : resourced_cell (moved_source cell x) c0 ≡ c = cc e in
    let number : c0.id ≡ k = found-number k (cells s.book) c0 f in
    let before : c0.source ≡ text_after_all (first_source k s.began) (taken_by k s.taken) = h k c0 f in
    let now : (if c0.id == cell then text_after x c0.source else c0.source) ≡ text_after_all (first_source k s.began) (taken_by k s.taken ++ (if cell == k then x ∷ [] else [])) =
    by-id (c0.id == cell) (cell == k) x (first_source k s.began) c0.source (taken_by k s.taken) (same-id cell c0.id k number) before in
    ap (λ (z : Cell). z.source) (sym is) ∙ (now ∙ ap (text_after_all (first_source k s.began)) (sym (taken-append k s.taken (record { cell = cell; delta = x }))))

grown-applied : (s : State) (n cell rev : ℕ) (x : List Step) → AllGrown s → AllGrown (once_applied s n cell rev x)
grown-applied s n cell rev x h k c e = grown-of s cell k x (found k (cells s.book)) c refl (sym (found-resourced (moved_source cell x) k s.book) ∙ e) h

-- of a number that is too great nothing was noted
none-begun : (k next : ℕ) (bs : List Began) → next ≤ k → AllByRecursion (IsBeganBelow next) bs → has_begun k bs ≡ false
none-begun k next [] l a = refl
none-begun k next (b ∷ bs) l a =
    let other : (b.cell == k) ≡ false = grind (arith, nat_tests, l, a.0) in
    ap (λ t. if t then true else has_begun k bs) other ∙ none-begun k next bs l a.1

first-after : (k : ℕ) (bs more : List Began) → has_begun k bs ≡ false → first_source k (bs ++ more) ≡ first_source k more
first-after k [] more e = refl
first-after k (b ∷ bs) more e =
    elim (b.cell == k)
    as (λ t. (if t then true else has_begun k bs) ≡ false → (if t then b.source else first_source k (bs ++ more)) ≡ first_source k more)
    [ true ↦ λ h. absurd (cc h) | false ↦ λ h. first-after k bs more h ]
    e

begun-after : (k : ℕ) (bs more : List Began) → has_begun k bs ≡ false → has_begun k (bs ++ more) ≡ has_begun k more
begun-after k [] more e = refl
begun-after k (b ∷ bs) more e =
    elim (b.cell == k)
    as (λ t. (if t then true else has_begun k bs) ≡ false → (if t then true else has_begun k (bs ++ more)) ≡ has_begun k more)
    [ true ↦ λ h. absurd (cc h) | false ↦ λ h. begun-after k bs more h ]
    e

-- the cell that a change made begins with the source that it has
first-found : (n : Parts) (cell k : ℕ) (c : Cell) (o : Option Cell) → found cell (cells n) ≡ o → found k (cells n) ≡ Some c → has_begun k (beginnings_of o) ≡ true → first_source k (beginnings_of o) ≡ c.source
first-found n cell k c None f e b = absurd (cc b)
first-found n cell k c (Some d) f e b =
    elim (d.id == k)
    as (λ t. (d.id == k) ≡ t → (if t then true else false) ≡ true → (if t then d.source else []) ≡ c.source) [
      | true ↦ λ t h.
          let number : d.id ≡ cell = found-number cell (cells n) d f in
          let same : cell ≡ k = sym number ∙ eqb-true d.id k t in
          let is : Some d ≡ Some c = sym f ∙ (ap (λ j. found j (cells n)) same ∙ e) in
          let one : d ≡ c = cc is in
          ap (λ (z : Cell). z.source) one
      | false ↦ λ t h. absurd (cc h)
    ]
    refl
    b

first-made : (n : Parts) (what : Changed) (k : ℕ) (c : Cell) → found k (cells n) ≡ Some c → has_begun k (begins_now n what) ≡ true → first_source k (begins_now n what) ≡ c.source
first-made n Plain k c e b = absurd (cc b)
first-made n (MakesCell cell) k c e b = first-found n cell k c (found cell (cells n)) refl e b
first-made n (MakesSection section) k c e b = absurd (cc b)

-- after a change: a cell that lived before, and a new one
grown-old : (s : State) (n' : Parts) (what : Changed) (k : ℕ) (c : Cell) → IsOrderly s → AllGrown s → found k (cells s.book) ≡ Some c → c.source ≡ text_after_all (first_source k (s.began ++ begins_now n' what)) (taken_by k s.taken)
grown-old s n' what k c o h e = h k c e ∙ ap (λ t. text_after_all t (taken_by k s.taken)) (sym (kept-source k s.began (begins_now n' what) (o.all_began k c e)))

grown-new : (s : State) (n' : Parts) (what : Changed) (k : ℕ) (c : Cell) → IsOrderly s → found k (cells n') ≡ Some c → has_begun k (s.began ++ begins_now n' what) ≡ true → s.book.next_cell ≤ k → c.source ≡ text_after_all (first_source k (s.began ++ begins_now n' what)) (taken_by k s.taken)
grown-new s n' what k c o e b l =
    let none : has_begun k s.began ≡ false = none-begun k s.book.next_cell s.began l o.began in
    let first : first_source k (s.began ++ begins_now n' what) ≡ c.source = first-after k s.began (begins_now n' what) none ∙ first-made n' what k c e (sym (begun-after k s.began (begins_now n' what) none) ∙ b) in
    rw (fresh-taken s k o l, first) refl

-- a cell that a change makes has the next number
one-number : (c : Cell) (k : ℕ) → is_some (found k (c ∷ [])) ≡ true → c.id ≡ k
one-number c k e =
    elim (c.id == k)
    as (λ b. (c.id == k) ≡ b → is_some (if b then Some c else None) ≡ true → c.id ≡ k)
    [ true ↦ λ t h. eqb-true c.id k t | false ↦ λ t h. absurd (cc h) ]
    refl
    e

restored-number : (id k : ℕ) (o : Option Cell) → is_some (found k (restored id o)) ≡ true → id ≡ k
restored-number id k None e = absurd (cc e)
restored-number id k (Some c) e = one-number (renumbered id c) k e

made-number : (n : Parts) (asked : Change) (k : ℕ) → is_some (found k (made_cells n asked)) ≡ true → n.next_cell ≡ k
made-number n (SetName name) k e = absurd (cc e)
made-number n (InsertSection index name) k e = absurd (cc e)
made-number n (SetSectionName section name) k e = absurd (cc e)
made-number n (DeleteSection section) k e = absurd (cc e)
made-number n (MoveSection section index) k e = absurd (cc e)
made-number n (SetParent section parent) k e = absurd (cc e)
made-number n (InsertCell section index kind) k e = one-number (new_cell n.next_cell (kind_of kind)) k e
made-number n (DeleteCell cell) k e = absurd (cc e)
made-number n (RestoreCell cell section index) k e = restored-number n.next_cell k (found cell n.bin) e
made-number n (MoveCell cell section index) k e = absurd (cc e)

grown-by : (s : State) (asked : Change) (n' : Parts) (what : Changed) (k : ℕ) (c : Cell) (gone : Bool) (o : Option Cell) → IsOrderly s → AllGrown s → found k (cells n') ≡ Some c → has_begun k (s.began ++ begins_now n' what) ≡ true → found k (made_cells s.book asked) ≡ o
    → (if gone then None else first_or o (found k (cells s.book))) ≡ Some c → c.source ≡ text_after_all (first_source k (s.began ++ begins_now n' what)) (taken_by k s.taken)
grown-by s asked n' what k c true o d h e b m l = absurd (cc l)
grown-by s asked n' what k c false None d h e b m l = grown-old s n' what k c d h l
grown-by s asked n' what k c false (Some x) d h e b m l =
    let next : s.book.next_cell ≡ k = made-number s.book asked k (ap is_some m) in
    grown-new s n' what k c d e b (omega (arith, next))

grown-made : (s : State) (asked : Change) (n' : Parts) (what : Changed) → IsOrderly s → IsOrderly (once_made s (Makes n' what)) → AllGrown s → change s.book asked ≡ Makes n' what → AllGrown (once_made s (Makes n' what))
grown-made s asked n' what o o' h m k c e =
    grown-by s asked n' what k c (is_some (found k (gone_cells s.book asked))) (found k (made_cells s.book asked)) o h e (o'.all_began k c e) refl (sym (change-found s.book n' asked what k o.book m) ∙ e)

abbrev IsGrown : State → Type 0
IsGrown s = IsOrderly s × AllGrown s

ops-grown : KeepsOps IsGrown
ops-grown = record {
  join = λ s n h e. (orderly-kept.ops.join s n h.0 e, h.1);
  leave = λ s n h. (orderly-kept.ops.leave s n h.0, h.1);
  made = λ s asked n' what h m. let o : IsOrderly (once_made s (Makes n' what)) = orderly-kept.ops.made s asked n' what h.0 m in (o, grown-made s asked n' what h.0 o h.1 m);
  applied = λ s n cell base d x c h f is fits. (orderly-kept.ops.applied s n cell base d x c h.0 f is fits, grown-applied s n cell (revision s cell + 1) x h.1);
  reported = λ s n cell rev c h f l. (orderly-kept.ops.reported s n cell rev c h.0 f l, h.1);
  queued = λ s cell c h f k e. (orderly-kept.ops.queued s cell c h.0 f k e, h.1);
  cancel = λ s cell c h f k. (orderly-kept.ops.cancel s cell c h.0 f k, h.1);
}

state-grown : KeepsState IsGrown
state-grown = record {
  ops = ops-grown;
  started = λ s lane cell h e. (orderly-kept.started s lane cell h.0 e, h.1);
  stored = λ s eval shown r h e. (orderly-kept.stored s eval shown r h.0 e, h.1);
  swept = λ s h. (orderly-kept.swept s h.0, h.1);
}

-- at the opening no cell has taken a delta
first-opening : (cs : List Cell) (k : ℕ) (c : Cell) → found k cs ≡ Some c → c.source ≡ first_source k (beginnings cs)
first-opening [] k c e = absurd (cc e)
first-opening (d ∷ cs) k c e =
    elim (d.id == k)
    as (λ b. (if b then Some d else found k cs) ≡ Some c → c.source ≡ (if b then d.source else first_source k (beginnings cs))) [
      | true ↦ λ h. let one : d ≡ c = cc h in ap (λ (z : Cell). z.source) (sym one)
      | false ↦ λ h. first-opening cs k c h
    ]
    e

-- in every legal history each live source is the one with which its cell began, after its accepted deltas
pub all-grown : (n0 : Parts) (h : List Entry) → IsNotebook n0 → Legal n0 h → AllGrown (state n0 h)
all-grown n0 h n l = (state-keeps IsGrown state-grown n0 h l (opening-orderly n0 n, λ k c e. first-opening (cells n0) k c e)).1
