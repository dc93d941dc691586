-- What a change of the structure makes of the live cells.
use Rattle.std.proofs.Common.{◌≡◌, ℕ, ◌+◌, ◌<◌, ◌≤◌, ◌==◌, Bool, true, false, if◌then◌else◌, List, [], ◌∷◌, Option, Some, None, refl, sym, ◌∙◌, arith}
use Rattle.std.specs.Prelude.{is_some, nat_lt, length}
use Rattle.std.proofs.lemmas.Bool.{eqb-true}
use Rattle.notebook.specs.declared.parts.Cell.{Cell}
use Rattle.notebook.specs.declared.parts.Section.{Section}
use Rattle.notebook.specs.declared.parts.Parts.{Parts}
use Rattle.notebook.specs.declared.change.Change.{Change}
use Rattle.notebook.specs.declared.change.Change.TheVariants.{SetName, InsertSection, SetSectionName, DeleteSection, MoveSection, SetParent, InsertCell, DeleteCell, RestoreCell, MoveCell}
use Rattle.notebook.specs.declared.change.Changed.{Changed}
use Rattle.notebook.specs.declared.change.Changed.TheVariants.{NewCell}
use Rattle.notebook.specs.declared.change.NoteError.TheVariants.{NoSection, BadIndex}
use Rattle.notebook.specs.Change.{Attempt, Makes, Fails, change, lacks, cells_in, put_cell, place_cell, if_room, counted, is_full, kind_of, new_cell, renumbered, but_cell, restore_cell}
use Rattle.notebook.specs.Living.{gone_cells, made_cells, lives_on, first_or, restored}
use Rattle.notebook.specs.Book.{cells, found}
use Rattle.notebook.specs.Rules.{IsNotebook}
use Rattle.session_ops.specs.Orderly.{IsCodeLive}
use Rattle.session_ops.proofs.Live.{found-below}

-- what the laws of the notebook say of a change that was made
pub record HasChanged (n n' : Parts) (asked : Change) : Type 0 where
  pub keeps : IsNotebook n'
  pub more : n.next_cell ≤ n'.next_cell
  pub live : (id : ℕ) → found id (cells n') ≡ lives_on n asked id

made-same : (n n' : Parts) (a b : Changed) → Makes n a ≡ Makes n' b → b ≡ a
made-same n n' a b e = sym (cc e)

placed-what : (n n' : Parts) (ss : List Section) (section index : ℕ) (c : Cell) (made what : Changed) → place_cell n ss section index c made ≡ Makes n' what → what ≡ made
placed-what n n' ss section index c made what e =
    elim (lacks section ss)
    as (λ b. (if b then Fails NoSection else (if nat_lt (length (cells_in section ss)) index then Fails (BadIndex (length (cells_in section ss))) else Makes (record n { sections = put_cell section index c ss }) made)) ≡ Makes n' what → what ≡ made) [
      | true ↦ λ k. absurd (cc k)
      | false ↦ λ k.
          elim (nat_lt (length (cells_in section ss)) index)
          as (λ b. (if b then Fails (BadIndex (length (cells_in section ss))) else Makes (record n { sections = put_cell section index c ss }) made) ≡ Makes n' what → what ≡ made)
          [ true ↦ λ j. absurd (cc j) | false ↦ λ j. made-same (record n { sections = put_cell section index c ss }) n' made what j ]
          k
    ]
    e

room-what : (full : Bool) (a : Attempt) (n' : Parts) (what : Changed) → if_room full a ≡ Makes n' what → a ≡ Makes n' what
room-what full (Fails why) n' what e = e
room-what true (Makes n made) n' what e = absurd (cc e)
room-what false (Makes n made) n' what e = e

-- a cell that a change makes has the next number, and the change says so
pub record IsNewCell (n : Parts) (what : Changed) (id : ℕ) : Type 0 where
  pub what_is : what ≡ NewCell n.next_cell
  pub number : id ≡ n.next_cell

one-found : (x c : Cell) (id : ℕ) → found id (x ∷ []) ≡ Some c → id ≡ x.id
one-found x c id e =
    elim (x.id == id)
    as (λ b. (x.id == id) ≡ b → (if b then Some x else None) ≡ Some c → id ≡ x.id)
    [ true ↦ λ t k. sym (eqb-true x.id id t) | false ↦ λ t k. absurd (cc k) ]
    refl
    e

restored-new : (n n' : Parts) (section index : ℕ) (o : Option Cell) (what : Changed) (id : ℕ) (c : Cell) → restore_cell n section index o ≡ Makes n' what → found id (restored n.next_cell o) ≡ Some c → IsNewCell n what id
restored-new n n' section index None what id c e f = absurd (cc f)
restored-new n n' section index (Some x) what id c e f = record {
  what_is = placed-what (record n { bin = but_cell x.id n.bin; next_cell = n.next_cell + 1 }) n' n.sections section index (renumbered n.next_cell x) (NewCell n.next_cell) what (room-what (is_full n x.kind) _ n' what e);
  number = one-found (renumbered n.next_cell x) c id f;
}

pub made-new : (n n' : Parts) (asked : Change) (what : Changed) (id : ℕ) (c : Cell) → change n asked ≡ Makes n' what → found id (made_cells n asked) ≡ Some c → IsNewCell n what id
made-new n n' (InsertCell section index kind) what id c e f = record {
  what_is = placed-what (counted n) n' n.sections section index (new_cell n.next_cell (kind_of kind)) (NewCell n.next_cell) what (room-what (is_full n (kind_of kind)) _ n' what e);
  number = one-found (new_cell n.next_cell (kind_of kind)) c id f;
}
made-new n n' (RestoreCell cell section index) what id c e f = restored-new n n' section index (found cell n.bin) what id c e f
made-new n n' (SetName name) what id c e f = absurd (cc f)
made-new n n' (InsertSection index name) what id c e f = absurd (cc f)
made-new n n' (SetSectionName section name) what id c e f = absurd (cc f)
made-new n n' (DeleteSection section) what id c e f = absurd (cc f)
made-new n n' (MoveSection section index) what id c e f = absurd (cc f)
made-new n n' (SetParent section parent) what id c e f = absurd (cc f)
made-new n n' (DeleteCell cell) what id c e f = absurd (cc f)
made-new n n' (MoveCell cell section index) what id c e f = absurd (cc f)

-- a live cell after a change: the new one, or one that lived before
pub data LivesOn (n : Parts) (what : Changed) (id : ℕ) (c : Cell) : Type 0 where
  is_new : IsNewCell n what id → LivesOn n what id c
  is_old : found id (cells n) ≡ Some c → LivesOn n what id c

lives-of : (n n' : Parts) (asked : Change) (what : Changed) (id : ℕ) (c : Cell) (o : Option Cell) → change n asked ≡ Makes n' what → found id (made_cells n asked) ≡ o → first_or o (found id (cells n)) ≡ Some c → LivesOn n what id c
lives-of n n' asked what id c None e f k = is_old k
lives-of n n' asked what id c (Some x) e f k = is_new (made-new n n' asked what id x e f)

pub lives-cases : (n n' : Parts) (asked : Change) (what : Changed) (id : ℕ) (c : Cell) → change n asked ≡ Makes n' what → HasChanged n n' asked → found id (cells n') ≡ Some c → LivesOn n what id c
lives-cases n n' asked what id c e h f =
    elim (is_some (found id (gone_cells n asked)))
    as (λ b. (if b then None else first_or (found id (made_cells n asked)) (found id (cells n))) ≡ Some c → LivesOn n what id c)
    [ true ↦ λ k. absurd (cc k) | false ↦ λ k. lives-of n n' asked what id c (found id (made_cells n asked)) e refl k ]
    (sym (h.live id) ∙ f)

old-of : (n n' : Parts) (asked : Change) (what : Changed) (id : ℕ) (c x : Cell) → IsNotebook n → found id (cells n) ≡ Some c → LivesOn n what id x → found id (cells n') ≡ Some x → found id (cells n') ≡ Some c
old-of n n' asked what id c x h f (is_new new) k =
    let below : id < n.next_cell = found-below n id c h f in
    let same : id ≡ n.next_cell = new.number in
    absurd (omega (arith, below, same))
old-of n n' asked what id c x h f (is_old old) k = k ∙ (sym old ∙ f)

stays-of : (n n' : Parts) (asked : Change) (what : Changed) (id : ℕ) (c : Cell) (o : Option Cell) → IsNotebook n → change n asked ≡ Makes n' what → HasChanged n n' asked → found id (cells n) ≡ Some c → found id (cells n') ≡ o → is_some o ≡ true → found id (cells n') ≡ Some c
stays-of n n' asked what id c None h e ch f k some = absurd (cc some)
stays-of n n' asked what id c (Some x) h e ch f k some = old-of n n' asked what id c x h f (lives-cases n n' asked what id x e ch k) k

-- a live cell that lives on is the same cell
pub stays-live : (n n' : Parts) (asked : Change) (what : Changed) (id : ℕ) (c : Cell) → IsNotebook n → change n asked ≡ Makes n' what → HasChanged n n' asked → found id (cells n) ≡ Some c → is_some (found id (cells n')) ≡ true → found id (cells n') ≡ Some c
stays-live n n' asked what id c h e ch f some = stays-of n n' asked what id c (found id (cells n')) h e ch f refl some

pub code-stays : (n n' : Parts) (asked : Change) (what : Changed) (id : ℕ) → IsNotebook n → change n asked ≡ Makes n' what → HasChanged n n' asked → IsCodeLive n id → is_some (found id (cells n')) ≡ true → IsCodeLive n' id
code-stays n n' asked what id h e ch c some = record { cell = c.cell; is_found = stays-live n n' asked what id c.cell h e ch c.is_found some; code = c.code }
