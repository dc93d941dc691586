-- A word and what follows it are one operation at most.
use Rattle.std.proofs.Common.{◌≡◌, ◌∙◌, ℕ, true, false, if◌then◌else◌, List, [], codes, refl, sym, ap, subst, arith, Option, Some, None, unwrap_or}
use Rattle.std.specs.Prelude.{option_and_then}
use Rattle.std.specs.Str.{chars, bytes_eq}
use Rattle.std.specs.Str.Parse.{digits_value, IsNumeral}
use Rattle.std.proofs.lemmas.Slice.Eq.{bytes_eq-Decides}
use Rattle.serde_json.specs.Data.{Data, null, boolean, number, string, array, object}
use Rattle.serde_json.specs.Read.{read}
use Rattle.delta.specs.declared.Step.{Step}
use Rattle.notebook.specs.declared.change.CellKind.{CellKind}
use Rattle.notebook.specs.declared.change.CellKind.TheVariants.{Code, Markdown}
use Rattle.session_ops.specs.declared.entry.Op.{Op}
use Rattle.session_ops.specs.declared.entry.Op.TheVariants.{Join, Leave, SetName, InsertSection, SetSectionName, DeleteSection, MoveSection, SetParent, InsertCell, DeleteCell, RestoreCell, MoveCell, Delta, Report, Queue, Cancel}
use Rattle.session_ops.specs.Structure.{is_postable}
use Rattle.script.specs.Words.{first_word, after_word}
use Rattle.script.specs.Number.{IsNumber}
use Rattle.script.specs.Text.{IsText}
use Rattle.script.specs.Delta.{steps_of_array}
use Rattle.script.specs.Ops.{kind_word, IsParent, IsOperation}

-- what operands write, where they write it
abbrev pub number_in : List ℕ → ℕ
number_in text = digits_value 10 (first_word text)

abbrev characters_of : Option Data → List ℕ
characters_of None = []
characters_of (Some null) = []
characters_of (Some (boolean b)) = []
characters_of (Some (number n)) = []
characters_of (Some (string bytes)) = chars bytes
characters_of (Some (array items)) = []
characters_of (Some (object ms)) = []

abbrev pub text_in : List ℕ → List ℕ
text_in bytes = characters_of (read bytes)

abbrev pub steps_in : List ℕ → List Step
steps_in text = unwrap_or (option_and_then steps_of_array (read text)) []

abbrev pub parent_in : List ℕ → Option ℕ
parent_in word = if bytes_eq word (codes "none") then None else Some (digits_value 10 word)

abbrev pub kind_in : List ℕ → CellKind
kind_in word = if bytes_eq word (codes "code") then Code else Markdown

-- the operation with the word and these operands, where there is one
abbrev pub op_in : List ℕ → List ℕ → Op
op_in word rest =
    if bytes_eq word (codes "set_name") then SetName (text_in rest)
    else if bytes_eq word (codes "insert_section") then InsertSection (number_in rest) (text_in (after_word rest))
    else if bytes_eq word (codes "set_section_name") then SetSectionName (number_in rest) (text_in (after_word rest))
    else if bytes_eq word (codes "delete_section") then DeleteSection (digits_value 10 rest)
    else if bytes_eq word (codes "move_section") then MoveSection (number_in rest) (digits_value 10 (after_word rest))
    else if bytes_eq word (codes "set_parent") then SetParent (number_in rest) (parent_in (after_word rest))
    else if bytes_eq word (codes "insert_cell") then InsertCell (number_in rest) (number_in (after_word rest)) (kind_in (after_word (after_word rest)))
    else if bytes_eq word (codes "delete_cell") then DeleteCell (digits_value 10 rest)
    else if bytes_eq word (codes "restore_cell") then RestoreCell (number_in rest) (number_in (after_word rest)) (digits_value 10 (after_word (after_word rest)))
    else if bytes_eq word (codes "move_cell") then MoveCell (number_in rest) (number_in (after_word rest)) (digits_value 10 (after_word (after_word rest)))
    else if bytes_eq word (codes "delta") then Delta (number_in rest) (number_in (after_word rest)) (steps_in (after_word (after_word rest)))
    else if bytes_eq word (codes "report") then Report (number_in rest) (digits_value 10 (after_word rest))
    else if bytes_eq word (codes "queue") then Queue (digits_value 10 rest)
    else Cancel (digits_value 10 rest)

pub text-is : (bytes text : List ℕ) → IsText bytes text → text ≡ text_in bytes
text-is bytes text is = is.characters ∙ sym (ap characters_of is.json)

pub steps-are : (steps : List Step) (text : List ℕ) → option_and_then steps_of_array (read text) ≡ Some steps → steps ≡ steps_in text
steps-are steps text e = sym (ap (λ o. unwrap_or o []) e)

none-no-number : (word : List ℕ) (n : ℕ) → word ≡ codes "none" → IsNumber word n → ⊥
none-no-number word n none is =
    let digits : IsNumeral 10 (codes "none") = subst (IsNumeral 10) none is.digits in
    absurd (omega (arith, digits.1.0))

parent-is : (word : List ℕ) (parent : Option ℕ) → IsParent word parent → parent ≡ parent_in word
parent-is word None is = sym (ap (λ b. if b then None else Some (digits_value 10 word)) ((bytes_eq-Decides word (codes "none")).1 is))
parent-is word (Some section) is =
    elim (bytes_eq word (codes "none")) as (λ b. bytes_eq word (codes "none") ≡ b → Some section ≡ (if b then None else Some (digits_value 10 word))) [
      | true ↦ λ t. absurd (none-no-number word section ((bytes_eq-Decides word (codes "none")).0 t) is)
      | false ↦ λ f. ap Some is.value
    ] refl

kind-is : (word : List ℕ) (kind : CellKind) → word ≡ kind_word kind → kind ≡ kind_in word
kind-is word Code e = subst (λ w. Code ≡ kind_in w) (sym e) refl
kind-is word Markdown e = subst (λ w. Markdown ≡ kind_in w) (sym e) refl

-- an operation is the one with its word and operands
pub op-is : (word rest : List ℕ) (op : Op) → IsOperation word rest op → op ≡ op_in word rest
op-is word rest Join is = absurd is
op-is word rest Leave is = absurd is
op-is word rest (SetName name) is = subst (λ w. SetName name ≡ op_in w rest) (sym is.0) (ap SetName (text-is rest name is.1))
op-is word rest (InsertSection index name) is =
    subst (λ w. InsertSection index name ≡ op_in w rest) (sym is.0)
    (ap (λ n. InsertSection n name) is.1.0.value ∙ ap (λ t. InsertSection (number_in rest) t) (text-is (after_word rest) name is.1.1))
op-is word rest (SetSectionName section name) is =
    subst (λ w. SetSectionName section name ≡ op_in w rest) (sym is.0)
    (ap (λ n. SetSectionName n name) is.1.0.value ∙ ap (λ t. SetSectionName (number_in rest) t) (text-is (after_word rest) name is.1.1))
op-is word rest (DeleteSection section) is = subst (λ w. DeleteSection section ≡ op_in w rest) (sym is.0) (ap DeleteSection is.1.value)
op-is word rest (MoveSection section index) is =
    subst (λ w. MoveSection section index ≡ op_in w rest) (sym is.0)
    (ap (λ n. MoveSection n index) is.1.0.value ∙ ap (λ n. MoveSection (number_in rest) n) is.1.1.value)
op-is word rest (SetParent section parent) is =
    subst (λ w. SetParent section parent ≡ op_in w rest) (sym is.0)
    (ap (λ n. SetParent n parent) is.1.0.value ∙ ap (λ p. SetParent (number_in rest) p) (parent-is (after_word rest) parent is.1.1))
op-is word rest (InsertCell section index kind) is =
    subst (λ w. InsertCell section index kind ≡ op_in w rest) (sym is.0)
    (ap (λ n. InsertCell n index kind) is.1.0.value
    ∙ ap (λ n. InsertCell (number_in rest) n kind) is.1.1.0.value
    ∙ ap (λ k. InsertCell (number_in rest) (number_in (after_word rest)) k) (kind-is (after_word (after_word rest)) kind is.1.1.1))
op-is word rest (DeleteCell cell) is = subst (λ w. DeleteCell cell ≡ op_in w rest) (sym is.0) (ap DeleteCell is.1.value)
op-is word rest (RestoreCell cell section index) is =
    subst (λ w. RestoreCell cell section index ≡ op_in w rest) (sym is.0)
    (ap (λ n. RestoreCell n section index) is.1.0.value
    ∙ ap (λ n. RestoreCell (number_in rest) n index) is.1.1.0.value
    ∙ ap (λ n. RestoreCell (number_in rest) (number_in (after_word rest)) n) is.1.1.1.value)
op-is word rest (MoveCell cell section index) is =
    subst (λ w. MoveCell cell section index ≡ op_in w rest) (sym is.0)
    (ap (λ n. MoveCell n section index) is.1.0.value
    ∙ ap (λ n. MoveCell (number_in rest) n index) is.1.1.0.value
    ∙ ap (λ n. MoveCell (number_in rest) (number_in (after_word rest)) n) is.1.1.1.value)
op-is word rest (Delta cell base delta) is =
    subst (λ w. Delta cell base delta ≡ op_in w rest) (sym is.0)
    (ap (λ n. Delta n base delta) is.1.0.value
    ∙ ap (λ n. Delta (number_in rest) n delta) is.1.1.0.value
    ∙ ap (λ d. Delta (number_in rest) (number_in (after_word rest)) d) (steps-are delta (after_word (after_word rest)) is.1.1.1.steps))
op-is word rest (Report cell rev) is =
    subst (λ w. Report cell rev ≡ op_in w rest) (sym is.0)
    (ap (λ n. Report n rev) is.1.0.value ∙ ap (λ n. Report (number_in rest) n) is.1.1.value)
op-is word rest (Queue cell) is = subst (λ w. Queue cell ≡ op_in w rest) (sym is.0) (ap Queue is.1.value)
op-is word rest (Cancel cell) is = subst (λ w. Cancel cell ≡ op_in w rest) (sym is.0) (ap Cancel is.1.value)

-- so where there is one, the one with these operands is
pub known : (word rest : List ℕ) (op : Op) → IsOperation word rest op → IsOperation word rest (op_in word rest)
known word rest op is = subst (IsOperation word rest) (op-is word rest op is) is

-- what a client may post is no report
pub postable-word : (word rest : List ℕ) (op : Op) → is_postable op ≡ true → IsOperation word rest op → bytes_eq word (codes "report") ≡ false
postable-word word rest Join may is = absurd is
postable-word word rest Leave may is = absurd is
postable-word word rest (SetName name) may is = subst (λ w. bytes_eq w (codes "report") ≡ false) (sym is.0) refl
postable-word word rest (InsertSection index name) may is = subst (λ w. bytes_eq w (codes "report") ≡ false) (sym is.0) refl
postable-word word rest (SetSectionName section name) may is = subst (λ w. bytes_eq w (codes "report") ≡ false) (sym is.0) refl
postable-word word rest (DeleteSection section) may is = subst (λ w. bytes_eq w (codes "report") ≡ false) (sym is.0) refl
postable-word word rest (MoveSection section index) may is = subst (λ w. bytes_eq w (codes "report") ≡ false) (sym is.0) refl
postable-word word rest (SetParent section parent) may is = subst (λ w. bytes_eq w (codes "report") ≡ false) (sym is.0) refl
postable-word word rest (InsertCell section index kind) may is = subst (λ w. bytes_eq w (codes "report") ≡ false) (sym is.0) refl
postable-word word rest (DeleteCell cell) may is = subst (λ w. bytes_eq w (codes "report") ≡ false) (sym is.0) refl
postable-word word rest (RestoreCell cell section index) may is = subst (λ w. bytes_eq w (codes "report") ≡ false) (sym is.0) refl
postable-word word rest (MoveCell cell section index) may is = subst (λ w. bytes_eq w (codes "report") ≡ false) (sym is.0) refl
postable-word word rest (Delta cell base delta) may is = absurd (cc)
postable-word word rest (Report cell rev) may is = absurd (cc)
postable-word word rest (Queue cell) may is = subst (λ w. bytes_eq w (codes "report") ≡ false) (sym is.0) refl
postable-word word rest (Cancel cell) may is = subst (λ w. bytes_eq w (codes "report") ≡ false) (sym is.0) refl
