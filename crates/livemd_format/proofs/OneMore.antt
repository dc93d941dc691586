-- What items make where one more stands at their end.
use Rattle.std.proofs.Common.{◌≡◌, ℕ, ◌+◌, ◌-◌, suc, Bool, true, false, not, ◌||◌, cond, List, [], ◌∷◌, ◌++◌, Option, Some, None, length, drop, filter_map, option_to_list, unwrap_or, refl, sym, ap, ◌∙◌, arith, append_assoc, append-nil, length-append, codes}
use Rattle.std.specs.List.{after_last, before_first, cons_option, fold, last_or, list_any, prefix_len, suffix_len}
use Rattle.std.specs.Str.{chars}
use Rattle.std.proofs.lemmas.List.{drop-append-le, drop_all, reverse-append}
use Rattle.std.proofs.lemmas.List.Elements.{filter_map-append}
use Rattle.std.proofs.lemmas.List.Folds.{list_any-append}
use Rattle.std.proofs.lemmas.List.Sums.{fold-append, suffix_len-le-length, take_while-cons}
use Rattle.notebook.specs.declared.parts.Cell.{Cell}
use Rattle.notebook.specs.declared.parts.Saved.{Saved}
use Rattle.notebook.specs.declared.parts.Kind.{Kind}
use Rattle.notebook.specs.declared.parts.Kind.TheVariants as cell
use Rattle.blanks.specs.Blanks.{is_empty}
use Rattle.livemd_format.specs.Items as item
use Rattle.livemd_format.specs.Items.{Item}
use Rattle.livemd_format.specs.Made.{LinedText, Stretch, cell_at, cell_between, cells_in, end_of, first_section, front, is_cell, last_text, lined, made, made_behind, name_at, name_of, notice_at, outputs, saved_output, sections_of, setup_at, setup_source, stretch_at, takes_lines, with_stretch}
use Rattle.livemd_format.specs.Settled.{is_section}
use Rattle.livemd_format.specs.Tidy.{numbered}
use Rattle.livemd_format.specs.Walk.{add_output, on_last}
use Rattle.livemd_format.proofs.TidyBooks.{length-numbered}

-- ---- behind the last that passes

suffix_more : {X : Type 0} (q : X → Bool) (xs : List X) (x : X) → suffix_len q (xs ++ x ∷ []) ≡ cond (q x) (1 + suffix_len q xs) 0
suffix_more q xs x = ap (prefix_len q) (reverse-append xs (x ∷ []))

after_last_by : {X : Type 0} (p : X → Bool) (xs : List X) (x : X) (b : Bool) → p x ≡ b → after_last p (xs ++ x ∷ []) ≡ cond b [] (after_last p xs ++ x ∷ [])
after_last_by p xs x true e =
    let none : suffix_len (λ y. not (p y)) (xs ++ x ∷ []) ≡ 0 = suffix_more (λ y. not (p y)) xs x ∙ ap (λ b. cond (not b) (1 + suffix_len (λ y. not (p y)) xs) 0) e in
    drop_all (length (xs ++ x ∷ []) - suffix_len (λ y. not (p y)) (xs ++ x ∷ [])) (xs ++ x ∷ []) (omega (arith, none))
after_last_by p xs x false e =
    let more : suffix_len (λ y. not (p y)) (xs ++ x ∷ []) ≡ 1 + suffix_len (λ y. not (p y)) xs = suffix_more (λ y. not (p y)) xs x ∙ ap (λ b. cond (not b) (1 + suffix_len (λ y. not (p y)) xs) 0) e in
    let at : length (xs ++ x ∷ []) - suffix_len (λ y. not (p y)) (xs ++ x ∷ []) ≡ length xs - suffix_len (λ y. not (p y)) xs =
    omega (arith, more, length-append xs (x ∷ []), suffix_len-le-length (λ y. not (p y)) xs) in
    ap (λ n. drop n (xs ++ x ∷ [])) at ∙ drop-append-le (length xs - suffix_len (λ y. not (p y)) xs) xs (x ∷ []) (omega arith)

after_last_more : {X : Type 0} (p : X → Bool) (xs : List X) (x : X) → after_last p (xs ++ x ∷ []) ≡ cond (p x) [] (after_last p xs ++ x ∷ [])
after_last_more p xs x = after_last_by p xs x (p x) refl

after_last_grown : {X : Type 0} (p : X → Bool) (us zs ys : List X) → after_last p us ≡ after_last p zs → after_last p (us ++ ys) ≡ after_last p (zs ++ ys)
after_last_grown p us zs [] e = ap (after_last p) (append-nil us) ∙ (e ∙ ap (after_last p) (sym (append-nil zs)))
after_last_grown p us zs (y ∷ ys) e =
    let on : after_last p (us ++ y ∷ []) ≡ after_last p (zs ++ y ∷ []) = after_last_more p us y ∙ (ap (λ w. cond (p y) [] (w ++ y ∷ [])) e ∙ sym (after_last_more p zs y)) in
    ap (after_last p) (sym (append_assoc us (y ∷ []) ys)) ∙ (after_last_grown p (us ++ y ∷ []) (zs ++ y ∷ []) ys on ∙ ap (after_last p) (append_assoc zs (y ∷ []) ys))

after_last_at : {X : Type 0} (p : X → Bool) (xs : List X) (x : X) (ys : List X) → p x ≡ true → after_last p (xs ++ x ∷ ys) ≡ after_last p ys
after_last_at p xs x ys e = ap (after_last p) (sym (append_assoc xs (x ∷ []) ys)) ∙ after_last_grown p (xs ++ x ∷ []) [] ys (after_last_by p xs x true e)

-- ---- before the first that passes

not_turns : {X : Type 0} (b : Bool) (xs ys : List X) → cond (not b) xs ys ≡ cond b ys xs
not_turns true xs ys = refl
not_turns false xs ys = refl

before_first-cons : {X : Type 0} (p : X → Bool) (x : X) (xs : List X) → before_first p (x ∷ xs) ≡ cond (p x) [] (x ∷ before_first p xs)
before_first-cons p x xs = take_while-cons (λ y. not (p y)) x xs ∙ not_turns (p x) (x ∷ before_first p xs) []

first_or_later : {X : Type 0} (b c : Bool) (x : X) (us vs ws : List X) → us ≡ cond c vs ws → cond b [] (x ∷ us) ≡ cond (b || c) (cond b [] (x ∷ vs)) (x ∷ ws)
first_or_later true c x us vs ws e = refl
first_or_later false true x us vs ws e = ap (λ w. x ∷ w) e
first_or_later false false x us vs ws e = ap (λ w. x ∷ w) e

before_first-append : {X : Type 0} (p : X → Bool) (xs ys : List X) → before_first p (xs ++ ys) ≡ cond (list_any p xs) (before_first p xs) (xs ++ before_first p ys)
before_first-append p [] ys = refl
before_first-append p (x ∷ xs) ys =
    before_first-cons p x (xs ++ ys)
    ∙ (first_or_later (p x) (list_any p xs) x (before_first p (xs ++ ys)) (before_first p xs) (xs ++ before_first p ys) (before_first-append p xs ys)
    ∙ ap (λ w. cond (p x || list_any p xs) w (x ∷ (xs ++ before_first p ys))) (sym (before_first-cons p x xs)))

none_before : {X : Type 0} (p : X → Bool) (xs : List X) → list_any p xs ≡ false → before_first p xs ≡ xs
none_before p xs h = ap (before_first p) (sym (append-nil xs)) ∙ (before_first-append p xs [] ∙ (ap (λ b. cond b (before_first p xs) (xs ++ [])) h ∙ append-nil xs))

before_first_cut : {X : Type 0} (p : X → Bool) (xs : List X) (x : X) (ys : List X) → p x ≡ true → before_first p (xs ++ x ∷ ys) ≡ before_first p xs
before_first_cut p xs x ys h =
    before_first-append p xs (x ∷ ys)
    ∙ (ap (λ w. cond (list_any p xs) (before_first p xs) (xs ++ w)) (before_first-cons p x ys ∙ ap (λ b. cond b [] (x ∷ before_first p ys)) h)
    ∙ (sym (before_first-append p xs []) ∙ ap (before_first p) (append-nil xs)))

before_first_more : {X : Type 0} (p : X → Bool) (xs : List X) (x : X) → before_first p (xs ++ x ∷ []) ≡ cond (list_any p xs) (before_first p xs) (xs ++ cond (p x) [] (x ∷ []))
before_first_more p xs x = before_first-append p xs (x ∷ []) ∙ ap (λ w. cond (list_any p xs) (before_first p xs) (xs ++ w)) (before_first-cons p x [])

neither : (a b : Bool) → a ≡ false → b ≡ false → (a || (b || false)) ≡ false
neither true b h k = absurd cc
neither false true h k = absurd cc
neither false false h k = refl

pub none_more : {X : Type 0} (p : X → Bool) (xs : List X) (x : X) → list_any p xs ≡ false → p x ≡ false → list_any p (xs ++ x ∷ []) ≡ false
none_more p xs x h k = list_any-append p xs (x ∷ []) ∙ neither (list_any p xs) (p x) h k

-- ---- what items tell

cons_to_list : {X : Type 0} (o : Option X) → cons_option o [] ≡ option_to_list o
cons_to_list None = refl
cons_to_list (Some x) = refl

pub filter_map_more : {X Y : Type 0} (h : X → Option Y) (xs : List X) (x : X) → filter_map h (xs ++ x ∷ []) ≡ filter_map h xs ++ option_to_list (h x)
filter_map_more h xs x = filter_map-append h xs (x ∷ []) ∙ ap (λ ys. filter_map h xs ++ ys) (cons_to_list (h x))

pub last_or_more : {X : Type 0} (o : Option X) (xs : List X) (x : X) → last_or o (xs ++ x ∷ []) ≡ Some x
last_or_more o [] x = refl
last_or_more o (y ∷ xs) x = last_or_more (Some y) xs x

-- ---- lines at the end

pub at_end_more : {X : Type 0} (h : Item → Option X) (is : List Item) (i : Item) → filter_map h (end_of (is ++ i ∷ [])) ≡ cond (takes_lines i) [] (filter_map h (end_of is) ++ option_to_list (h i))
at_end_more h is i =
    ap (filter_map h) (after_last_more takes_lines is i)
    ∙ (elim (takes_lines i)
    as (λ b. filter_map h (cond b [] (end_of is ++ i ∷ [])) ≡ cond b [] (filter_map h (end_of is) ++ option_to_list (h i)))
    [ true ↦ refl | false ↦ filter_map_more h (end_of is) i ])

-- an item that takes lines, one that doesn't and tells nothing, and one that doesn't and tells something
pub end_taken : {X : Type 0} (h : Item → Option X) (is : List Item) (i : Item) → takes_lines i ≡ true → filter_map h (end_of (is ++ i ∷ [])) ≡ []
end_taken h is i e = at_end_more h is i ∙ ap (λ b. cond b [] (filter_map h (end_of is) ++ option_to_list (h i))) e

pub end_told : {X : Type 0} (h : Item → Option X) (is : List Item) (i : Item) (x : X) → takes_lines i ≡ false → h i ≡ Some x → filter_map h (end_of (is ++ i ∷ [])) ≡ filter_map h (end_of is) ++ x ∷ []
end_told h is i x e f = at_end_more h is i ∙ (ap (λ b. cond b [] (filter_map h (end_of is) ++ option_to_list (h i))) e ∙ ap (λ o. filter_map h (end_of is) ++ option_to_list o) f)

pub end_same : {X : Type 0} (h : Item → Option X) (is : List Item) (i : Item) → takes_lines i ≡ false → h i ≡ None → filter_map h (end_of (is ++ i ∷ [])) ≡ filter_map h (end_of is)
end_same h is i e f =
    at_end_more h is i
    ∙ (ap (λ b. cond b [] (filter_map h (end_of is) ++ option_to_list (h i))) e
    ∙ (ap (λ o. filter_map h (end_of is) ++ option_to_list o) f ∙ append-nil (filter_map h (end_of is))))

pub at_end_behind : {X : Type 0} (h : Item → Option X) (is : List Item) (name : List ℕ) (done : List Item) → filter_map h (end_of (is ++ item.Section name ∷ done)) ≡ filter_map h (end_of done)
at_end_behind h is name done = ap (filter_map h) (after_last_at takes_lines is (item.Section name) done refl)

-- ---- what doesn't look behind

made_more : {X : Type 0} (make : List Item → Item → List Item → Option X) → ((b : List Item) (i : Item) (xs ys : List Item) → make b i xs ≡ make b i ys) → (before is : List Item) (i : Item)
    → made_behind make before (is ++ i ∷ []) ≡ made_behind make before is ++ option_to_list (make (before ++ is) i [])
made_more make alike before [] i = append-nil (option_to_list (make before i [])) ∙ ap (λ b. option_to_list (make b i [])) (sym (append-nil before))
made_more make alike before (j ∷ is) i =
    let here : List Item = before ++ j ∷ [] in
    ap (λ o. option_to_list o ++ made_behind make here (is ++ i ∷ [])) (alike before j (is ++ i ∷ []) is)
    ∙ (ap (λ ys. option_to_list (make before j is) ++ ys) (made_more make alike here is i ∙ ap (λ b. made_behind make here is ++ option_to_list (make b i [])) (append_assoc before (j ∷ []) is))
    ∙ sym (append_assoc (option_to_list (make before j is)) (made_behind make here is) (option_to_list (make (before ++ j ∷ is) i []))))

text_same : (make : List Item → Item → List Item → Option LinedText) → ((b : List Item) (i : Item) (xs ys : List Item) → make b i xs ≡ make b i ys) → (otherwise : List ℕ) (is : List Item) (i : Item) → make is i [] ≡ None
    → last_text otherwise (made make (is ++ i ∷ [])) ≡ last_text otherwise (made make is)
text_same make alike otherwise is i e = ap (last_text otherwise) (made_more make alike [] is i ∙ (ap (λ o. made make is ++ option_to_list o) e ∙ append-nil (made make is)))

text_told : (make : List Item → Item → List Item → Option LinedText) → ((b : List Item) (i : Item) (xs ys : List Item) → make b i xs ≡ make b i ys) → (otherwise : List ℕ) (is : List Item) (i : Item) (t : LinedText) → make is i [] ≡ Some t
    → last_text otherwise (made make (is ++ i ∷ [])) ≡ t
text_told make alike otherwise is i t e =
    ap (last_text otherwise) (made_more make alike [] is i ∙ ap (λ o. made make is ++ option_to_list o) e)
    ∙ ap (λ o. unwrap_or o (record { lines = []; text = otherwise })) (last_or_more None (made make is) t)

name_alike : (b : List Item) (i : Item) (xs ys : List Item) → name_at b i xs ≡ name_at b i ys
name_alike b (item.Name text) xs ys = refl
name_alike b other xs ys = refl

setup_alike : (b : List Item) (i : Item) (xs ys : List Item) → setup_at b i xs ≡ setup_at b i ys
setup_alike b (item.Setup source) xs ys = refl
setup_alike b other xs ys = refl

notice_alike : (b : List Item) (i : Item) (xs ys : List Item) → notice_at b i xs ≡ notice_at b i ys
notice_alike b (item.Branch number index) xs ys = refl
notice_alike b (item.Misplaced number) xs ys = refl
notice_alike b other xs ys = refl

pub name_same : (is : List Item) (i : Item) → name_at is i [] ≡ None → name_of (is ++ i ∷ []) ≡ name_of is
name_same is i e = text_same name_at name_alike (codes "Untitled notebook") is i e

pub name_told : (is : List Item) (text : List ℕ) → name_of (is ++ item.Name text ∷ []) ≡ lined is text
name_told is text = text_told name_at name_alike (codes "Untitled notebook") is (item.Name text) (lined is text) refl

pub setup_same : (is : List Item) (i : Item) → setup_at is i [] ≡ None → setup_source (is ++ i ∷ []) ≡ setup_source is
setup_same is i e = text_same setup_at setup_alike [] is i e

pub setup_told : (is : List Item) (source : List ℕ) → setup_source (is ++ item.Setup source ∷ []) ≡ lined is source
setup_told is source = text_told setup_at setup_alike [] is (item.Setup source) (lined is source) refl

pub notices_more : (is : List Item) (i : Item) → made notice_at (is ++ i ∷ []) ≡ made notice_at is ++ option_to_list (notice_at is i [])
notices_more is i = made_more notice_at notice_alike [] is i

pub notices_same : (is : List Item) (i : Item) → notice_at is i [] ≡ None → made notice_at (is ++ i ∷ []) ≡ made notice_at is
notices_same is i e = notices_more is i ∙ (ap (λ o. made notice_at is ++ option_to_list o) e ∙ append-nil (made notice_at is))

-- ---- saved outputs

-- the outputs that an item adds
abbrev told : Item → List Saved
told i = option_to_list (saved_output i)

one_output : (i : Item) → filter_map saved_output (cond (is_cell i) [] (i ∷ [])) ≡ told i
one_output (item.Saved info text) = refl
one_output (item.Code source) = refl
one_output (item.Markdown source) = refl
one_output other = refl

outputs_more : (is : List Item) (i : Item) → outputs (is ++ i ∷ []) ≡ cond (list_any is_cell is) (outputs is) (outputs is ++ told i)
outputs_more is i = ap (filter_map saved_output) (before_first_more is_cell is i) ∙ at (list_any is_cell is) refl where
  at : (b : Bool) → list_any is_cell is ≡ b → filter_map saved_output (cond b (before_first is_cell is) (is ++ cond (is_cell i) [] (i ∷ []))) ≡ cond b (outputs is) (outputs is ++ told i)
  at true e = refl
  at false e =
      filter_map-append saved_output is (cond (is_cell i) [] (i ∷ []))
      ∙ (ap (λ ys. filter_map saved_output is ++ ys) (one_output i) ∙ ap (λ xs. filter_map saved_output xs ++ told i) (sym (none_before is_cell is e)))

-- where no cell stands before them
pub outputs_told : (is : List Item) (i : Item) → list_any is_cell is ≡ false → outputs (is ++ i ∷ []) ≡ outputs is ++ told i
outputs_told is i h = outputs_more is i ∙ ap (λ b. cond b (outputs is) (outputs is ++ told i)) h

-- where a cell does
pub outputs_same : (is : List Item) (i : Item) → list_any is_cell is ≡ true → outputs (is ++ i ∷ []) ≡ outputs is
outputs_same is i h = outputs_more is i ∙ ap (λ b. cond b (outputs is) (outputs is ++ told i)) h

-- ---- cells

abbrev pub add_outputs : List Saved → Cell → Cell
add_outputs os c = record c { saved = c.saved ++ os }

no_outputs : (cs : List Cell) → on_last (add_outputs []) cs ≡ cs
no_outputs [] = refl
no_outputs (c ∷ []) = ap (λ os. record c { saved = os } ∷ []) (append-nil c.saved)
no_outputs (c ∷ d ∷ cs) = ap (λ ds. c ∷ ds) (no_outputs (d ∷ cs))

cells_found : (before is : List Item) → is_empty (made_behind cell_at before is) ≡ not (list_any is_cell is)
cells_found before [] = refl
cells_found before (item.Code source ∷ is) = refl
cells_found before (item.Markdown source ∷ is) = refl
cells_found before (i ∷ is) = cells_found (before ++ i ∷ []) is

on_last-cons : {X : Type 0} (f : X → X) (x : X) (xs : List X) → on_last f (x ∷ xs) ≡ cond (is_empty xs) (f x) x ∷ on_last f xs
on_last-cons f x [] = refl
on_last-cons f x (y ∷ xs) = refl

either_way : {X Y : Type 0} (f : X → Y) (b : Bool) (x y : X) → f (cond b x y) ≡ cond (not b) (f y) (f x)
either_way f true x y = refl
either_way f false x y = refl

first_cell : (kind : Kind) (source : List ℕ) (before here is : List Item) (i : Item) (rest : List Cell)
    → made_behind cell_at here (is ++ i ∷ []) ≡ on_last (add_outputs (told i)) (made_behind cell_at here is) ++ rest
    → cell_between kind source before (is ++ i ∷ []) ∷ made_behind cell_at here (is ++ i ∷ []) ≡ on_last (add_outputs (told i)) (cell_between kind source before is ∷ made_behind cell_at here is) ++ rest
first_cell kind source before here is i rest e =
    let c : Cell = cell_between kind source before is in
    let d : Cell = add_outputs (told i) c in
    let cs : List Cell = made_behind cell_at here is in
    let own : cell_between kind source before (is ++ i ∷ []) ≡ cond (is_empty cs) d c =
    ap (λ os. record c { saved = os }) (outputs_more is i)
    ∙ (either_way (λ os. record c { saved = os }) (list_any is_cell is) (outputs is) (outputs is ++ told i) ∙ ap (λ b. cond b d c) (sym (cells_found here is))) in
    ap (λ x. x ∷ made_behind cell_at here (is ++ i ∷ [])) own
    ∙ (ap (λ xs. cond (is_empty cs) d c ∷ xs) e
    ∙ ap (λ xs. xs ++ rest) (sym (on_last-cons (add_outputs (told i)) c cs)))

cells_made : (before is : List Item) (i : Item) → made_behind cell_at before (is ++ i ∷ []) ≡ on_last (add_outputs (told i)) (made_behind cell_at before is) ++ option_to_list (cell_at (before ++ is) i [])
cells_made before [] i = append-nil (option_to_list (cell_at before i [])) ∙ ap (λ b. option_to_list (cell_at b i [])) (sym (append-nil before))
cells_made before (item.Code source ∷ is) i =
    let here : List Item = before ++ item.Code source ∷ [] in
    first_cell cell.Code source before here is i (option_to_list (cell_at (before ++ item.Code source ∷ is) i []))
    (cells_made here is i ∙ ap (λ b. on_last (add_outputs (told i)) (made_behind cell_at here is) ++ option_to_list (cell_at b i [])) (append_assoc before (item.Code source ∷ []) is))
cells_made before (item.Markdown source ∷ is) i =
    let here : List Item = before ++ item.Markdown source ∷ [] in
    first_cell cell.Markdown source before here is i (option_to_list (cell_at (before ++ item.Markdown source ∷ is) i []))
    (cells_made here is i ∙ ap (λ b. on_last (add_outputs (told i)) (made_behind cell_at here is) ++ option_to_list (cell_at b i [])) (append_assoc before (item.Markdown source ∷ []) is))
cells_made before (j ∷ is) i =
    cells_made (before ++ j ∷ []) is i ∙ ap (λ b. on_last (add_outputs (told i)) (made_behind cell_at (before ++ j ∷ []) is) ++ option_to_list (cell_at b i [])) (append_assoc before (j ∷ []) is)

numbered-append : (next : ℕ) (cs ds : List Cell) → numbered next (cs ++ ds) ≡ numbered next cs ++ numbered (next + length cs) ds
numbered-append next [] ds = let z : next ≡ next + 0 = omega arith in ap (λ k. numbered k ds) z
numbered-append next (c ∷ cs) ds =
    let z : suc next + length cs ≡ next + length (c ∷ cs) = omega arith in
    ap (λ w. record c { id = next } ∷ w) (numbered-append (suc next) cs ds ∙ ap (λ k. numbered (suc next) cs ++ numbered k ds) z)

numbered-on_last : (next : ℕ) (os : List Saved) (cs : List Cell) → numbered next (on_last (add_outputs os) cs) ≡ on_last (add_outputs os) (numbered next cs)
numbered-on_last next os [] = refl
numbered-on_last next os (c ∷ []) = refl
numbered-on_last next os (c ∷ d ∷ cs) = ap (λ w. record c { id = next } ∷ w) (numbered-on_last (suc next) os (d ∷ cs))

-- whether there are cells
pub cells_there : (next : ℕ) (is : List Item) → is_empty (cells_in next is) ≡ not (list_any is_cell is)
cells_there next is = at (made cell_at is) ∙ cells_found [] is where
  at : (cs : List Cell) → is_empty (numbered next cs) ≡ is_empty cs
  at [] = refl
  at (c ∷ cs) = refl

pub length-on_last : {X : Type 0} (f : X → X) (xs : List X) → length (on_last f xs) ≡ length xs
length-on_last f [] = refl
length-on_last f (x ∷ []) = refl
length-on_last f (x ∷ y ∷ xs) = ap (λ n. suc n) (length-on_last f (y ∷ xs))

-- the number behind the cells of items
abbrev pub next_in : ℕ → List Item → ℕ
next_in next is = next + length (cells_in next is)

cells_more : (next : ℕ) (is : List Item) (i : Item) → cells_in next (is ++ i ∷ []) ≡ on_last (add_outputs (told i)) (cells_in next is) ++ numbered (next_in next is) (option_to_list (cell_at is i []))
cells_more next is i =
    let cs : List Cell = made cell_at is in
    let last : List Cell = option_to_list (cell_at is i []) in
    let count : length (on_last (add_outputs (told i)) cs) ≡ length (numbered next cs) = length-on_last (add_outputs (told i)) cs ∙ sym (length-numbered next cs) in
    ap (numbered next) (cells_made [] is i)
    ∙ (numbered-append next (on_last (add_outputs (told i)) cs) last
    ∙ (ap (λ xs. xs ++ numbered (next + length (on_last (add_outputs (told i)) cs)) last) (numbered-on_last next (told i) cs)
    ∙ ap (λ n. on_last (add_outputs (told i)) (numbered next cs) ++ numbered (next + n) last) count))

cells_by : (next : ℕ) (is : List Item) (i : Item) (o : Option Saved) (c : Option Cell) → saved_output i ≡ o → cell_at is i [] ≡ c
    → cells_in next (is ++ i ∷ []) ≡ on_last (add_outputs (option_to_list o)) (cells_in next is) ++ numbered (next_in next is) (option_to_list c)
cells_by next is i o c e f =
    cells_more next is i
    ∙ (ap (λ p. on_last (add_outputs (option_to_list p)) (cells_in next is) ++ numbered (next_in next is) (option_to_list (cell_at is i []))) e
    ∙ ap (λ d. on_last (add_outputs (option_to_list o)) (cells_in next is) ++ numbered (next_in next is) (option_to_list d)) f)

-- an item that is neither a cell nor an output
pub cells_same : (next : ℕ) (is : List Item) (i : Item) → saved_output i ≡ None → cell_at is i [] ≡ None → cells_in next (is ++ i ∷ []) ≡ cells_in next is
cells_same next is i e f = cells_by next is i None None e f ∙ (append-nil (on_last (add_outputs []) (cells_in next is)) ∙ no_outputs (cells_in next is))

-- a cell
pub cells_added : (next : ℕ) (is : List Item) (i : Item) (c : Cell) → saved_output i ≡ None → cell_at is i [] ≡ Some c → cells_in next (is ++ i ∷ []) ≡ cells_in next is ++ record c { id = next_in next is } ∷ []
cells_added next is i c e f = cells_by next is i None (Some c) e f ∙ ap (λ cs. cs ++ record c { id = next_in next is } ∷ []) (no_outputs (cells_in next is))

-- an output
pub cells_output : (next : ℕ) (is : List Item) (info text : List ℕ) → cells_in next (is ++ item.Saved info text ∷ []) ≡ on_last (add_output (record { info = chars info; text = chars text })) (cells_in next is)
cells_output next is info text = cells_more next is (item.Saved info text) ∙ append-nil (on_last (add_output (record { info = chars info; text = chars text })) (cells_in next is))

-- ---- sections

pub no_front_more : (is : List Item) (name : List ℕ) (done : List Item) → front (is ++ item.Section name ∷ done) ≡ front is
no_front_more is name done = before_first_cut is_section is (item.Section name) done refl

pub all_front : (is : List Item) → list_any is_section is ≡ false → front is ≡ is
all_front is h = none_before is_section is h

no_stretch : (before is : List Item) → list_any is_section is ≡ false → made_behind stretch_at before is ≡ []
no_stretch before [] h = refl
no_stretch before (item.Section name ∷ is) h = absurd cc
no_stretch before (i ∷ is) h = no_stretch (before ++ i ∷ []) is h

abbrev pub stretch : List ℕ → List Item → List Item → Stretch
stretch name before items = record { name = name; before = before; items = items }

stretches_cut : (before is : List Item) (name : List ℕ) (done : List Item) → list_any is_section done ≡ false
    → made_behind stretch_at before (is ++ item.Section name ∷ done) ≡ made_behind stretch_at before is ++ stretch name (before ++ is) done ∷ []
stretches_cut before [] name done h =
    ap (λ xs. stretch name before xs ∷ made_behind stretch_at (before ++ item.Section name ∷ []) done) (all_front done h)
    ∙ (ap (λ ys. stretch name before done ∷ ys) (no_stretch (before ++ item.Section name ∷ []) done h) ∙ ap (λ b. stretch name b done ∷ []) (sym (append-nil before)))
stretches_cut before (item.Section other ∷ is) name done h =
    let here : List Item = before ++ item.Section other ∷ [] in
    ap (λ xs. stretch other before xs ∷ made_behind stretch_at here (is ++ item.Section name ∷ done)) (no_front_more is name done)
    ∙ ap (λ ys. stretch other before (front is) ∷ ys) (stretches_cut here is name done h ∙ ap (λ b. made_behind stretch_at here is ++ stretch name b done ∷ []) (append_assoc before (item.Section other ∷ []) is))
stretches_cut before (j ∷ is) name done h =
    stretches_cut (before ++ j ∷ []) is name done h ∙ ap (λ b. made_behind stretch_at (before ++ j ∷ []) is ++ stretch name b done ∷ []) (append_assoc before (j ∷ []) is)

-- the last section, and those before it
pub sections_cut : (is : List Item) (name : List ℕ) (done : List Item) → list_any is_section done ≡ false → sections_of (is ++ item.Section name ∷ done) ≡ with_stretch (sections_of is) (stretch name is done)
sections_cut is name done h =
    ap (λ xs. fold with_stretch (first_section (cells_in 1 xs)) (made stretch_at (is ++ item.Section name ∷ done))) (no_front_more is name done)
    ∙ (ap (λ ss. fold with_stretch (first_section (cells_in 1 (front is))) ss) (stretches_cut [] is name done h)
    ∙ fold-append with_stretch (first_section (cells_in 1 (front is))) (made stretch_at is) (stretch name is done ∷ []))

-- no section item
pub sections_front : (is : List Item) → list_any is_section is ≡ false → sections_of is ≡ first_section (cells_in 1 is)
sections_front is h =
    ap (λ xs. fold with_stretch (first_section (cells_in 1 xs)) (made stretch_at is)) (all_front is h)
    ∙ ap (λ ss. fold with_stretch (first_section (cells_in 1 is)) ss) (no_stretch [] is h)
