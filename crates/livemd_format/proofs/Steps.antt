-- One block of a written book, cut into items again.
use Rattle.std.proofs.Common.{◌≡◌, ◌⊎◌, inl, inr, ℕ, ◌≤◌, suc, zero, Bool, true, false, cond, List, [], ◌∷◌, ◌++◌, Option, Some, None, codes, map, refl, sym, ap, ◌∙◌, arith}
use Rattle.std.specs.Prelude.{not}
use Rattle.std.specs.List.{AllByRecursion}
use Rattle.std.proofs.lemmas.List.{append-nil}
use Rattle.livemd_lines.specs.declared.fences.Fence.{Fence}
use Rattle.livemd_lines.specs.declared.fences.Mark.TheVariants.{Backtick}
use Rattle.livemd_lines.specs.declared.metadata.Metadata.TheVariants as metadata
use Rattle.blanks.specs.Blanks.{drop_end, is_blank}
use Rattle.livemd_lines.specs.Lines.{joined}
use Rattle.livemd_lines.specs.Kinds.{Kind, Opens, Inside, Closes, Meta, Heading1, Heading2, Plain, Kinded, is_closing, kind_in, kind_of, kinded, kinds_in, open_after}
use Rattle.livemd_lines.specs.Written.{IsInfo, open_behind, ticks}
use Rattle.livemd_lines.proofs.Stretches.{inside, kinds_in-fenced}
use Rattle.livemd_format.specs.Items.{Cut, Item, Markdown, Saved, after_code, at_name, code_item, content, content_lines, cut, cut_by, forced_at, is_code, is_force, items, markdown_at, markdown_of, may_stand, one_line, stretch, stretch_lines}
use Rattle.livemd_format.specs.Tidy.{pieces}
use Rattle.livemd_format.specs.Write.{Block, fence_block, fence_len, force_line, forced_lines, line_block, needs_force, output_line}
use Rattle.livemd_format.proofs.LineKinds.{blank_plain, force_is, metadata_kind, output_is}
use Rattle.blanks.proofs.Trims.{drop_end-gone}
use Rattle.livemd_format.proofs.Trimming.{joined-pieces, short_pieces}

-- the lines of blocks, each block behind an empty line, with their kinds
abbrev pub more_blocks : List Block → List (List ℕ)
more_blocks [] = []
more_blocks (b ∷ bs) = [] ∷ (b ++ more_blocks bs)

abbrev pub kinds_behind : List Block → List Kinded
kinds_behind bs = kinds_in None (more_blocks bs)

-- what is read to here is read on from there, with some number
abbrev pub ReadsOn : List Item → List Item → List Kinded → Type 0
ReadsOn is done rest = (k : ℕ) × (is ≡ items done k zero rest)

pub reads_as : (is js done : List Item) (rest : List Kinded) → is ≡ js → ReadsOn js done rest → ReadsOn is done rest
reads_as is js done rest e r = (r.0, e ∙ r.1)

pub reads_to : (is done more : List Item) (rest : List Kinded) → done ≡ more → ReadsOn is done rest → ReadsOn is more rest
reads_to is done more rest e r = (r.0, r.1 ∙ ap (λ d. items d r.0 zero rest) e)

-- the item of a line that isn't blank
cut_step : (done : List Item) (number : ℕ) (l : Kinded) (ls : List Kinded) (c : Cut) → is_blank l.text ≡ false → cut done number l ls ≡ c → items done number zero (l ∷ ls) ≡ items (done ++ c.item ∷ []) (suc number) c.more ls
cut_step done number l ls c b e =
    ap (λ (v : Bool). cond v (items done (suc number) zero ls) (items (done ++ (cut done number l ls).item ∷ []) (suc number) (cut done number l ls).more ls)) b
    ∙ ap (λ d. items (done ++ d.item ∷ []) (suc number) d.more ls) e

line_shape : (l : List ℕ) (k : Kind) (bs : List Block) → kind_of l ≡ k → open_after None k ≡ None → kinds_in None (l ∷ more_blocks bs) ≡ record { kind = k; text = l } ∷ kinds_behind bs
line_shape l k bs e o = ap (λ w. record { kind = w; text = l } ∷ kinds_in (open_after None w) (more_blocks bs)) e ∙ ap (λ w. record { kind = k; text = l } ∷ kinds_in w (more_blocks bs)) o

-- ---- a block of one line that is an item by itself

pub line_read : (done : List Item) (l : List ℕ) (k : Kind) (item : ℕ → Item) (bs : List Block) (number : ℕ) → is_blank l ≡ false → kind_of l ≡ k → open_after None k ≡ None → ((n : ℕ) (rest : List Kinded) → cut_by k done n (record { kind = k; text = l }) rest ≡ one_line (item n))
    → items done number zero (kinds_behind (line_block l ∷ bs)) ≡ items (done ++ item (suc number) ∷ []) (suc (suc number)) zero (kinds_behind bs)
line_read done l k item bs number b e o h =
    ap (items done (suc number) zero) (line_shape l k bs e o)
    ∙ cut_step done (suc number) (record { kind = k; text = l }) (kinds_behind bs) (one_line (item (suc number))) b (h (suc number) (kinds_behind bs))

-- ---- fences

abbrev closing : ℕ → Kinded
closing n = record { kind = Closes; text = ticks n }

abbrev opening : ℕ → List ℕ → Kinded
opening n info = record { kind = Opens (record { mark = Backtick; count = n }) info; text = ticks n ++ info }

skip_content : (done : List Item) (number : ℕ) (ls : List (List ℕ)) (n : ℕ) (rest : List Kinded) → ReadsOn (items done number (content_lines (map inside ls ++ closing n ∷ rest)) (map inside ls ++ closing n ∷ rest)) done rest
skip_content done number [] n rest = (suc number, refl)
skip_content done number (l ∷ ls) n rest = skip_content done (suc number) ls n rest

content-inside : (ls : List (List ℕ)) (n : ℕ) (rest : List Kinded) → content (map inside ls ++ closing n ∷ rest) ≡ ls
content-inside [] n rest = refl
content-inside (l ∷ ls) n rest = ap (λ w. l ∷ w) (content-inside ls n rest)

pub three_ticks : (text : List ℕ) → 3 ≤ fence_len text
three_ticks text = omega arith

ticks_text : (n : ℕ) (info : List ℕ) → 3 ≤ n → is_blank (ticks n ++ info) ≡ false
ticks_text zero info h = absurd (omega arith)
ticks_text (suc n) info h = refl

pub elixir_info : IsInfo (codes "elixir")
elixir_info = record { none = refl; trim = refl }

fence_shape : (info text : List ℕ) (bs : List Block) → IsInfo info → kinds_in None (fence_block info text ++ more_blocks bs) ≡ opening (fence_len text) info ∷ map inside (pieces text) ++ closing (fence_len text) ∷ kinds_behind bs
fence_shape info text bs i = kinds_in-fenced (fence_len text) info (pieces text) (more_blocks bs) (three_ticks text) i (short_pieces text)

code_cut : (done : List Item) (number n : ℕ) (ls : List (List ℕ)) (rest : List Kinded) → 3 ≤ n
    → ReadsOn (items done number zero (opening n (codes "elixir") ∷ map inside ls ++ closing n ∷ rest)) (done ++ code_item done (joined ls) ∷ []) rest
code_cut done number n ls rest le =
    let tail : List Kinded = map inside ls ++ closing n ∷ rest in
    reads_to _ (done ++ code_item done (joined (content tail)) ∷ []) (done ++ code_item done (joined ls) ∷ []) rest (ap (λ w. done ++ code_item done (joined w) ∷ []) (content-inside ls n rest))
    (reads_as _ _ (done ++ code_item done (joined (content tail)) ∷ []) rest (cut_step done number (opening n (codes "elixir")) tail (record { item = code_item done (joined (content tail)); more = content_lines tail }) (ticks_text n (codes "elixir") le) refl) (skip_content (done ++ code_item done (joined (content tail)) ∷ []) (suc number) ls n rest))

pub code_read : (done : List Item) (text : List ℕ) (bs : List Block) (number : ℕ) → ReadsOn (items done number zero (kinds_behind (fence_block (codes "elixir") text ∷ bs))) (done ++ code_item done text ∷ []) (kinds_behind bs)
code_read done text bs number =
    reads_as _ _ (done ++ code_item done text ∷ []) (kinds_behind bs) (ap (items done (suc number) zero) (fence_shape (codes "elixir") text bs elixir_info))
    (reads_to _ (done ++ code_item done (joined (pieces text)) ∷ []) (done ++ code_item done text ∷ []) (kinds_behind bs) (ap (λ w. done ++ code_item done w ∷ []) (joined-pieces text))
    (code_cut done (suc number) (fence_len text) (pieces text) (kinds_behind bs) (three_ticks text)))

-- ---- saved outputs

abbrev blank_kinded : Kinded
blank_kinded = record { kind = Plain; text = [] }

abbrev output_kinded : Kinded
output_kinded = record { kind = Meta metadata.Output; text = output_line }

saved_next : (done : List Item) (number n : ℕ) (info : List ℕ) (tail : List Kinded) → after_code done ≡ true → is_blank (ticks n ++ info) ≡ false
    → cut done number output_kinded (blank_kinded ∷ opening n info ∷ tail) ≡ record { item = Saved info (joined (content tail)); more = suc (suc (content_lines tail)) }
saved_next done number n info tail a b = rw (a, b) refl

saved_cut : (done : List Item) (number n : ℕ) (info : List ℕ) (ls : List (List ℕ)) (rest : List Kinded) → after_code done ≡ true → is_blank (ticks n ++ info) ≡ false
    → ReadsOn (items done number zero (output_kinded ∷ blank_kinded ∷ opening n info ∷ map inside ls ++ closing n ∷ rest)) (done ++ Saved info (joined ls) ∷ []) rest
saved_cut done number n info ls rest a b =
    let tail : List Kinded = map inside ls ++ closing n ∷ rest in
    let next : List Item = done ++ Saved info (joined (content tail)) ∷ [] in
    reads_to _ next (done ++ Saved info (joined ls) ∷ []) rest (ap (λ w. done ++ Saved info (joined w) ∷ []) (content-inside ls n rest))
    (reads_as _ _ next rest (cut_step done number output_kinded (blank_kinded ∷ opening n info ∷ tail) (record { item = Saved info (joined (content tail)); more = suc (suc (content_lines tail)) }) refl (saved_next done number n info tail a b)) (skip_content next (suc (suc (suc number))) ls n rest))

pub saved_read : (done : List Item) (info text : List ℕ) (bs : List Block) (number : ℕ) → after_code done ≡ true → IsInfo info → ReadsOn (items done number zero (kinds_behind (line_block output_line ∷ fence_block info text ∷ bs))) (done ++ Saved info text ∷ []) (kinds_behind bs)
saved_read done info text bs number a i =
    let n : ℕ = fence_len text in
    reads_as _ _ (done ++ Saved info text ∷ []) (kinds_behind bs) (ap (items done (suc number) zero) (line_shape output_line (Meta metadata.Output) (fence_block info text ∷ bs) (metadata_kind output_line metadata.Output output_is) refl ∙ ap (λ w. output_kinded ∷ blank_kinded ∷ w) (fence_shape info text bs i)))
    (reads_to _ (done ++ Saved info (joined (pieces text)) ∷ []) (done ++ Saved info text ∷ []) (kinds_behind bs) (ap (λ w. done ++ Saved info w ∷ []) (joined-pieces text))
    (saved_cut done (suc number) n info (pieces text) (kinds_behind bs) a (ticks_text n info (three_ticks text))))

-- ---- Markdown text

abbrev force_kinded : Kinded
force_kinded = record { kind = Meta metadata.ForceMarkdown; text = force_line }

-- the kinded lines of text, each behind what it needs
abbrev forced_kinds : List Kinded → List Kinded
forced_kinds [] = []
forced_kinds (k ∷ ks) = cond (needs_force k.kind) (force_kinded ∷ blank_kinded ∷ k ∷ forced_kinds ks) (k ∷ forced_kinds ks)

force_shape : (around : Option Fence) (l : List ℕ) (more : List (List ℕ)) (b : Bool) → (b ≡ true → around ≡ None)
    → kinds_in around (cond b (force_line ∷ [] ∷ []) [] ++ l ∷ more) ≡ cond b (force_kinded ∷ blank_kinded ∷ kinds_in around (l ∷ more)) (kinds_in around (l ∷ more))
force_shape around l more false h = refl
force_shape None l more true h = rw (metadata_kind force_line metadata.ForceMarkdown force_is) refl
force_shape (Some f) l more true h = let e : Some f ≡ None = h refl in absurd cc

inside_unforced : (f : Fence) (b : Bool) → needs_force (cond b Closes Inside) ≡ false
inside_unforced f true = refl
inside_unforced f false = refl

forced_outside : (around : Option Fence) (l : List ℕ) → needs_force (kind_in around l) ≡ true → around ≡ None
forced_outside None l h = refl
forced_outside (Some f) l h = let e : false ≡ true = sym (inside_unforced f (is_closing f l)) ∙ h in absurd cc

front_more : (b : Bool) (l : List ℕ) (ls more : List (List ℕ)) → (cond b (force_line ∷ [] ∷ []) [] ++ l ∷ ls) ++ more ≡ cond b (force_line ∷ [] ∷ []) [] ++ l ∷ (ls ++ more)
front_more true l ls more = refl
front_more false l ls more = refl

kinds_more : (b : Bool) (k : Kinded) (ks rest : List Kinded) → cond b (force_kinded ∷ blank_kinded ∷ k ∷ (ks ++ rest)) (k ∷ (ks ++ rest)) ≡ cond b (force_kinded ∷ blank_kinded ∷ k ∷ ks) (k ∷ ks) ++ rest
kinds_more true k ks rest = refl
kinds_more false k ks rest = refl

kinds_forced : (around : Option Fence) (ls more : List (List ℕ)) → kinds_in around (forced_lines (kinds_in around ls) ++ more) ≡ forced_kinds (kinds_in around ls) ++ kinds_in (open_behind around ls) more
kinds_forced around [] more = refl
kinds_forced around (l ∷ ls) more =
    let k : Kind = kind_in around l in
    let next : Option Fence = open_after around k in
    ap (kinds_in around) (front_more (needs_force k) l (forced_lines (kinds_in next ls)) more)
    ∙ (force_shape around l (forced_lines (kinds_in next ls) ++ more) (needs_force k) (forced_outside around l)
    ∙ (ap (λ w. cond (needs_force k) (force_kinded ∷ blank_kinded ∷ kinded around l ∷ w) (kinded around l ∷ w)) (kinds_forced next ls more)
    ∙ kinds_more (needs_force k) (kinded around l) (forced_kinds (kinds_in next ls)) (kinds_in (open_behind next ls) more)))

-- a line that needs no force may stand and forces nothing; one that needs it isn't blank
allowed : (b : Bool) → not b ≡ false → b ≡ true
allowed true h = refl
allowed false h = absurd cc

unforcing : (k : Kind) → may_stand k ≡ true → is_force k ≡ false
unforcing (Meta meaning) h = absurd cc
unforcing k h = refl

stands : (k : Kind) → needs_force k ≡ false → (is_force k ≡ false) × (may_stand k ≡ true)
stands k h = let may : may_stand k ≡ true = allowed (may_stand k) h in (unforcing k may, may)

abbrev IsForcedText : Kinded → Type 0
IsForcedText k = needs_force k.kind ≡ true → is_blank k.text ≡ false

blank_test : (l : List ℕ) (b : Bool) → is_blank l ≡ b → needs_force (kind_of l) ≡ true → b ≡ false
blank_test l true e h = let no_need : false ≡ true = ap needs_force (sym (blank_plain l e)) ∙ h in absurd cc
blank_test l false e h = refl

forced_text : (around : Option Fence) (l : List ℕ) → IsForcedText (kinded around l)
forced_text None l h = blank_test l (is_blank l) refl h
forced_text (Some f) l h = let e : false ≡ true = sym (inside_unforced f (is_closing f l)) ∙ h in absurd cc

all_forced_text : (around : Option Fence) (ls : List (List ℕ)) → AllByRecursion IsForcedText (kinds_in around ls)
all_forced_text around [] = tt
all_forced_text around (l ∷ ls) = (forced_text around l, all_forced_text (open_after around (kind_in around l)) ls)

-- the stretch takes the lines, whatever comes behind
stretch_step : (k : Kinded) (ks rest : List Kinded) (b : Bool) → needs_force k.kind ≡ b → IsForcedText k → stretch false (forced_kinds ks ++ rest) ≡ map (λ l. l.text) ks ++ stretch false rest
    → stretch false (cond b (force_kinded ∷ blank_kinded ∷ k ∷ forced_kinds ks) (k ∷ forced_kinds ks) ++ rest) ≡ k.text ∷ (map (λ l. l.text) ks ++ stretch false rest)
stretch_step k ks rest true e f h = rw (f e) (ap (λ w. k.text ∷ w) h)
stretch_step k ks rest false e f h = rw ((stands k.kind e).0, (stands k.kind e).1) (ap (λ w. k.text ∷ w) h)

stretch_forced : (ks rest : List Kinded) → AllByRecursion IsForcedText ks → stretch false (forced_kinds ks ++ rest) ≡ map (λ l. l.text) ks ++ stretch false rest
stretch_forced [] rest h = refl
stretch_forced (k ∷ ks) rest h = stretch_step k ks rest (needs_force k.kind) refl h.0 (stretch_forced ks rest h.1)

-- and their items are cut on from there
abbrev Skips : List Item → List Kinded → List Kinded → Type 0
Skips done ls rest = (number : ℕ) → (k : ℕ) × (items done number (stretch_lines false ls) ls ≡ items done k (stretch_lines false rest) rest)

skip_step : (done : List Item) (k : Kinded) (ks rest : List Kinded) (b : Bool) → needs_force k.kind ≡ b → IsForcedText k → Skips done (forced_kinds ks ++ rest) rest
    → Skips done (cond b (force_kinded ∷ blank_kinded ∷ k ∷ forced_kinds ks) (k ∷ forced_kinds ks) ++ rest) rest
skip_step done k ks rest true e f h = λ number. let r = h (suc (suc (suc number))) in (r.0, rw (f e) r.1)
skip_step done k ks rest false e f h = λ number. let r = h (suc number) in (r.0, rw ((stands k.kind e).0, (stands k.kind e).1) r.1)

skip_forced : (done : List Item) (ks rest : List Kinded) → AllByRecursion IsForcedText ks → Skips done (forced_kinds ks ++ rest) rest
skip_forced done [] rest h = λ number. (number, refl)
skip_forced done (k ∷ ks) rest h = skip_step done k ks rest (needs_force k.kind) refl h.0 (skip_forced done ks rest h.1)

-- a line that may stand begins text, where a heading 1 is no name
code_no : (done : List Item) (b : Bool) (c d : Cut) → not b ≡ true → cond b c d ≡ d
code_no done true c d h = absurd cc
code_no done false c d h = refl

cut_text : (done : List Item) (number : ℕ) (k : Kind) (l : Kinded) (ls : List Kinded) → at_name done ≡ false → may_stand k ≡ true → cut_by k done number l ls ≡ markdown_at l ls
cut_text done number (Opens fence info) l ls n h = code_no done (is_code fence info) _ (markdown_at l ls) h
cut_text done number Inside l ls n h = refl
cut_text done number Closes l ls n h = refl
cut_text done number (Meta meaning) l ls n h = absurd cc
cut_text done number (Heading1 name) l ls n h = rw n refl
cut_text done number (Heading2 name) l ls n h = absurd cc
cut_text done number Plain l ls n h = refl

-- the cut that a forcing line begins, by whether the line behind it is blank
abbrev forced_cut : Kinded → List Kinded → Bool → Cut
forced_cut k more b = record { item = markdown_of (cond b (stretch true more) (k.text ∷ stretch false more)); more = suc (cond b (suc (stretch_lines true more)) (suc (stretch_lines false more))) }

-- the first line, with what it needs, begins the text
begin_text : (done : List Item) (k : Kinded) (more : List Kinded) (number : ℕ) (b : Bool) → needs_force k.kind ≡ b → at_name done ≡ false → is_blank k.text ≡ false
    → (n : ℕ) × (items done number zero (cond b (force_kinded ∷ blank_kinded ∷ k ∷ more) (k ∷ more)) ≡ items (done ++ markdown_of (k.text ∷ stretch false more) ∷ []) n (stretch_lines false more) more)
begin_text done k more number true e n t =
    let all : forced_at (blank_kinded ∷ k ∷ more) ≡ record { item = markdown_of (k.text ∷ stretch false more); more = suc (suc (stretch_lines false more)) } = ap (forced_cut k more) t in
    (suc (suc (suc number)), cut_step done number force_kinded (blank_kinded ∷ k ∷ more) (record { item = markdown_of (k.text ∷ stretch false more); more = suc (suc (stretch_lines false more)) }) refl all)
begin_text done k more number false e n t = (suc number, cut_step done number k more (markdown_at k more) t (cut_text done number k.kind k more n (stands k.kind e).1))

-- ---- what ends Markdown text

abbrev EndsText : Block → Type 0
EndsText [] = ⊥
EndsText (l ∷ ls) = (is_force (kind_of l) ≡ false) × (may_stand (kind_of l) ≡ false)

-- nothing, or a block that ends it
abbrev pub Stops : List Block → Type 0
Stops [] = Unit {0}
Stops (b ∷ bs) = EndsText b

-- so only an empty line belongs to it
record IsBehind (bs : List Block) : Type 0 where
  front : List (List ℕ)
  same : stretch false (kinds_behind bs) ≡ front
  blank : (front ≡ []) ⊎ (front ≡ [] ∷ [])
  rest : (done : List Item) (number : ℕ) → ReadsOn (items done number (stretch_lines false (kinds_behind bs)) (kinds_behind bs)) done (kinds_behind bs)

stops_at : (k : Kinded) (rest : List Kinded) → is_force k.kind ≡ false → may_stand k.kind ≡ false → (stretch false (k ∷ rest) ≡ []) × (stretch_lines false (k ∷ rest) ≡ zero)
stops_at k rest f m = (rw (f, m) refl, rw (f, m) refl)

behind : (bs : List Block) → Stops bs → IsBehind bs
behind [] h = record { front = []; same = refl; blank = inl refl; rest = λ done number. (number, refl) }
behind ([] ∷ bs) h = absurd h
behind ((l ∷ ls) ∷ bs) h =
    let k : Kinded = kinded None l in
    let after : List Kinded = kinds_in (open_after None (kind_of l)) (ls ++ more_blocks bs) in
    let s = stops_at k after h.0 h.1 in
    record {
      front = [] ∷ [];
      same = ap (λ w. [] ∷ w) s.0;
      blank = inr refl;
      rest = λ done number. (number, ap (λ m. items done number (suc m) (blank_kinded ∷ k ∷ after)) s.1);
    }

same_end : (ls front : List (List ℕ)) → (front ≡ []) ⊎ (front ≡ [] ∷ []) → drop_end is_blank (ls ++ front) ≡ drop_end is_blank ls
same_end ls front (inl e) = rw (e, append-nil) refl
same_end ls front (inr e) = rw e (drop_end-gone is_blank ls [] refl)

texts_of_kinds : (around : Option Fence) (ls : List (List ℕ)) → map (λ k. k.text) (kinds_in around ls) ≡ ls
texts_of_kinds around [] = refl
texts_of_kinds around (l ∷ ls) = ap (λ w. l ∷ w) (texts_of_kinds (open_after around (kind_in around l)) ls)

-- ---- a block of Markdown text

text_read : (done : List Item) (l : List ℕ) (ls : List (List ℕ)) (bs : List Block) (number : ℕ) → at_name done ≡ false → is_blank l ≡ false → drop_end is_blank (l ∷ ls) ≡ l ∷ ls → Stops bs
    → ReadsOn (items done number zero (forced_kinds (kinds_in None (l ∷ ls)) ++ kinds_behind bs)) (done ++ Markdown (joined (l ∷ ls)) ∷ []) (kinds_behind bs)
text_read done l ls bs number n t e st =
    let ks : List Kinded = kinds_in (open_after None (kind_of l)) ls in
    let all = all_forced_text (open_after None (kind_of l)) ls in
    let rest : List Kinded = kinds_behind bs in
    let more : List Kinded = forced_kinds ks ++ rest in
    let w = behind bs st in
    let next : List Item = done ++ markdown_of (l ∷ stretch false more) ∷ [] in
    let b = begin_text done (kinded None l) more number (needs_force (kind_of l)) refl n t in
    let s = skip_forced next ks rest all b.0 in
    let r = w.rest next s.0 in
    let texts : l ∷ stretch false more ≡ (l ∷ ls) ++ w.front = ap (λ v. l ∷ v) (stretch_forced ks rest all ∙ (ap (λ v. v ++ stretch false rest) (texts_of_kinds (open_after None (kind_of l)) ls) ∙ ap (λ v. ls ++ v) w.same)) in
    let ends : drop_end is_blank (l ∷ stretch false more) ≡ l ∷ ls = ap (drop_end is_blank) texts ∙ (same_end (l ∷ ls) w.front w.blank ∙ e) in
    let item : markdown_of (l ∷ stretch false more) ≡ Markdown (joined (l ∷ ls)) = ap (λ v. Markdown (joined v)) ends in
    reads_to _ next (done ++ Markdown (joined (l ∷ ls)) ∷ []) rest (ap (λ i. done ++ i ∷ []) item)
    (r.0, ap (items done number zero) (sym (kinds_more (needs_force (kind_of l)) (kinded None l) (forced_kinds ks) rest)) ∙ (b.1 ∙ (s.1 ∙ r.1)))

pub markdown_read : (done : List Item) (l : List ℕ) (ls : List (List ℕ)) (bs : List Block) (number : ℕ) → at_name done ≡ false → is_blank l ≡ false → drop_end is_blank (l ∷ ls) ≡ l ∷ ls → open_behind None (l ∷ ls) ≡ None → Stops bs
    → ReadsOn (items done number zero (kinds_behind (forced_lines (kinds_in None (l ∷ ls)) ∷ bs))) (done ++ Markdown (joined (l ∷ ls)) ∷ []) (kinds_behind bs)
markdown_read done l ls bs number n t e c st =
    reads_as _ _ (done ++ Markdown (joined (l ∷ ls)) ∷ []) (kinds_behind bs)
    (ap (items done (suc number) zero) (kinds_forced None (l ∷ ls) (more_blocks bs) ∙ ap (λ o. forced_kinds (kinds_in None (l ∷ ls)) ++ kinds_in o (more_blocks bs)) c))
    (text_read done l ls bs (suc number) n t e st)
