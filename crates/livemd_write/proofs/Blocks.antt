-- The texts of blocks, as they are put together.
use Rattle.std.proofs.Common.{◌≡◌, ℕ, ◌+◌, ◌<◌, ◌≤◌, zero, suc, max, Bool, true, false, ◌&&◌, cond, List, [], ◌∷◌, ◌++◌, length, drop, get_or, refl, sym, ap, ◌∙◌, arith, append_assoc, add-one, codes, drop_of_length-le, length-append}
use Rattle.std.specs.Prelude.{◌==◌, decimal, encode_utf8_all}
use Rattle.std.specs.List.{flat_map, onto_first}
use Rattle.std.proofs.Math.Seq.{drop-cons}
use Rattle.std.proofs.lemmas.Bool.Decides.{nat_tests}
use Rattle.std.proofs.lemmas.List.{append-nil}
use Rattle.notebook.specs.declared.parts.Cell.{Cell}
use Rattle.notebook.specs.declared.parts.Parts.{Parts}
use Rattle.livemd_lines.specs.declared.fences.Mark.TheVariants.{Backtick}
use Rattle.blanks.specs.Blanks.{front_of, is_empty}
use Rattle.livemd_lines.specs.Lines.{is_lf, lines}
use Rattle.livemd_lines.specs.Kinds.{Kinded, byte_of, is_byte, kinds_of, run}
use Rattle.livemd_lines.specs.Written.{fenced, longest_run, text_of_lines, ticks}
use Rattle.livemd_format.specs.Tidy.{is_markdown, pieces}
use Rattle.livemd_format.specs.Write.{Block, block_lines, blocks, branch_line, break_blocks, cell_blocks, code_blocks, fence_block, fence_len, force, forced_lines, kept_blocks, line_block, markdown_block, own_blocks, section_blocks, setup_blocks, text_of}
use Rattle.livemd_write.specs.Pages.{Puts, blocks_text}

pub text_of_lines-append : (xs ys : List (List ℕ)) → text_of_lines (xs ++ ys) ≡ text_of_lines xs ++ text_of_lines ys
text_of_lines-append [] ys = refl
text_of_lines-append (x ∷ xs) ys = ap (λ w. x ++ 10 ∷ w) (text_of_lines-append xs ys) ∙ sym (append_assoc x (10 ∷ text_of_lines xs) (text_of_lines ys))

pub blocks_text-append : (xs ys : List Block) → blocks_text (xs ++ ys) ≡ blocks_text xs ++ blocks_text ys
blocks_text-append [] ys = refl
blocks_text-append (b ∷ xs) ys = ap (λ w. 10 ∷ (text_of_lines b ++ w)) (blocks_text-append xs ys) ∙ ap (λ w. 10 ∷ w) (sym (append_assoc (text_of_lines b) (blocks_text xs) (blocks_text ys)))

-- blocks put behind others
pub puts_then : (a b c : List ℕ) (xs ys : List Block) → Puts a xs b → Puts b ys c → Puts a (xs ++ ys) c
puts_then a b c xs ys h k = k ∙ (ap (λ w. w ++ blocks_text ys) h ∙ (append_assoc a (blocks_text xs) (blocks_text ys) ∙ ap (λ w. a ++ w) (sym (blocks_text-append xs ys))))

pub puts_none : (a : List ℕ) → Puts a [] a
puts_none a = sym (append-nil a)

pub puts_one : (old new : List ℕ) (b : Block) → new ≡ old ++ 10 ∷ text_of_lines b → Puts old (b ∷ []) new
puts_one old new b h = h ∙ ap (λ w. old ++ 10 ∷ w) (sym (append-nil (text_of_lines b)))

pub puts_same : (a b : List ℕ) (xs ys : List Block) → xs ≡ ys → Puts a xs b → Puts a ys b
puts_same a b xs ys e h = h ∙ ap (λ bs. a ++ blocks_text bs) e

-- ---- single blocks

pub line_put : (old a b c line : List ℕ) → a ≡ old ++ 10 ∷ [] → b ≡ a ++ line → c ≡ b ++ 10 ∷ [] → Puts old (line_block line ∷ []) c
line_put old a b c line e f g = puts_one old c (line_block line) (g ∙ (ap (λ w. w ++ 10 ∷ []) (f ∙ (ap (λ w. w ++ line) e ∙ append_assoc old (10 ∷ []) line)) ∙ append_assoc old (10 ∷ line) (10 ∷ [])))

pub heading_put : (old a b c d mark name shown : List ℕ) → a ≡ old ++ 10 ∷ [] → b ≡ a ++ mark → shown ≡ name → c ≡ b ++ shown → d ≡ c ++ 10 ∷ [] → Puts old (line_block (mark ++ name) ∷ []) d
heading_put old a b c d mark name shown e f s g h = line_put old a c d (mark ++ name) e (g ∙ ap (λ w. b ++ w) s ∙ (ap (λ w. w ++ name) f ∙ append_assoc a mark name)) h

branch_end : (n : ℕ) → decimal n ++ codes "} -->\n" ≡ ((decimal n ++ codes "}") ++ codes " -->") ++ 10 ∷ []
branch_end n = sym (append_assoc (decimal n ++ codes "}") (codes " -->") (10 ∷ []) ∙ append_assoc (decimal n) (codes "}") (codes " -->" ++ 10 ∷ []))

pub branch_put : (old a b c d : List ℕ) (n : ℕ) → a ≡ old ++ codes "\n<!-- livebook:{\"branch_parent_index\":" → d ≡ decimal n → b ≡ a ++ d → c ≡ b ++ codes "} -->\n" → Puts old (line_block (branch_line n) ∷ []) c
branch_put old a b c d n e s f g =
    puts_one old c (line_block (branch_line n)) (
    g
    ∙ (ap (λ w. w ++ codes "} -->\n") (f ∙ (ap (λ w. w ++ d) e ∙ ap (λ w. (old ++ codes "\n<!-- livebook:{\"branch_parent_index\":") ++ w) s))
    ∙ (append_assoc (old ++ codes "\n<!-- livebook:{\"branch_parent_index\":") (decimal n) (codes "} -->\n")
    ∙ (append_assoc old (codes "\n<!-- livebook:{\"branch_parent_index\":") (decimal n ++ codes "} -->\n")
    ∙ ap (λ w. old ++ (codes "\n<!-- livebook:{\"branch_parent_index\":" ++ w)) (branch_end n))))
    )

-- ---- fences

some_pieces : (t : List ℕ) → (p : List ℕ) × ((ps : List (List ℕ)) × (pieces t ≡ p ∷ ps))
some_pieces [] = ([], ([], refl))
some_pieces (b ∷ t) =
    let r = some_pieces t in
    elim (is_lf b)
    as (λ v. (p : List ℕ) × ((ps : List (List ℕ)) × (cond v ([] ∷ pieces t) (onto_first b (pieces t)) ≡ p ∷ ps)))
    [ true ↦ ([], (pieces t, refl)) | false ↦ (b ∷ r.0, (r.1.0, ap (onto_first b) r.1.1)) ]

onto_text : (b : ℕ) (ps : List (List ℕ)) → (p : List ℕ) × ((qs : List (List ℕ)) × (ps ≡ p ∷ qs)) → text_of_lines (onto_first b ps) ≡ b ∷ text_of_lines ps
onto_text b ps (p, (qs, e)) = ap (λ xs. text_of_lines (onto_first b xs)) e ∙ ap (λ xs. b ∷ text_of_lines xs) (sym e)

same_feed : (b : ℕ) → is_lf b ≡ true → b ≡ 10
same_feed b e = grind (arith, nat_tests)

pub pieces_text : (t : List ℕ) → text_of_lines (pieces t) ≡ t ++ 10 ∷ []
pieces_text [] = refl
pieces_text (b ∷ t) =
    elim (is_lf b)
    as (λ v. is_lf b ≡ v → text_of_lines (cond v ([] ∷ pieces t) (onto_first b (pieces t))) ≡ b ∷ (t ++ 10 ∷ [])) [
      | true ↦ λ e. ap (λ w. 10 ∷ w) (pieces_text t) ∙ ap (λ c. c ∷ (t ++ 10 ∷ [])) (sym (same_feed b e))
      | false ↦ λ e. onto_text b (pieces t) (some_pieces t) ∙ ap (λ w. b ∷ w) (pieces_text t)
    ]
    refl

fence_text : (n : ℕ) (info t : List ℕ) → text_of_lines (fenced n info (pieces t)) ≡ ticks n ++ (info ++ 10 ∷ (t ++ 10 ∷ (ticks n ++ 10 ∷ [])))
fence_text n info t =
    append_assoc (ticks n) info (10 ∷ text_of_lines (pieces t ++ ticks n ∷ []))
    ∙ ap (λ w. ticks n ++ (info ++ 10 ∷ w)) (text_of_lines-append (pieces t) (ticks n ∷ []) ∙ (ap (λ w. w ++ (ticks n ++ 10 ∷ [])) (pieces_text t) ∙ append_assoc t (10 ∷ []) (ticks n ++ 10 ∷ [])))

pub fence_put : (old a b c d e f g h info t : List ℕ) (n : ℕ) → n ≡ fence_len t → a ≡ old ++ 10 ∷ [] → b ≡ a ++ ticks n → c ≡ b ++ info → d ≡ c ++ 10 ∷ [] → e ≡ d ++ t → f ≡ e ++ 10 ∷ [] → g ≡ f ++ ticks n → h ≡ g ++ 10 ∷ []
    → Puts old (fence_block info t ∷ []) h
fence_put old a b c d e f g h info t n len ea eb ec ed ee ef eg eh =
    let k : List ℕ = ticks n in
    let all : h ≡ (((((((old ++ 10 ∷ []) ++ k) ++ info) ++ 10 ∷ []) ++ t) ++ 10 ∷ []) ++ k) ++ 10 ∷ [] = rw (eh, eg, ef, ee, ed, ec, eb, ea) refl in
    let regroup : (((((((old ++ 10 ∷ []) ++ k) ++ info) ++ 10 ∷ []) ++ t) ++ 10 ∷ []) ++ k) ++ 10 ∷ [] ≡ old ++ (10 ∷ (k ++ (info ++ 10 ∷ (t ++ 10 ∷ (k ++ 10 ∷ []))))) = simp append_assoc in
    puts_one old h (fence_block info t) (all ∙ (regroup ∙ (ap (λ w. old ++ 10 ∷ w) (sym (fence_text n info t)) ∙ ap (λ m. old ++ 10 ∷ text_of_lines (fenced m info (pieces t))) len)))

-- ---- the longest run of backticks

abbrev pub ticks_at : List ℕ → ℕ
ticks_at l = run (byte_of Backtick) l

run-cons : (c : ℕ) (l : List ℕ) → ticks_at (c ∷ l) ≡ cond (c == 96) (suc (ticks_at l)) zero
run-cons c l =
    elim (c == 96)
    as (λ b. length (cond b (c ∷ front_of (is_byte 96) l) []) ≡ cond b (suc (length (front_of (is_byte 96) l))) zero)
    [ true ↦ refl | false ↦ refl ]

run-le-longest : (l : List ℕ) → ticks_at l ≤ longest_run l
run-le-longest [] = omega arith
run-le-longest (c ∷ l) = omega arith

run_bits : (r best m n : ℕ) (b : Bool) → r ≤ best → m ≤ n → max (max best (cond b (r + 1) 0)) (max (cond b (r + 1) 0 + m) n) ≡ max best (max (r + cond b (suc m) zero) (max (cond b (suc m) zero) n))
run_bits r best m n true h k = omega arith
run_bits r best m n false h k = omega arith

run_bound : (r best r2 best2 i : ℕ) (b : Bool) → r ≤ best → best ≤ i → r2 ≡ cond b (r + 1) 0 → best2 ≡ max best r2 → (r2 ≤ best2) × (best2 ≤ i + 1)
run_bound r best r2 best2 i true h bi e f = (omega arith, omega arith)
run_bound r best r2 best2 i false h bi e f = (omega arith, omega arith)

abbrev pub Runs : List ℕ → ℕ → ℕ → ℕ → Type 0
Runs text i r best = (r ≤ best) × ((best ≤ i) × (max best (max (r + ticks_at (drop i text)) (longest_run (drop i text))) ≡ longest_run text))

run_more : (x r best r2 best2 total : ℕ) (rest todo : List ℕ) → todo ≡ x ∷ rest → r ≤ best → max best (max (r + ticks_at todo) (longest_run todo)) ≡ total → r2 ≡ cond (x == 96) (r + 1) 0 → best2 ≡ max best r2
    → max best2 (max (r2 + ticks_at rest) (longest_run rest)) ≡ total
run_more x r best r2 best2 total rest todo d le h e f =
    ap (λ b. max b (max (r2 + ticks_at rest) (longest_run rest))) f
    ∙ (ap (λ q. max (max best q) (max (q + ticks_at rest) (longest_run rest))) e
    ∙ (run_bits r best (ticks_at rest) (longest_run rest) (x == 96) le (run-le-longest rest)
    ∙ (ap (λ q. max best (max (r + q) (max q (longest_run rest)))) (sym (run-cons x rest))
    ∙ (ap (λ xs. max best (max (r + ticks_at xs) (longest_run xs))) (sym d) ∙ h))))

pub run_turn : (text : List ℕ) (i r best r2 best2 : ℕ) → i < length text → Runs text i r best → r2 ≡ cond (get_or text i 0 == 96) (r + 1) 0 → best2 ≡ max best r2 → Runs text (i + 1) r2 best2
run_turn text i r best r2 best2 lt inv e f =
    let d : drop i text ≡ get_or text i 0 ∷ drop (i + 1) text = rw add-one (drop-cons text i 0 lt) in
    let b = run_bound r best r2 best2 i (get_or text i 0 == 96) inv.0 inv.1.0 e f in
    (b.0, (b.1, run_more (get_or text i 0) r best r2 best2 (longest_run text) (drop (i + 1) text) (drop i text) d inv.0 inv.1.1 e f))

pub run_start : (text : List ℕ) → Runs text 0 0 0
run_start text = (omega arith, (omega arith, omega (arith, run-le-longest text)))

pub run_end : (text : List ℕ) (i r best : ℕ) → length text ≤ i → Runs text i r best → best ≡ longest_run text
run_end text i r best all inv =
    let none : drop i text ≡ [] = drop_of_length-le text all in
    let h : max best (max (r + ticks_at []) (longest_run [])) ≡ longest_run text = ap (λ xs. max best (max (r + ticks_at xs) (longest_run xs))) (sym none) ∙ inv.1.1 in
    omega (arith, inv.0, h)

-- ---- loops: what was put, and the blocks of what is left

pub drop_turn : {X : Type 0} (F : List X → List Block) (f : X → List Block) → ((x : X) (xs : List X) → F (x ∷ xs) ≡ f x ++ F xs)
    → (ls rest : List X) (x : X) (a b whole : List ℕ) → ls ≡ x ∷ rest → a ++ blocks_text (F ls) ≡ whole → Puts a (f x) b → b ++ blocks_text (F rest) ≡ whole
drop_turn F f s ls rest x a b whole one h p =
    ap (λ w. w ++ blocks_text (F rest)) p
    ∙ (append_assoc a (blocks_text (f x)) (blocks_text (F rest))
    ∙ (ap (λ w. a ++ w) (sym (blocks_text-append (f x) (F rest)) ∙ ap blocks_text (sym (s x rest) ∙ ap F (sym one))) ∙ h))

pub left_at : {X : Type 0} (ls : List X) (i : ℕ) (d : X) → i < length ls → drop i ls ≡ get_or ls i d ∷ drop (i + 1) ls
left_at ls i d lt = rw add-one (drop-cons ls i d lt)

-- the element that a loop reads stands before those that are left
pub left : {X : Type 0} (ls : List X) (i : ℕ) (x : X) → i < length ls → x ≡ get_or ls i x → drop i ls ≡ x ∷ drop (i + 1) ls
left ls i x lt e = (rw add-one (drop-cons ls i x lt)) ∙ ap (λ y. y ∷ drop (i + 1) ls) (sym e)

pub drop_last : {X : Type 0} (F : List X → List Block) → F [] ≡ [] → (ls : List X) (i : ℕ) (old a : List ℕ) (bs : List Block) → length ls ≤ i → a ++ blocks_text (F (drop i ls)) ≡ old ++ blocks_text bs → Puts old bs a
drop_last F e ls i old a bs all h =
    let none : drop i ls ≡ [] = drop_of_length-le ls all in
    sym (append-nil a) ∙ (ap (λ cs. a ++ blocks_text cs) (sym (ap F none ∙ e)) ∙ h)

-- ---- cells

cells-more : (after : Bool) (c : Cell) (cs : List Cell) → cell_blocks after (c ∷ cs) ≡ cell_blocks after (c ∷ []) ++ cell_blocks (is_markdown c.kind) cs
cells-more after c cs =
    let rest : List Block = cell_blocks (is_markdown c.kind) cs in
    let own : own_blocks c ++ rest ≡ (own_blocks c ++ []) ++ rest = ap (λ w. w ++ rest) (sym (append-nil (own_blocks c))) in
    ap (λ w. break_blocks after c ++ (kept_blocks c.before ++ w)) own
    ∙ (ap (λ w. break_blocks after c ++ w) (sym (append_assoc (kept_blocks c.before) (own_blocks c ++ []) rest))
    ∙ sym (append_assoc (break_blocks after c) (kept_blocks c.before ++ (own_blocks c ++ [])) rest))

pub cells_turn : (cs more : List Cell) (x : Cell) (after next : Bool) (a b whole : List ℕ) → cs ≡ x ∷ more → a ++ blocks_text (cell_blocks after cs) ≡ whole → Puts a (cell_blocks after (x ∷ [])) b → next ≡ is_markdown x.kind
    → b ++ blocks_text (cell_blocks next more) ≡ whole
cells_turn cs more x after next a b whole one h p n =
    let rest : List Block = cell_blocks (is_markdown x.kind) more in
    ap (λ (v : Bool). b ++ blocks_text (cell_blocks v more)) n
    ∙ (ap (λ w. w ++ blocks_text rest) p
    ∙ (append_assoc a (blocks_text (cell_blocks after (x ∷ []))) (blocks_text rest)
    ∙ (ap (λ w. a ++ w) (sym (blocks_text-append (cell_blocks after (x ∷ [])) rest) ∙ ap blocks_text (sym (cells-more after x more) ∙ ap (cell_blocks after) (sym one))) ∙ h)))

-- ---- the setup cell

abbrev pub nothing_of : Cell → Bool
nothing_of c = is_empty c.source && (is_empty c.before && is_empty c.saved)

pub setup_none : (a : List ℕ) (c : Cell) → nothing_of c ≡ true → Puts a (setup_blocks c) a
setup_none a c e = puts_same a a [] (setup_blocks c) (ap (λ (b : Bool). cond b [] (kept_blocks c.before ++ code_blocks c)) (sym e)) (puts_none a)

pub setup_put : (a b d : List ℕ) (c : Cell) → nothing_of c ≡ false → Puts a (kept_blocks c.before) b → Puts b (code_blocks c) d → Puts a (setup_blocks c) d
setup_put a b d c e k h = puts_same a d (kept_blocks c.before ++ code_blocks c) (setup_blocks c) (ap (λ (b : Bool). cond b [] (kept_blocks c.before ++ code_blocks c)) (sym e)) (puts_then a b d (kept_blocks c.before) (code_blocks c) k h)

pub cell_put : (a b c d : List ℕ) (after : Bool) (x : Cell) → Puts a (break_blocks after x) b → Puts b (kept_blocks x.before) c → Puts c (own_blocks x) d → Puts a (cell_blocks after (x ∷ [])) d
cell_put a b c d after x h k o =
    puts_then a b d (break_blocks after x) (kept_blocks x.before ++ (own_blocks x ++ [])) h (puts_then b c d (kept_blocks x.before) (own_blocks x ++ []) k (o ∙ ap (λ bs. c ++ blocks_text bs) (sym (append-nil (own_blocks x)))))

-- ---- the lines of Markdown text

pub forced_put : (old a b c : List ℕ) (l : Kinded) → a ≡ old ++ text_of_lines (force l.kind) → b ≡ a ++ l.text → c ≡ b ++ 10 ∷ [] → c ≡ old ++ text_of_lines (forced_lines (l ∷ []))
forced_put old a b c l e f g =
    g
    ∙ (ap (λ w. w ++ 10 ∷ []) (f ∙ ap (λ w. w ++ l.text) e)
    ∙ (append_assoc (old ++ text_of_lines (force l.kind)) l.text (10 ∷ [])
    ∙ (append_assoc old (text_of_lines (force l.kind)) (l.text ++ 10 ∷ []) ∙ ap (λ w. old ++ w) (sym (text_of_lines-append (force l.kind) (l.text ∷ []))))))

forced-more : (l : Kinded) (ls : List Kinded) → forced_lines (l ∷ ls) ≡ forced_lines (l ∷ []) ++ forced_lines ls
forced-more l ls = sym (append_assoc (force l.kind) (l.text ∷ []) (forced_lines ls))

pub forced_turn : (all rest : List Kinded) (l : Kinded) (a b whole : List ℕ) → all ≡ l ∷ rest → a ++ text_of_lines (forced_lines all) ≡ whole → b ≡ a ++ text_of_lines (forced_lines (l ∷ [])) → b ++ text_of_lines (forced_lines rest) ≡ whole
forced_turn all rest l a b whole e h p =
    ap (λ w. w ++ text_of_lines (forced_lines rest)) p
    ∙ (append_assoc a (text_of_lines (forced_lines (l ∷ []))) (text_of_lines (forced_lines rest))
    ∙ (ap (λ w. a ++ w) (sym (text_of_lines-append (forced_lines (l ∷ [])) (forced_lines rest)) ∙ ap text_of_lines (sym (forced-more l rest) ∙ ap forced_lines (sym e))) ∙ h))

pub markdown_put : (old a b source : List ℕ) → a ≡ old ++ 10 ∷ [] → b ≡ a ++ text_of_lines (forced_lines (kinds_of (lines source))) → Puts old (markdown_block source ∷ []) b
markdown_put old a b source f g =
    let ls : List Kinded = kinds_of (lines source) in
    puts_one old b (markdown_block source) (g ∙ (ap (λ w. w ++ text_of_lines (forced_lines ls)) f ∙ append_assoc old (10 ∷ []) (text_of_lines (forced_lines ls))))

-- ---- the whole text

pub first_gone : (b : Block) (bs : List Block) → drop 1 (blocks_text (b ∷ bs)) ≡ text_of_lines (block_lines (b ∷ bs))
first_gone b [] = append-nil (text_of_lines b)
first_gone b (c ∷ bs) = ap (λ w. text_of_lines b ++ 10 ∷ w) (first_gone c bs) ∙ sym (text_of_lines-append b ([] ∷ block_lines (c ∷ bs)))

-- a notebook has a block at least
some_blocks : (n : Parts) → 0 < length (blocks n)
some_blocks n =
    let more : List Block = line_block (codes "# " ++ encode_utf8_all n.name) ∷ (setup_blocks n.setup ++ (flat_map (section_blocks n.sections) n.sections ++ kept_blocks n.after)) in
    let count : length (kept_blocks n.before ++ more) ≡ length (kept_blocks n.before) + length more = length-append (kept_blocks n.before) more in
    omega arith

text_if : (bs : List Block) → 0 < length bs → blocks_text bs ≡ 10 ∷ text_of_lines (block_lines bs)
text_if [] h = absurd (omega arith)
text_if (b ∷ bs) h = ap (λ w. 10 ∷ w) (first_gone b bs)

-- each block stands behind an empty line, the first one too
pub page_text : (n : Parts) → blocks_text (blocks n) ≡ 10 ∷ text_of n
page_text n = text_if (blocks n) (some_blocks n)
