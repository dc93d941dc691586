-- Markdown text, line by line: what stays, and the blank lines that wait.
use Rattle.std.proofs.Common.{◌≡◌, ℕ, Bool, true, false, not, cond, List, [], ◌∷◌, ◌++◌, Option, None, map, refl, sym, ap, ◌∙◌, subst, append_assoc}
use Rattle.std.specs.Borrow.{Bor}
use Rattle.std.specs.List.{flat_map}
use Rattle.std.specs.String.{string_bytes}
use Rattle.std.proofs.lemmas.List.{append-nil, map-append}
use Rattle.livemd_lines.specs.declared.fences.Fence.{Fence}
use Rattle.livemd_lines.specs.Kinds.{Kinded, kind_in, kinded, open_after}
use Rattle.blanks.specs.Blanks.{drop_end, drop_front, is_blank, is_cr, is_empty}
use Rattle.livemd_lines.specs.Written.{open_behind}
use Rattle.livemd_lines.proofs.Stretches.{open_behind-append}
use Rattle.livemd_format.specs.Tidy.{clean_pieces, tidy_markdown}
use Rattle.blanks.proofs.Trims.{drop_end-gone, drop_end-kept}
use Rattle.livemd_write.specs.declared.markdown.Passage.{Passage}
use Rattle.livemd_write.specs.Passages.{IsPassage}
use Rattle.livemd_write.specs.Texts.{closing_text, joined_by, texts}
use Rattle.livemd_write.proofs.Pieces.{joined-cons, texts-push, tidy_made}

-- ---- blank lines at the front

front_kept : {X : Type 0} (p : X → Bool) (xs : List X) (x : X) → p x ≡ false → drop_front p (xs ++ x ∷ []) ≡ drop_front p xs ++ x ∷ []
front_kept p [] x h = rw h refl
front_kept p (y ∷ xs) x h =
    elim (p y)
    as (λ b. cond b (drop_front p (xs ++ x ∷ [])) (y ∷ xs ++ x ∷ []) ≡ cond b (drop_front p xs) (y ∷ xs) ++ x ∷ [])
    [ true ↦ front_kept p xs x h | false ↦ refl ]

front_gone : {X : Type 0} (p : X → Bool) (xs : List X) (x : X) → p x ≡ true → drop_front p xs ≡ [] → drop_front p (xs ++ x ∷ []) ≡ []
front_gone p [] x h e = rw h refl
front_gone p (y ∷ xs) x h e =
    elim (p y)
    as (λ b. cond b (drop_front p xs) (y ∷ xs) ≡ [] → cond b (drop_front p (xs ++ x ∷ [])) (y ∷ xs ++ x ∷ []) ≡ [])
    [ true ↦ λ f. front_gone p xs x h f | false ↦ λ f. absurd cc ]
    e

front_more : {X : Type 0} (p : X → Bool) (xs zs ys : List X) (y : X) → drop_front p xs ≡ y ∷ ys → drop_front p (xs ++ zs) ≡ (y ∷ ys) ++ zs
front_more p [] zs ys y e = absurd cc
front_more p (x ∷ xs) zs ys y e =
    elim (p x)
    as (λ b. cond b (drop_front p xs) (x ∷ xs) ≡ y ∷ ys → cond b (drop_front p (xs ++ zs)) (x ∷ xs ++ zs) ≡ (y ∷ ys) ++ zs)
    [ true ↦ λ f. front_more p xs zs ys y f | false ↦ λ f. ap (λ w. w ++ zs) f ]
    e

front_grows : {X : Type 0} (p : X → Bool) (xs zs ds : List X) → is_empty ds ≡ false → drop_front p xs ≡ ds → drop_front p (xs ++ zs) ≡ ds ++ zs
front_grows p xs zs [] n e = absurd cc
front_grows p xs zs (d ∷ ds) n e = front_more p xs zs ds d e

-- ---- lists with and without elements

none_in : {X : Type 0} (xs : List X) → false ≡ not (is_empty xs) → xs ≡ []
none_in [] e = refl
none_in (x ∷ xs) e = absurd cc

some_in : {X : Type 0} (xs ys : List X) → true ≡ not (is_empty xs) → is_empty (xs ++ ys) ≡ false
some_in [] ys e = absurd cc
some_in (x ∷ xs) ys e = refl

some_at_end : {X : Type 0} (xs : List X) (x : X) → true ≡ not (is_empty (xs ++ x ∷ []))
some_at_end [] x = refl
some_at_end (y ∷ xs) x = refl

no_none : {X : Type 0} (xs : List X) {A : Type 0} → true ≡ not (is_empty xs) → is_empty xs ≡ true → A
no_none [] e f = absurd cc
no_none (x ∷ xs) e f = absurd cc

-- ---- lines behind line feeds

abbrev feeds : List (List ℕ) → List ℕ
feeds ls = flat_map (λ l. 10 ∷ l) ls

feeds-append : (xs ys : List (List ℕ)) → feeds (xs ++ ys) ≡ feeds xs ++ feeds ys
feeds-append [] ys = refl
feeds-append (x ∷ xs) ys = ap (λ w. 10 ∷ (x ++ w)) (feeds-append xs ys) ∙ ap (λ w. 10 ∷ w) (sym (append_assoc x (feeds xs) (feeds ys)))

feeds_more : (ws : List (List ℕ)) (x : List ℕ) → feeds (ws ++ x ∷ []) ≡ feeds ws ++ 10 ∷ x
feeds_more ws x = feeds-append ws (x ∷ []) ∙ ap (λ w. feeds ws ++ 10 ∷ w) (append-nil x)

joined_more : (kept waiting : List (List ℕ)) (x : List ℕ) (b : Bool) → b ≡ not (is_empty kept) → (is_empty kept ≡ true → waiting ≡ []) → (joined_by (10 ∷ []) kept ++ feeds waiting) ++ cond b (10 ∷ x) x ≡ joined_by (10 ∷ []) ((kept ++ waiting) ++ x ∷ [])
joined_more [] waiting x b e none =
    ap (λ w. feeds w ++ cond b (10 ∷ x) x) (none refl) ∙ (ap (λ (v : Bool). cond v (10 ∷ x) x) e ∙ sym (ap (λ w. joined_by (10 ∷ []) (w ++ x ∷ [])) (none refl)))
joined_more (k ∷ ks) waiting x b e none =
    let all : feeds ((ks ++ waiting) ++ x ∷ []) ≡ (feeds ks ++ feeds waiting) ++ 10 ∷ x = feeds_more (ks ++ waiting) x ∙ ap (λ w. w ++ 10 ∷ x) (feeds-append ks waiting) in
    ap (λ (v : Bool). (joined_by (10 ∷ []) (k ∷ ks) ++ feeds waiting) ++ cond v (10 ∷ x) x) e
    ∙ (ap (λ w. (w ++ feeds waiting) ++ 10 ∷ x) (joined-cons (10 ∷ []) k ks)
    ∙ (ap (λ w. w ++ 10 ∷ x) (append_assoc k (feeds ks) (feeds waiting))
    ∙ (append_assoc k (feeds ks ++ feeds waiting) (10 ∷ x)
    ∙ (ap (λ w. k ++ w) (sym all) ∙ sym (joined-cons (10 ∷ []) k ((ks ++ waiting) ++ x ∷ []))))))

-- ---- fences

fence_on : (ls : List (List ℕ)) (x : List ℕ) (before after : Option Fence) → before ≡ open_behind None ls → after ≡ open_after before (kind_in before x) → after ≡ open_behind None (ls ++ x ∷ [])
fence_on ls x before after e f = f ∙ (ap (λ (o : Option Fence). open_after o (kind_in o x)) e ∙ sym (open_behind-append None ls (x ∷ [])))

pub fence_by : (before after : Option Fence) (l : Kinded) (x : List ℕ) → l ≡ kinded before x → after ≡ open_after before l.kind → after ≡ open_after before (kind_in before x)
fence_by before after l x k f = f ∙ ap (λ (m : Kinded). open_after before m.kind) k

-- ---- one line

pub taken_none : (seen : List (List ℕ)) (x : List ℕ) (p : Passage) → is_blank x ≡ true → p.begun ≡ false → IsPassage seen p → IsPassage (seen ++ x ∷ []) p
taken_none seen x p blank b h =
    let k : h.kept ≡ [] = none_in h.kept (sym b ∙ h.begun) in
    let z : h.kept ++ h.waiting ≡ [] = ap (λ w. w ++ h.waiting) k ∙ h.none (ap is_empty k) in
    record {
      kept = h.kept;
      waiting = h.waiting;
      parts = front_gone is_blank seen x blank (h.parts ∙ z) ∙ sym z;
      ends = h.ends;
      none = h.none;
      text = h.text;
      begun = h.begun;
      left = h.left;
      blanks = h.blanks;
      around = h.around;
    }

pub taken_blank : (seen : List (List ℕ)) (x : List ℕ) (p q : Passage) → is_blank x ≡ true → p.begun ≡ true → string_bytes q.text ≡ string_bytes p.text → q.begun ≡ p.begun → q.left ≡ p.left → string_bytes q.blanks ≡ string_bytes p.blanks ++ 10 ∷ x → q.around ≡ open_after p.around (kind_in p.around x)
    → IsPassage seen p → IsPassage (seen ++ x ∷ []) q
taken_blank seen x p q blank b t g l w a h =
    let some : true ≡ not (is_empty h.kept) = sym b ∙ h.begun in
    let parts : (h.kept ++ h.waiting) ++ x ∷ [] ≡ h.kept ++ (h.waiting ++ x ∷ []) = append_assoc h.kept h.waiting (x ∷ []) in
    record {
      kept = h.kept;
      waiting = h.waiting ++ x ∷ [];
      parts = front_grows is_blank seen (x ∷ []) (h.kept ++ h.waiting) (some_in h.kept h.waiting some) h.parts ∙ parts;
      ends = ap (drop_end is_blank) (sym parts) ∙ (drop_end-gone is_blank (h.kept ++ h.waiting) x blank ∙ h.ends);
      none = λ e. no_none h.kept some e;
      text = t ∙ h.text;
      begun = g ∙ h.begun;
      left = l ∙ h.left;
      blanks = w ∙ (ap (λ v. v ++ 10 ∷ x) h.blanks ∙ sym (feeds_more h.waiting x));
      around = fence_on (h.kept ++ h.waiting) x p.around q.around h.around a ∙ ap (open_behind None) parts;
    }

pub taken_line : (seen : List (List ℕ)) (x with_blanks : List ℕ) (p q : Passage) → is_blank x ≡ false → with_blanks ≡ string_bytes p.text ++ string_bytes p.blanks → string_bytes q.text ≡ with_blanks ++ cond p.begun (10 ∷ x) x → q.begun ≡ true → q.left ≡ q.around → string_bytes q.blanks ≡ []
    → q.around ≡ open_after p.around (kind_in p.around x) → IsPassage seen p → IsPassage (seen ++ x ∷ []) q
taken_line seen x with_blanks p q blank t u g l w a h =
    let all : List (List ℕ) = (h.kept ++ h.waiting) ++ x ∷ [] in
    let behind : q.around ≡ open_behind None all = fence_on (h.kept ++ h.waiting) x p.around q.around h.around a in
    record {
      kept = all;
      waiting = [];
      parts = front_kept is_blank seen x blank ∙ (ap (λ ls. ls ++ x ∷ []) h.parts ∙ sym (append-nil all));
      ends = ap (drop_end is_blank) (append-nil all) ∙ drop_end-kept is_blank (h.kept ++ h.waiting) x blank;
      none = λ e. refl;
      text = u ∙ (ap (λ v. v ++ cond p.begun (10 ∷ x) x) (t ∙ (ap (λ v. v ++ string_bytes p.blanks) h.text ∙ ap (λ v. joined_by (10 ∷ []) h.kept ++ v) h.blanks)) ∙ joined_more h.kept h.waiting x p.begun h.begun h.none);
      begun = g ∙ some_at_end (h.kept ++ h.waiting) x;
      left = l ∙ behind;
      blanks = w;
      around = behind ∙ ap (open_behind None) (sym (append-nil all));
    }

-- ---- all lines

pub passage_turn : (xs : List (Bor (List ℕ))) (x : Bor (List ℕ)) (p : Passage) → IsPassage (map (drop_end is_cr) (texts xs) ++ drop_end is_cr x.now ∷ []) p → IsPassage (map (drop_end is_cr) (texts (xs ++ x ∷ []))) p
passage_turn xs x p h = subst (λ (ls : List (List ℕ)). IsPassage ls p) (sym (ap (map (drop_end is_cr)) (texts-push xs x) ∙ map-append (drop_end is_cr) (texts xs) (x.now ∷ []))) h

pub passage_tidy : (t : List ℕ) (p : Passage) (out new : List ℕ) (left : Option Fence) → IsPassage (clean_pieces t) p → out ≡ string_bytes p.text → left ≡ p.left → new ≡ out ++ closing_text left → new ≡ tidy_markdown t
passage_tidy t p out new left h e f g = tidy_made t out new h.kept left (sym (ap (drop_end is_blank) h.parts ∙ h.ends)) (f ∙ h.left) (e ∙ h.text) g
