-- What entries make of a cell's source and its deltas.
use Rattle.std.proofs.Common.{◌≡◌, ℕ, ◌+◌, ◌<◌, ◌≤◌, ◌==◌, Bool, true, false, if◌then◌else◌, List, [], ◌∷◌, ◌++◌, length, Option, Some, None, refl, sym, ap, subst, ◌∙◌, arith, append_assoc, inl, inr}
use Rattle.std.specs.Prelude.{◌⊎◌, nat_le}
use Rattle.std.specs.Option.{option_map}
use Rattle.std.proofs.lemmas.Bool.{eqb-true}
use Rattle.std.proofs.lemmas.Bool.Decides.{nat_tests}
use Rattle.std.proofs.lemmas.List.{append-nil, length-append}
use Rattle.utf16_text.specs.Units.{unit_count}
use Rattle.delta.specs.declared.Step.{Step}
use Rattle.delta.specs.Steps.{reach_of, broken_cut}
use Rattle.delta.specs.Moves.{FitsText, text_after, transformed, over}
use Rattle.delta_laws.proofs.Laws.{delta_laws}
use Rattle.notebook.specs.declared.parts.Cell.{Cell}
use Rattle.notebook.specs.declared.parts.Parts.{Parts}
use Rattle.notebook.specs.Book.{cells, found, resourced_cell, resourced}
use Rattle.notebook.specs.Rules.{IsNotebook}
use Rattle.notebook.proofs.Sources.{found-resourced}
use Rattle.session_ops.specs.declared.entry.Op.{Op}
use Rattle.session_ops.specs.declared.entry.Op.TheVariants.{Join, Leave, Delta, Report, Queue, Cancel}
use Rattle.session_ops.specs.declared.entry.Call.{Call}
use Rattle.session_ops.specs.declared.entry.Call.TheVariants.{Client as ByClient, Start, Respond}
use Rattle.session_ops.specs.declared.entry.Refusal.{Refusal}
use Rattle.session_ops.specs.declared.entry.Reply.{Reply}
use Rattle.session_ops.specs.declared.entry.Reply.TheVariants.{Applied, Started, Stored, Refused}
use Rattle.session_ops.specs.declared.entry.Entry.{Entry}
use Rattle.session_ops.specs.Deeds.{moved_source}
use Rattle.session_ops.specs.State.{State, Job, Taken, Past, after, after_call, after_op, state_from, taken_by, revision, misfit, split_misfit, reply, HasReplies, jobs_from, jobs_after}
use Rattle.session_ops.specs.Structure.{change_of}
use Rattle.client_sync.specs.Client.{Pending, joined_client}
use Rattle.client_sync.specs.Fits.{HasSource}
use Rattle.session_ops.proofs.Deeds.{IsTaken, applied-taken}
use Rattle.session_ops.proofs.Live.{found-number}
use Rattle.world.specs.Applied.{applied_by, applied_in, is_own_call, text_after_each, FitInTurn}
use Rattle.world.proofs.Changing.{IsPassing, Stays, Goes, Begins, IsGrown, live-below, call-passing, call-grown, is_applied, once-taken}
use Rattle.world.proofs.Quiet.{quiet-edits, quiet-own}

-- a delta fits a text where nothing keeps it from it
split-none : (o : Option ℕ) → split_misfit o ≡ None → o ≡ None
split-none None e = refl
split-none (Some at) e = absurd (cc e)

pub fits-from : (d : List Step) (t : List ℕ) → misfit d t ≡ None → FitsText d t
fits-from d t e =
    elim (nat_le (reach_of d) (unit_count t))
    as (λ b. nat_le (reach_of d) (unit_count t) ≡ b → (if b then split_misfit (broken_cut d t) else Some (Past (unit_count t))) ≡ None → FitsText d t)
    [ true ↦ λ le k. record { within = grind (arith, nat_tests, le); whole = split-none (broken_cut d t) k } | false ↦ λ le k. absurd (cc k) ]
    refl
    e

pub misfit-from : (d : List Step) (t : List ℕ) → FitsText d t → misfit d t ≡ None
misfit-from d t f =
    ap (λ b. if b then split_misfit (broken_cut d t) else Some (Past (unit_count t))) {y = true} (grind (arith, nat_tests, f.within)) ∙ ap split_misfit f.whole

-- a delta that fits a text, moved over deltas that fit it in turn, fits what they make of it
pub over-fits : (i : List Step) (t : List ℕ) (xs : List (List Step)) → FitsText i t → FitInTurn t xs → FitsText (over i xs) (text_after_each t xs)
over-fits i t [] f run = f
over-fits i t (x ∷ xs) f run = over-fits (transformed false x i) (text_after x t) xs (delta_laws.moved false x i t run.0 f).right_fits run.1

-- a delta moved over some and then over others
pub over-append : (i : List Step) (xs ys : List (List Step)) → over i (xs ++ ys) ≡ over (over i xs) ys
over-append i [] ys = refl
over-append i (x ∷ xs) ys = over-append (transformed false x i) xs ys

-- a cell with another source is found where it was
pub found-with : (f : Cell → List ℕ) (k : ℕ) (c : Cell) (n : Parts) → found k (cells n) ≡ Some c → found k (cells (resourced f n)) ≡ Some (resourced_cell f c)
found-with f k c n e = found-resourced f k n ∙ ap (option_map (resourced_cell f)) e

moved-one : (j k : ℕ) (x : List Step) (c : Cell) → c.id ≡ k → moved_source j x c ≡ text_after_each c.source (if j == k then x ∷ [] else [])
moved-one j k x c e =
    elim (j == k)
    as (λ b. (j == k) ≡ b → (if c.id == j then text_after x c.source else c.source) ≡ text_after_each c.source (if b then x ∷ [] else [])) [
      | true ↦ λ t. ap (λ b. if b then text_after x c.source else c.source) {y = true} (grind (arith, nat_tests, t, e))
      | false ↦ λ t. ap (λ b. if b then text_after x c.source else c.source) {y = false} (grind (arith, nat_tests, t, e))
    ]
    refl

-- a cell lived once and lives no more
pub record IsGone (n : Parts) (k : ℕ) : Type 0 where
  pub none : found k (cells n) ≡ None
  pub below : k < n.next_cell

-- what is so of calls that apply no delta
pub applied-none : (call : Call) (answer : Reply) (k : ℕ) → is_applied call answer ≡ false → applied_by k call answer ≡ []
applied-none (ByClient n (Delta j base d)) (Applied rev x) k e = absurd (cc e)
applied-none (ByClient n op) (Refused why) k e = refl
applied-none (ByClient n op) answer k e = quiet-edits k (change_of op)
applied-none (Start lane) answer k e = refl
applied-none (Respond eval shown) answer k e = refl

pub own-none : (call : Call) (answer : Reply) (n k : ℕ) → is_applied call answer ≡ false → is_own_call n k call answer ≡ false
own-none (ByClient m (Delta j base d)) (Applied rev x) n k e = absurd (cc e)
own-none (ByClient m op) (Refused why) n k e = refl
own-none (ByClient m op) answer n k e = quiet-own n k (change_of op)
own-none (Start lane) answer n k e = refl
own-none (Respond eval shown) answer n k e = refl

-- the deltas that a cell took
more-of : (b : Bool) (d : List Step) (xs ys : List (List Step)) → (if b then d ∷ (xs ++ ys) else xs ++ ys) ≡ (if b then d ∷ xs else xs) ++ ys
more-of true d xs ys = refl
more-of false d xs ys = refl

taken-append : (k : ℕ) (ts : List Taken) (t : Taken) → taken_by k (ts ++ t ∷ []) ≡ taken_by k ts ++ (if t.cell == k then t.delta ∷ [] else [])
taken-append k [] t = refl
taken-append k (u ∷ ts) t = rw (taken-append k ts t) (more-of (u.cell == k) u.delta (taken_by k ts) (if t.cell == k then t.delta ∷ [] else []))

applied-refused : (k n : ℕ) (op : Op) (why : Refusal) → applied_by k (ByClient n op) (Refused why) ≡ []
applied-refused k n (Delta j base d) why = refl
applied-refused k n op why = refl

op-taken : (s : State) (n : ℕ) (op : Op) (answer : Reply) (k : ℕ) → taken_by k (after_op s n op answer).taken ≡ taken_by k s.taken ++ applied_by k (ByClient n op) answer
op-taken s n op (Refused why) k = sym (ap (λ xs. taken_by k s.taken ++ xs) (applied-refused k n op why) ∙ append-nil (taken_by k s.taken))
op-taken s n Join answer k = sym (append-nil (taken_by k s.taken))
op-taken s n Leave answer k = sym (append-nil (taken_by k s.taken))
op-taken s n (Delta j base d) (Applied rev x) k = taken-append k s.taken (record { cell = j; delta = x })
op-taken s n (Report j rev) answer k = sym (append-nil (taken_by k s.taken))
op-taken s n (Queue j) answer k = sym (append-nil (taken_by k s.taken))
op-taken s n (Cancel j) answer k = sym (append-nil (taken_by k s.taken))
op-taken s n op answer k = ap (λ ts. taken_by k ts) (once-taken s (change_of op)) ∙ sym (append-nil (taken_by k s.taken))

pub call-taken : (s : State) (call : Call) (answer : Reply) (k : ℕ) → taken_by k (after_call s call answer).taken ≡ taken_by k s.taken ++ applied_by k call answer
call-taken s (ByClient n op) answer k = op-taken s n op answer k
call-taken s (Start lane) (Started eval cell) k = sym (append-nil (taken_by k s.taken))
call-taken s (Respond eval shown) (Stored e) k = sym (append-nil (taken_by k s.taken))
call-taken s call answer k = sym (append-nil (taken_by k s.taken))

pub after-taken : (s : State) (e : Entry) (k : ℕ) → taken_by k (after s e).taken ≡ taken_by k s.taken ++ applied_by k e.call e.reply
after-taken s e k = call-taken s e.call e.reply k

-- a cell has taken what the entries applied to it
pub from-taken : (s : State) (es : List Entry) (k : ℕ) → taken_by k (state_from s es).taken ≡ taken_by k s.taken ++ applied_in k es
from-taken s [] k = sym (append-nil (taken_by k s.taken))
from-taken s (e ∷ es) k = from-taken (after s e) es k ∙ (ap (λ xs. xs ++ applied_in k es) (after-taken s e k) ∙ append_assoc (taken_by k s.taken) (applied_by k e.call e.reply) (applied_in k es))

-- a cell has one source
pub one-source : (n : Parts) (k : ℕ) (t : List ℕ) (c : Cell) → HasSource n k t → found k (cells n) ≡ Some c → c.source ≡ t
one-source n k t c h e = let same : h.own ≡ c = cc (h.there, e) in subst (λ x. x.source ≡ t) same h.source

-- no delta is applied to a cell that is gone
call-gone-applied : (s : State) (call : Call) (answer : Reply) (k : ℕ) → answer ≡ reply s call → IsGone s.book k → applied_by k call answer ≡ []
call-gone-applied s (ByClient n (Delta j base d)) (Applied rev x) k e gone =
    let is : IsTaken s j rev x = applied-taken s n j base rev d x (sym e) in
    elim (j == k)
    as (λ b. (j == k) ≡ b → (if b then x ∷ [] else []) ≡ [])
    [ true ↦ λ t. let wrong : Some is.own ≡ None = sym is.there ∙ subst (λ i. found i (cells s.book) ≡ None) (sym (eqb-true j k t)) gone.none in absurd (cc wrong) | false ↦ λ t. refl ]
    refl
call-gone-applied s call answer k e gone = applied-none call answer k refl

passed-gone : (s t : State) (ps ps' : List Pending) (k : ℕ) → IsGrown s.book t.book → IsGone s.book k → IsPassing s.book t.book ps ps' k → IsGone t.book k
passed-gone s t ps ps' k grown gone (Stays e same) = record { none = e ∙ gone.none; below = let lt : k < s.book.next_cell = gone.below in let le : s.book.next_cell ≤ t.book.next_cell = grown.1 in omega (arith, lt, le) }
passed-gone s t ps ps' k grown gone (Goes e same) = record { none = e; below = let lt : k < s.book.next_cell = gone.below in let le : s.book.next_cell ≤ t.book.next_cell = grown.1 in omega (arith, lt, le) }
passed-gone s t ps ps' k grown gone (Begins e is same) = let lt : k < s.book.next_cell = gone.below in absurd (omega (arith, lt, is))

by-applied : (P : Call → Reply → Type 0) → ((n j base rev : ℕ) (d x : List Step) → P (ByClient n (Delta j base d)) (Applied rev x)) → (call : Call) (answer : Reply) → (is_applied call answer ≡ false → P call answer) → P call answer
by-applied P f (ByClient n (Delta j base d)) (Applied rev x) g = f n j base rev d x
by-applied P f call answer g = g refl

-- a cell that is gone stays so
pub call-gone : (s : State) (call : Call) (answer : Reply) (k : ℕ) → IsNotebook s.book → answer ≡ reply s call → IsGone s.book k → IsGone (after_call s call answer).book k
call-gone s call answer k h e gone =
    by-applied (λ c a. a ≡ reply s c → IsGone (after_call s c a).book k) (λ n j base rev d x right. record { none = found-resourced (moved_source j x) k s.book ∙ ap (option_map (resourced_cell (moved_source j x))) gone.none; below = gone.below }) call answer
    (λ other right. passed-gone s (after_call s call answer) _ _ k (call-grown s call answer h) gone (call-passing s call answer (joined_client 0 []) k h right other)) e

-- a live cell goes on being there with what a call applied to its source, or is gone
abbrev pub Fate : Parts → ℕ → List ℕ → Type 0
Fate n k t = HasSource n k t ⊎ IsGone n k

passed-fate : (s t : State) (ps ps' : List Pending) (k : ℕ) (text : List ℕ) (xs : List (List Step)) → IsNotebook s.book → IsGrown s.book t.book → xs ≡ [] → HasSource s.book k text → IsPassing s.book t.book ps ps' k → Fate t.book k (text_after_each text xs)
passed-fate s t ps ps' k text xs h grown none there (Stays e same) = inl (record { own = there.own; there = e ∙ there.there; source = there.source ∙ sym (ap (text_after_each text) none) })
passed-fate s t ps ps' k text xs h grown none there (Goes e same) =
    let lt : k < s.book.next_cell = live-below s.book k there.own h there.there in
    let le : s.book.next_cell ≤ t.book.next_cell = grown.1 in
    inr (record { none = e; below = omega (arith, lt, le) })
passed-fate s t ps ps' k text xs h grown none there (Begins e is same) = let wrong : None ≡ Some there.own = sym e ∙ there.there in absurd (cc wrong)

pub taken-source : (s : State) (j : ℕ) (x : List Step) (k : ℕ) (t : List ℕ) → HasSource s.book k t → HasSource (resourced (moved_source j x) s.book) k (text_after_each t (if j == k then x ∷ [] else []))
taken-source s j x k t h =
    record {
      own = resourced_cell (moved_source j x) h.own;
      there = found-with (moved_source j x) k h.own s.book h.there;
      source = moved-one j k x h.own (found-number k (cells s.book) h.own h.there) ∙ ap (λ u. text_after_each u (if j == k then x ∷ [] else [])) h.source;
    }

pub call-source : (s : State) (call : Call) (answer : Reply) (k : ℕ) (t : List ℕ) → IsNotebook s.book → answer ≡ reply s call → HasSource s.book k t → Fate (after_call s call answer).book k (text_after_each t (applied_by k call answer))
call-source s call answer k t h e there =
    by-applied (λ c a. a ≡ reply s c → Fate (after_call s c a).book k (text_after_each t (applied_by k c a))) (λ n j base rev d x right. inl (taken-source s j x k t there)) call answer
    (λ other right. passed-fate s (after_call s call answer) _ _ k t (applied_by k call answer) h (call-grown s call answer h) (applied-none call answer k other) there (call-passing s call answer (joined_client 0 []) k h right other)) e

-- an applied delta leaves each cell where it is
pub applied-source : (s : State) (e : Entry) (k : ℕ) (t : List ℕ) → is_applied e.call e.reply ≡ true → HasSource s.book k t → HasSource (after s e).book k (text_after_each t (applied_by k e.call e.reply))
applied-source s e k t is there =
    by-applied (λ c a. is_applied c a ≡ true → HasSource (after_call s c a).book k (text_after_each t (applied_by k c a))) (λ n j base rev d x yes. taken-source s j x k t there) e.call e.reply (λ other yes. let wrong : true ≡ false = sym yes ∙ other in absurd (cc wrong)) is

each-append : (t : List ℕ) (xs ys : List (List Step)) → text_after_each t (xs ++ ys) ≡ text_after_each (text_after_each t xs) ys
each-append t [] ys = refl
each-append t (x ∷ xs) ys = each-append (text_after x t) xs ys

pub from-grown : (s : State) (es : List Entry) → IsNotebook s.book → IsGrown s.book (state_from s es).book
from-grown s [] h = (h, omega arith)
from-grown s (e ∷ es) h =
    let one : IsGrown s.book (after s e).book = call-grown s e.call e.reply h in
    let rest : IsGrown (after s e).book (state_from (after s e) es).book = from-grown (after s e) es one.0 in
    let first : s.book.next_cell ≤ (after s e).book.next_cell = one.1 in
    let then_on : (after s e).book.next_cell ≤ (state_from (after s e) es).book.next_cell = rest.1 in
    (rest.0, omega (arith, first, then_on))

pub from-gone : (s : State) (js : List Job) (es : List Entry) (k : ℕ) → IsNotebook s.book → HasReplies s js es → IsGone s.book k → IsGone (state_from s es).book k × (applied_in k es ≡ [])
from-gone s js [] k h r gone = (gone, refl)
from-gone s js (e ∷ es) k h r gone =
    let rest : IsGone (state_from s (e ∷ es)).book k × (applied_in k es ≡ []) = from-gone (after s e) (jobs_after s js e.by e.call e.reply) es k (call-grown s e.call e.reply h).0 r.1.1 (call-gone s e.call e.reply k h r.1.0 gone) in
    (rest.0, ap (λ xs. xs ++ applied_in k es) (call-gone-applied s e.call e.reply k r.1.0 gone) ∙ rest.1)

-- through legal entries a live cell goes on being there, with the deltas applied to its source, or is gone
pub from-source : (s : State) (js : List Job) (es : List Entry) (k : ℕ) (t : List ℕ) → IsNotebook s.book → HasReplies s js es → HasSource s.book k t → Fate (state_from s es).book k (text_after_each t (applied_in k es))
from-source s js [] k t h r there = inl there
from-source s js (e ∷ es) k t h r there =
    let js1 : List Job = jobs_after s js e.by e.call e.reply in
    let h1 : IsNotebook (after s e).book = (call-grown s e.call e.reply h).0 in
    elim (call-source s e.call e.reply k t h r.1.0 there)
    as (λ f. Fate (state_from (after s e) es).book k (text_after_each t (applied_by k e.call e.reply ++ applied_in k es))) [
      | inl there1 ↦ subst (Fate (state_from (after s e) es).book k) (sym (each-append t (applied_by k e.call e.reply) (applied_in k es))) (from-source (after s e) js1 es k (text_after_each t (applied_by k e.call e.reply)) h1 r.1.1 there1)
      | inr gone ↦ inr (from-gone (after s e) js1 es k h1 r.1.1 gone).0
    ]

call-fits : (s : State) (call : Call) (answer : Reply) (k : ℕ) (t : List ℕ) → HasSource s.book k t → answer ≡ reply s call → FitInTurn t (applied_by k call answer)
call-fits s (ByClient n (Delta j base d)) (Applied rev x) k t h e =
    let is : IsTaken s j rev x = applied-taken s n j base rev d x (sym e) in
    elim (j == k)
    as (λ b. (j == k) ≡ b → FitInTurn t (if b then x ∷ [] else [])) [
      | true ↦ λ same. let there : found k (cells s.book) ≡ Some is.own = subst (λ i. found i (cells s.book) ≡ Some is.own) (eqb-true j k same) is.there in
          (subst (FitsText x) (one-source s.book k t is.own h there) is.fits, tt)
      | false ↦ λ same. tt
    ]
    refl
call-fits s call answer k t h e = subst (FitInTurn t) (sym (applied-none call answer k refl)) tt

turn-append : (t : List ℕ) (xs ys : List (List Step)) → FitInTurn t xs → FitInTurn (text_after_each t xs) ys → FitInTurn t (xs ++ ys)
turn-append t [] ys a b = b
turn-append t (x ∷ xs) ys a b = (a.0, turn-append (text_after x t) xs ys a.1 b)

-- the deltas that legal entries applied to a cell fit its source in turn
pub from-fits : (s : State) (js : List Job) (es : List Entry) (k : ℕ) (t : List ℕ) → IsNotebook s.book → HasSource s.book k t → HasReplies s js es → FitInTurn t (applied_in k es)
from-fits s js [] k t h there r = tt
from-fits s js (e ∷ es) k t h there r =
    let js1 : List Job = jobs_after s js e.by e.call e.reply in
    let h1 : IsNotebook (after s e).book = (call-grown s e.call e.reply h).0 in
    turn-append t (applied_by k e.call e.reply) (applied_in k es) (call-fits s e.call e.reply k t there r.1.0)
    (elim (call-source s e.call e.reply k t h r.1.0 there)
    as (λ f. FitInTurn (text_after_each t (applied_by k e.call e.reply)) (applied_in k es)) [
      | inl there1 ↦ from-fits (after s e) js1 es k (text_after_each t (applied_by k e.call e.reply)) h1 there1 r.1.1
      | inr gone ↦ subst (FitInTurn (text_after_each t (applied_by k e.call e.reply))) (sym (from-gone (after s e) js1 es k h1 r.1.1 gone).1) tt
    ])

-- entries one after the other
pub from-more : (s : State) (h es : List Entry) → state_from s (h ++ es) ≡ state_from (state_from s h) es
from-more s [] es = refl
from-more s (e ∷ h) es = from-more (after s e) h es

pub rest-replies : (s : State) (js : List Job) (h es : List Entry) → HasReplies s js (h ++ es) → HasReplies (state_from s h) (jobs_from s js h) es
rest-replies s js [] es r = r
rest-replies s js (e ∷ h) es r = rest-replies (after s e) (jobs_after s js e.by e.call e.reply) h es r.1.1

pub grown-revision : (s : State) (e : Entry) (k : ℕ) → revision (after s e) k ≡ revision s k + length (applied_by k e.call e.reply)
grown-revision s e k = ap length (after-taken s e k) ∙ length-append (taken_by k s.taken) (applied_by k e.call e.reply)
