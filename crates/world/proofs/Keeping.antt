-- A client goes on standing to the history as it should, cell by cell: when others call, and when it receives.
use Rattle.std.proofs.Common.{◌≡◌, ℕ, ◌+◌, ◌<◌, ◌≤◌, true, false, List, [], ◌∷◌, ◌++◌, length, drop, Option, Some, None, refl, sym, ap, subst, ◌∙◌, arith, append_assoc, inl, inr}
use Rattle.std.specs.Prelude.{◌⊎◌}
use Rattle.std.proofs.lemmas.Bool.Decides.{nat_tests}
use Rattle.std.proofs.lemmas.List.{length-append, drop-append-le}
use Rattle.delta.specs.declared.Step.{Step}
use Rattle.delta.specs.Moves.{FitsText, text_after, transformed, over}
use Rattle.delta_laws.specs.Laws.{IsPairMoved}
use Rattle.delta_laws.proofs.Laws.{delta_laws}
use Rattle.notebook.specs.declared.parts.Cell.{Cell}
use Rattle.notebook.specs.Book.{cells, found}
use Rattle.notebook.specs.Rules.{IsNotebook}
use Rattle.session_ops.specs.declared.entry.Op.{Op}
use Rattle.session_ops.specs.declared.entry.Op.TheVariants.{Delta}
use Rattle.session_ops.specs.declared.entry.Call.TheVariants.{Client as ByClient}
use Rattle.session_ops.specs.declared.entry.Reply.TheVariants.{Applied}
use Rattle.session_ops.specs.declared.entry.Entry.{Entry}
use Rattle.session_ops.specs.State.{State, state_from, after, taken_by, revision, floor}
use Rattle.session_ops.proofs.Lists.{all-append}
use Rattle.client_sync.specs.Client.{Pending, pending_of}
use Rattle.client_sync.specs.Fits.{HasSource, FitsHere}
use Rattle.world.specs.Applied.{applied_by, applied_in, is_own, is_own_call, HasNoOwn}
use Rattle.world.specs.Waiting.{Message, Edits, Reports, messages_for, AreReports, IsPosted, IsWaiting, IsReturning, IsLost, IsQuiet, IsKeptLive, IsUntouched, IsKeptDead, IsKept}
use Rattle.world.proofs.Changing.{IsPassing, Stays, Goes, Begins, call-grown, live-below}
use Rattle.world.proofs.Moving.{IsGone, from-more, from-grown, after-taken, grown-revision, over-append}
use Rattle.world.proofs.Pendings.{shifted, shifted_option}

-- an entry that is not the client's own, and tells nothing of it, as one cell sees it; a cell that is gone stays so
pub record IsOthers (s : State) (n k : ℕ) (e : Entry) : Type 0 where
  pub other : is_own n k e ≡ false
  pub same : floor n k (after s e).known ≡ floor n k s.known
  pub gone : IsGone s.book k → IsGone (after s e).book k

pub own-append : (n k : ℕ) (es : List Entry) (e : Entry) → HasNoOwn n k es → is_own n k e ≡ false → HasNoOwn n k (es ++ e ∷ [])
own-append n k es e none x = all-append (λ y. is_own n k y ≡ false) es (e ∷ []) none (x, tt)

later-known : (s : State) (later : List Entry) (n k top : ℕ) (e : Entry) → IsOthers (state_from s later) n k e → floor n k (state_from s later).known ≤ top → floor n k (state_from s (later ++ e ∷ [])).known ≤ top
later-known s later n k top e f le = subst (λ m. m ≤ top) (sym (ap (λ t. floor n k t.known) (from-more s later (e ∷ [])) ∙ f.same)) le

waiting-more : (s : State) (later : List Entry) (n k : ℕ) (ops : List Op) (i : List Step) (e : Entry) → IsOthers (state_from s later) n k e → IsWaiting s later n k ops i → IsWaiting s (later ++ e ∷ []) n k ops i
waiting-more s later n k ops i e f w =
    record { base = w.base; delta = w.delta; before = w.before; after = w.after; only = w.only; reports_before = w.reports_before; reports_after = w.reports_after; posted = w.posted; known = later-known s later n k w.base e f w.known; none = own-append n k later e w.none f.other }

returning-more : (s : State) (later : List Entry) (n k : ℕ) (ops : List Op) (i : List Step) (e : Entry) → IsOthers (state_from s later) n k e → IsReturning s later n k ops i → IsReturning s (later ++ e ∷ []) n k ops i
returning-more s later n k ops i e f r =
    record {
      base = r.base;
      delta = r.delta;
      gone = r.gone;
      posted = r.posted;
      before = r.before;
      own = r.own;
      rest = r.rest ++ e ∷ [];
      parts = ap (λ x. x ++ e ∷ []) r.parts ∙ append_assoc r.before (r.own ∷ r.rest) (e ∷ []);
      call = r.call;
      rev = r.rev;
      answer = r.answer;
      none_before = r.none_before;
      none_after = own-append n k r.rest e r.none_after f.other;
      known = later-known s later n k (revision s k + length (applied_in k r.before) + 1) e f r.known;
    }

-- a cell that lived and isn't found any more is gone
pub gone-later : (s : State) (later : List Entry) (k : ℕ) (c : Cell) → IsNotebook s.book → found k (cells s.book) ≡ Some c → found k (cells (state_from s later).book) ≡ None → IsGone (state_from s later).book k
gone-later s later k c h there none =
    let lt : k < s.book.next_cell = live-below s.book k c h there in
    let le : s.book.next_cell ≤ (state_from s later).book.next_cell = (from-grown s later h).1 in
    record { none = none; below = omega (arith, lt, le) }

lost-more : (s : State) (later : List Entry) (n k : ℕ) (ops : List Op) (i : List Step) (c : Cell) (e : Entry) → IsNotebook s.book → found k (cells s.book) ≡ Some c → IsOthers (state_from s later) n k e → IsLost s later n k ops i → IsLost s (later ++ e ∷ []) n k ops i
lost-more s later n k ops i c e h there f l =
    record {
      base = l.base;
      delta = l.delta;
      gone = l.gone;
      posted = l.posted;
      before = l.before;
      own = l.own;
      rest = l.rest ++ e ∷ [];
      parts = ap (λ x. x ++ e ∷ []) l.parts ∙ append_assoc l.before (l.own ∷ l.rest) (e ∷ []);
      call = l.call;
      answer = l.answer;
      late = l.late;
      deleted = ap (λ t. found k (cells t.book)) (from-more s later (e ∷ [])) ∙ (f.gone (gone-later s later k c h there l.deleted)).none;
      none = own-append n k later e l.none f.other;
    }

live-more : (s : State) (later : List Entry) (n k : ℕ) (ops : List Op) (c : Cell) (o : Option Pending) (e : Entry) → IsNotebook s.book → found k (cells s.book) ≡ Some c → IsOthers (state_from s later) n k e → IsKeptLive s later n k ops o → IsKeptLive s (later ++ e ∷ []) n k ops o
live-more s later n k ops c None e h there f q = record { gone = q.gone; known = later-known s later n k (revision s k) e f q.known; none = own-append n k later e q.none f.other }
live-more s later n k ops c (Some p) e h there f (fits, inl w) = (fits, inl (waiting-more s later n k ops p.flight e f w))
live-more s later n k ops c (Some p) e h there f (fits, inr (inl r)) = (fits, inr (inl (returning-more s later n k ops p.flight e f r)))
live-more s later n k ops c (Some p) e h there f (fits, inr (inr l)) = (fits, inr (inr (lost-more s later n k ops p.flight c e h there f l)))

untouched-more : (s : State) (later : List Entry) (n k : ℕ) (ops : List Op) (e : Entry) → IsOthers (state_from s later) n k e → IsUntouched s later n k ops → IsUntouched s (later ++ e ∷ []) n k ops
untouched-more s later n k ops e f u = record { gone = u.gone; known = ap (λ t. floor n k t.known) (from-more s later (e ∷ [])) ∙ (f.same ∙ u.known); none = own-append n k later e u.none f.other }

-- a later entry of another's
pub kept-more : (s : State) (later : List Entry) (n k : ℕ) (ops : List Op) (own : Option Cell) (o : Option Pending) (e : Entry) → IsNotebook s.book → found k (cells s.book) ≡ own → IsOthers (state_from s later) n k e → IsKept s later n k ops own o → IsKept s (later ++ e ∷ []) n k ops own o
kept-more s later n k ops None o e h is f d = record { nothing = d.nothing; untouched = λ le. untouched-more s later n k ops e f (d.untouched le) }
kept-more s later n k ops (Some c) o e h is f live = live-more s later n k ops c o e h is f live

-- other messages of the outbox
live-ops : (s : State) (later : List Entry) (n k : ℕ) (ops ops' : List Op) (o : Option Pending) → messages_for k ops' ≡ messages_for k ops → IsKeptLive s later n k ops o → IsKeptLive s later n k ops' o
live-ops s later n k ops ops' None same q = record { gone = subst (AreReports (revision s k)) (sym same) q.gone; known = q.known; none = q.none }
live-ops s later n k ops ops' (Some p) same (fits, inl w) =
    (fits, inl (record { base = w.base; delta = w.delta; before = w.before; after = w.after; only = same ∙ w.only; reports_before = w.reports_before; reports_after = w.reports_after; posted = w.posted; known = w.known; none = w.none }))
live-ops s later n k ops ops' (Some p) same (fits, inr (inl r)) = (
  fits,
  inr (inl (record { base = r.base; delta = r.delta; gone = subst (AreReports (revision s k)) (sym same) r.gone; posted = r.posted; before = r.before; own = r.own; rest = r.rest; parts = r.parts; call = r.call; rev = r.rev; answer = r.answer; none_before = r.none_before; none_after = r.none_after; known = r.known })),
)
live-ops s later n k ops ops' (Some p) same (fits, inr (inr l)) = (
  fits,
  inr (inr (record { base = l.base; delta = l.delta; gone = subst (AreReports (revision s k)) (sym same) l.gone; posted = l.posted; before = l.before; own = l.own; rest = l.rest; parts = l.parts; call = l.call; answer = l.answer; late = l.late; deleted = l.deleted; none = l.none })),
)

pub kept-ops : (s : State) (later : List Entry) (n k : ℕ) (ops ops' : List Op) (own : Option Cell) (o : Option Pending) → messages_for k ops' ≡ messages_for k ops → IsKept s later n k ops own o → IsKept s later n k ops' own o
kept-ops s later n k ops ops' None o same d = record { nothing = d.nothing; untouched = λ le. record { gone = same ∙ (d.untouched le).gone; known = (d.untouched le).known; none = (d.untouched le).none } }
kept-ops s later n k ops ops' (Some c) o same live = live-ops s later n k ops ops' o same live

-- reports stay of revisions that there are
pub reports-weaker : (low high : ℕ) (ms : List Message) → low ≤ high → AreReports low ms → AreReports high ms
reports-weaker low high [] le rs = tt
reports-weaker low high (Edits base d ∷ ms) le rs = absurd rs.0
reports-weaker low high (Reports rev ∷ ms) le rs = (let up : rev ≤ low = rs.0 in omega (arith, up, le), reports-weaker low high ms le rs.1)

reports-next : (s : State) (e : Entry) (k : ℕ) (ms : List Message) → AreReports (revision s k) ms → AreReports (revision (after s e) k) ms
reports-next s e k ms rs = reports-weaker (revision s k) (revision (after s e) k) ms (rw (grown-revision s e k) (omega arith)) rs

-- what is in flight, after one more entry was received
posted-next : (s : State) (e : Entry) (k base : ℕ) (delta i : List Step) → IsPosted s k base delta i → IsPosted (after s e) k base delta (over i (applied_by k e.call e.reply))
posted-next s e k base delta i p =
    let xs : List (List Step) = applied_by k e.call e.reply in
    let early : base ≤ revision s k = p.early in
    record {
      early = rw (grown-revision s e k) (omega (arith, early));
      moved = ap (λ d. over d xs) p.moved
          ∙ (sym (over-append delta (drop base (taken_by k s.taken)) xs) ∙ ap (over delta) (sym (ap (drop base) (after-taken s e k) ∙ drop-append-le base (taken_by k s.taken) xs early)));
    }

own-true : (n k base rev : ℕ) (d x : List Step) → is_own_call n k (ByClient n (Delta k base d)) (Applied rev x) ≡ true
own-true n k base rev d x = grind (arith, nat_tests)

pub own-entry : (n k base rev : ℕ) (d x : List Step) (e : Entry) → e.call ≡ ByClient n (Delta k base d) → e.reply ≡ Applied rev x → is_own n k e ≡ true
own-entry n k base rev d x e call answer = ap (λ c. is_own_call n k c e.reply) call ∙ (ap (is_own_call n k (ByClient n (Delta k base d))) answer ∙ own-true n k base rev d x)

first-of : (x y : Entry) (xs ys : List Entry) → x ∷ xs ≡ y ∷ ys → (x ≡ y) × (xs ≡ ys)
first-of x y xs ys e = (cc e, cc e)

-- what comes back is not the entry that was received
pub record IsSplit (e : Entry) (es before : List Entry) (own : Entry) (rest : List Entry) : Type 0 where
  pub front : List Entry
  pub is : before ≡ e ∷ front
  pub parts : es ≡ front ++ own ∷ rest

split-other : (n k : ℕ) (e own : Entry) (es before rest : List Entry) → is_own n k e ≡ false → is_own n k own ≡ true → e ∷ es ≡ before ++ own ∷ rest → IsSplit e es before own rest
split-other n k e own es [] rest other mine parts =
    let same : e ≡ own = (first-of e own es rest parts).0 in
    let wrong : true ≡ false = sym mine ∙ (ap (is_own n k) (sym same) ∙ other) in
    absurd (cc wrong)
split-other n k e own es (b ∷ bs) rest other mine parts =
    let both : (e ≡ b) × (es ≡ bs ++ own ∷ rest) = first-of e b es (bs ++ own ∷ rest) parts in
    record { front = bs; is = ap (λ x. x ∷ bs) (sym both.0); parts = both.1 }

returning-next : (s : State) (e : Entry) (es : List Entry) (n k : ℕ) (ops : List Op) (i : List Step) → is_own n k e ≡ false → IsReturning s (e ∷ es) n k ops i → IsReturning (after s e) es n k ops (over i (applied_by k e.call e.reply))
returning-next s e es n k ops i other r =
    let xs : List (List Step) = applied_by k e.call e.reply in
    let cut : IsSplit e es r.before r.own r.rest = split-other n k e r.own es r.before r.rest other (own-entry n k r.base r.rev r.delta (over i (applied_in k r.before)) r.own r.call r.answer) r.parts in
    let front : applied_in k r.before ≡ xs ++ applied_in k cut.front = ap (applied_in k) cut.is in
    let known : floor n k (state_from s (e ∷ es)).known ≤ revision s k + length (applied_in k r.before) + 1 = r.known in
    let len : length (applied_in k r.before) ≡ length xs + length (applied_in k cut.front) = ap length front ∙ length-append xs (applied_in k cut.front) in
    let none : HasNoOwn n k (e ∷ cut.front) = subst (HasNoOwn n k) cut.is r.none_before in
    record {
      base = r.base;
      delta = r.delta;
      gone = reports-next s e k (messages_for k ops) r.gone;
      posted = posted-next s e k r.base r.delta i r.posted;
      before = cut.front;
      own = r.own;
      rest = r.rest;
      parts = cut.parts;
      call = r.call;
      rev = r.rev;
      answer = r.answer ∙ ap (Applied r.rev) (ap (over i) front ∙ over-append i xs (applied_in k cut.front));
      none_before = none.1;
      none_after = r.none_after;
      known = rw (grown-revision s e k) (omega (arith, known, len));
    }

waiting-next : (s : State) (e : Entry) (es : List Entry) (n k : ℕ) (ops : List Op) (i : List Step) → IsWaiting s (e ∷ es) n k ops i → IsWaiting (after s e) es n k ops (over i (applied_by k e.call e.reply))
waiting-next s e es n k ops i w =
    record { base = w.base; delta = w.delta; before = w.before; after = w.after; only = w.only; reports_before = w.reports_before; reports_after = reports-next s e k w.after w.reports_after; posted = posted-next s e k w.base w.delta i w.posted; known = w.known; none = w.none.1 }

-- where the cell still lives, the refused message is not the entry that was received
lost-next : (s : State) (e : Entry) (es : List Entry) (n k : ℕ) (ops : List Op) (i : List Step) (t : List ℕ) → HasSource s.book k t → (l : IsLost s (e ∷ es) n k ops i) → (before : List Entry) → l.before ≡ before → e ∷ es ≡ before ++ l.own ∷ l.rest → IsLost (after s e) es n k ops (over i (applied_by k e.call e.reply))
lost-next s e es n k ops i t there l [] is parts =
    let wrong : Some there.own ≡ None = sym there.there ∙ (ap (λ xs. found k (cells (state_from s xs).book)) (sym is) ∙ l.late) in
    absurd (cc wrong)
lost-next s e es n k ops i t there l (b ∷ bs) is parts =
    let both : (e ≡ b) × (es ≡ bs ++ l.own ∷ l.rest) = first-of e b es (bs ++ l.own ∷ l.rest) parts in
    record {
      base = l.base;
      delta = l.delta;
      gone = reports-next s e k (messages_for k ops) l.gone;
      posted = posted-next s e k l.base l.delta i l.posted;
      before = bs;
      own = l.own;
      rest = l.rest;
      parts = both.1;
      call = l.call;
      answer = l.answer;
      late = ap (λ x. found k (cells (state_from (after s x) bs).book)) both.0 ∙ (ap (λ xs. found k (cells (state_from s xs).book)) (sym is) ∙ l.late);
      deleted = l.deleted;
      none = l.none.1;
    }

quiet-next : (s : State) (e : Entry) (es : List Entry) (n k : ℕ) (ops : List Op) → IsQuiet s (e ∷ es) n k ops → IsQuiet (after s e) es n k ops
quiet-next s e es n k ops q =
    let known : floor n k (state_from s (e ∷ es)).known ≤ revision s k = q.known in
    record { gone = reports-next s e k (messages_for k ops) q.gone; known = rw (grown-revision s e k) (omega (arith, known)); none = q.none.1 }

-- where the message of what is in flight is, after one more entry was received
abbrev pub IsOnItsWay : State → List Entry → ℕ → ℕ → List Op → List Step → Type 0
IsOnItsWay s later n k ops i = IsWaiting s later n k ops i ⊎ (IsReturning s later n k ops i ⊎ IsLost s later n k ops i)

way-next : (s : State) (e : Entry) (es : List Entry) (n k : ℕ) (ops : List Op) (i j : List Step) (t : List ℕ) → HasSource s.book k t → is_own n k e ≡ false → over i (applied_by k e.call e.reply) ≡ j → IsOnItsWay s (e ∷ es) n k ops i → IsOnItsWay (after s e) es n k ops j
way-next s e es n k ops i j t there other is (inl w) = inl (subst (IsWaiting (after s e) es n k ops) is (waiting-next s e es n k ops i w))
way-next s e es n k ops i j t there other is (inr (inl r)) = inr (inl (subst (IsReturning (after s e) es n k ops) is (returning-next s e es n k ops i other r)))
way-next s e es n k ops i j t there other is (inr (inr l)) = inr (inr (subst (IsLost (after s e) es n k ops) is (lost-next s e es n k ops i t there l l.before refl l.parts)))

-- an entry that did nothing to the cell was received
live-passed : (s : State) (e : Entry) (es : List Entry) (n k : ℕ) (ops : List Op) (o : Option Pending) → is_own n k e ≡ false → applied_by k e.call e.reply ≡ [] → found k (cells (after s e).book) ≡ found k (cells s.book) → IsKeptLive s (e ∷ es) n k ops o → IsKeptLive (after s e) es n k ops o
live-passed s e es n k ops None other none is q = quiet-next s e es n k ops q
live-passed s e es n k ops (Some p) other none is (fits, way) = (
  record { source = fits.source; there = record { own = fits.there.own; there = is ∙ fits.there.there; source = fits.there.source }; flight = fits.flight; buffer = fits.buffer },
  way-next s e es n k ops p.flight p.flight fits.source fits.there other (ap (over p.flight) none) way,
)

untouched-next : (s : State) (e : Entry) (es : List Entry) (n k : ℕ) (ops : List Op) → IsUntouched s (e ∷ es) n k ops → IsUntouched (after s e) es n k ops
untouched-next s e es n k ops u = record { gone = u.gone; known = u.known; none = u.none.1 }

-- what isn't so at a dead cell
dead-next : (s : State) (e : Entry) (es : List Entry) (n k : ℕ) (ops : List Op) (o o' : Option Pending) → IsNotebook s.book → o' ≡ None → IsKeptDead s (e ∷ es) n k ops o → IsKeptDead (after s e) es n k ops o'
dead-next s e es n k ops o o' h none d =
    record {
      nothing = none;
      untouched = λ le. let grown : s.book.next_cell ≤ (after s e).book.next_cell = (call-grown s e.call e.reply h).1 in
          let high : (after s e).book.next_cell ≤ k = le in
          untouched-next s e es n k ops (d.untouched (omega (arith, grown, high)));
    }

pub kept-stays : (s : State) (e : Entry) (es : List Entry) (n k : ℕ) (ops : List Op) (own : Option Cell) (o : Option Pending) → IsNotebook s.book → is_own n k e ≡ false → applied_by k e.call e.reply ≡ [] → found k (cells (after s e).book) ≡ found k (cells s.book) → IsKept s (e ∷ es) n k ops own o → IsKept (after s e) es n k ops own o
kept-stays s e es n k ops None o h other none is d = dead-next s e es n k ops o o h d.nothing d
kept-stays s e es n k ops (Some c) o h other none is live = live-passed s e es n k ops o other none is live

kept-goes : (s : State) (e : Entry) (es : List Entry) (n k : ℕ) (ops : List Op) (own : Option Cell) (o o' : Option Pending) → IsNotebook s.book → found k (cells s.book) ≡ own → o' ≡ None → IsKept s (e ∷ es) n k ops own o → IsKeptDead (after s e) es n k ops o'
kept-goes s e es n k ops None o o' h there none d = dead-next s e es n k ops o o' h none d
kept-goes s e es n k ops (Some c) o o' h there none live =
    record {
      nothing = none;
      untouched = λ le. let lt : k < s.book.next_cell = live-below s.book k c h there in
          let grown : s.book.next_cell ≤ (after s e).book.next_cell = (call-grown s e.call e.reply h).1 in
          let high : (after s e).book.next_cell ≤ k = le in
          absurd (omega (arith, lt, grown, high));
    }

kept-begins : (s : State) (e : Entry) (es : List Entry) (n k : ℕ) (ops : List Op) (own : Option Cell) (o : Option Pending) → IsUntouched s (e ∷ es) n k ops → o ≡ None → IsKept (after s e) es n k ops own o
kept-begins s e es n k ops None o u none = record { nothing = none; untouched = λ le. untouched-next s e es n k ops u }
kept-begins s e es n k ops (Some c) o u none =
    let known : floor n k (state_from s (e ∷ es)).known ≡ 0 = u.known in
    subst (IsKeptLive (after s e) es n k ops) (sym none) (record { gone = subst (AreReports (revision (after s e) k)) (sym u.gone) tt; known = omega (arith, known); none = u.none.1 })

pub kept-passed : (s : State) (e : Entry) (es : List Entry) (n k : ℕ) (ops : List Op) (ps ps' : List Pending) → IsNotebook s.book → is_own n k e ≡ false → applied_by k e.call e.reply ≡ [] → IsPassing s.book (after s e).book ps ps' k → IsKept s (e ∷ es) n k ops (found k (cells s.book)) (pending_of k ps) → IsKept (after s e) es n k ops (found k (cells (after s e).book)) (pending_of k ps')
kept-passed s e es n k ops ps ps' h other none (Stays is same) kept =
    subst (λ w. IsKept (after s e) es n k ops w (pending_of k ps')) (sym is) (subst (IsKept (after s e) es n k ops (found k (cells s.book))) (sym same) (kept-stays s e es n k ops (found k (cells s.book)) (pending_of k ps) h other none is kept))
kept-passed s e es n k ops ps ps' h other none (Goes is same) kept =
    subst (λ w. IsKept (after s e) es n k ops w (pending_of k ps')) (sym is) (kept-goes s e es n k ops (found k (cells s.book)) (pending_of k ps) (pending_of k ps') h refl same kept)
kept-passed s e es n k ops ps ps' h other none (Begins is next same) kept =
    let dead : IsKeptDead s (e ∷ es) n k ops (pending_of k ps) = subst (λ w. IsKept s (e ∷ es) n k ops w (pending_of k ps)) is kept in
    kept-begins s e es n k ops (found k (cells (after s e).book)) (pending_of k ps') (dead.untouched (omega (arith, next))) (same ∙ dead.nothing)

-- of a live cell
pub live-from : (s : State) (later : List Entry) (n k : ℕ) (ops : List Op) (o : Option Pending) (t : List ℕ) → HasSource s.book k t → IsKept s later n k ops (found k (cells s.book)) o → IsKeptLive s later n k ops o
live-from s later n k ops o t there kept = subst (λ w. IsKept s later n k ops w o) there.there kept

pub live-kept : (s : State) (later : List Entry) (n k : ℕ) (ops : List Op) (o : Option Pending) (t : List ℕ) → HasSource s.book k t → IsKeptLive s later n k ops o → IsKept s later n k ops (found k (cells s.book)) o
live-kept s later n k ops o t there live = subst (λ w. IsKept s later n k ops w o) (sym there.there) live

-- another's delta moves what is pending
fits-shifted : (s : State) (e : Entry) (k : ℕ) (x : List Step) (p : Pending) (t : List ℕ) → HasSource (after s e).book k (text_after x t) → FitsText x t → FitsText p.flight t → FitsText p.buffer (text_after p.flight t) → FitsHere (after s e) k (shifted x p)
fits-shifted s e k x p t there fx ff fb =
    let pair : IsPairMoved false x p.flight t = delta_laws.moved false x p.flight t fx ff in
    let next : IsPairMoved false (transformed true p.flight x) p.buffer (text_after p.flight t) = delta_laws.moved false (transformed true p.flight x) p.buffer (text_after p.flight t) pair.left_fits fb in
    record {
      source = text_after x t;
      there = there;
      flight = pair.right_fits;
      buffer = subst (FitsText (transformed false (transformed true p.flight x) p.buffer)) (sym pair.one_text) next.right_fits;
    }

-- another's delta of the cell was received
pub live-moved : (s : State) (e : Entry) (es : List Entry) (n k : ℕ) (ops : List Op) (x : List Step) (o : Option Pending) → is_own n k e ≡ false → applied_by k e.call e.reply ≡ x ∷ [] → ((t : List ℕ) → HasSource s.book k t → FitsText x t) → ((t : List ℕ) → HasSource s.book k t → HasSource (after s e).book k (text_after x t)) → IsKeptLive s (e ∷ es) n k ops o → IsKeptLive (after s e) es n k ops (shifted_option x o)
live-moved s e es n k ops x None other one fx more q = quiet-next s e es n k ops q
live-moved s e es n k ops x (Some p) other one fx more (fits, way) = (
  fits-shifted s e k x p fits.source (more fits.source fits.there) (fx fits.source fits.there) fits.flight fits.buffer,
  way-next s e es n k ops p.flight (transformed false x p.flight) fits.source fits.there other (ap (over p.flight) one) way,
)

-- the client's own delta of the cell was received: it is what was in flight
pub record IsOwnBack (s : State) (e : Entry) (es : List Entry) (n k : ℕ) (ops : List Op) (p : Pending) : Type 0 where
  pub gone : AreReports (revision s k) (messages_for k ops)
  pub rev : ℕ
  pub answer : e.reply ≡ Applied rev p.flight
  pub none : HasNoOwn n k es
  pub known : floor n k (state_from s (e ∷ es)).known ≤ revision s k + 1

none-own : (n k : ℕ) (e : Entry) (es : List Entry) → is_own n k e ≡ true → HasNoOwn n k (e ∷ es) → ⊥
none-own n k e es mine none = let wrong : true ≡ false = sym mine ∙ none.0 in absurd (cc wrong)

back-from : (s : State) (e : Entry) (es : List Entry) (n k : ℕ) (ops : List Op) (p : Pending) → is_own n k e ≡ true → (r : IsReturning s (e ∷ es) n k ops p.flight) → (before : List Entry) → r.before ≡ before → e ∷ es ≡ before ++ r.own ∷ r.rest → IsOwnBack s e es n k ops p
back-from s e es n k ops p mine r [] is parts =
    let both : (e ≡ r.own) × (es ≡ r.rest) = first-of e r.own es r.rest parts in
    let none : applied_in k r.before ≡ [] = ap (applied_in k) is in
    let known : floor n k (state_from s (e ∷ es)).known ≤ revision s k + length (applied_in k r.before) + 1 = r.known in
    let len : length (applied_in k r.before) ≡ 0 = ap length none in
    record {
      gone = r.gone;
      rev = r.rev;
      answer = ap (λ y. y.reply) both.0 ∙ (r.answer ∙ ap (λ xs. Applied r.rev (over p.flight xs)) none);
      none = subst (HasNoOwn n k) (sym both.1) r.none_after;
      known = omega (arith, known, len);
    }
back-from s e es n k ops p mine r (b ∷ bs) is parts =
    let same : e ≡ b = (first-of e b es (bs ++ r.own ∷ r.rest) parts).0 in
    let none : HasNoOwn n k (b ∷ bs) = subst (HasNoOwn n k) is r.none_before in
    absurd (none-own n k b bs (ap (is_own n k) (sym same) ∙ mine) none)

pub own-back : (s : State) (e : Entry) (es : List Entry) (n k : ℕ) (ops : List Op) (p : Pending) → is_own n k e ≡ true → IsKeptLive s (e ∷ es) n k ops (Some p) → IsOwnBack s e es n k ops p
own-back s e es n k ops p mine (fits, inl w) = absurd (none-own n k e es mine w.none)
own-back s e es n k ops p mine (fits, inr (inl r)) = back-from s e es n k ops p mine r r.before refl r.parts
own-back s e es n k ops p mine (fits, inr (inr l)) = absurd (none-own n k e es mine l.none)

pub not-quiet : (s : State) (e : Entry) (es : List Entry) (n k : ℕ) (ops : List Op) → is_own n k e ≡ true → IsKeptLive s (e ∷ es) n k ops None → ⊥
not-quiet s e es n k ops mine q = none-own n k e es mine q.none
