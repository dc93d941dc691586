-- All clients go on standing as they should, with each event.
use Rattle.std.proofs.Common.{◌≡◌, ◌≢◌, ℕ, ◌<◌, ◌==◌, true, false, if◌then◌else◌, List, [], ◌∷◌, ◌++◌, length, drop, Option, Some, None, refl, sym, ap, subst, ◌∙◌, arith, append_assoc, inl, inr}
use Rattle.std.proofs.lemmas.Bool.Decides.{nat_tests}
use Rattle.std.proofs.lemmas.List.{append-nil}
use Rattle.delta.specs.declared.Step.{Step}
use Rattle.notebook.specs.declared.parts.Cell.{Cell}
use Rattle.notebook.specs.declared.parts.Parts.{Parts}
use Rattle.notebook.specs.declared.states.Lane.{Lane}
use Rattle.notebook.specs.Book.{cells, found}
use Rattle.notebook.specs.Rules.{IsNotebook}
use Rattle.ex_model.specs.declared.ran.Shown.{Shown}
use Rattle.session_ops.specs.declared.entry.Op.{Op}
use Rattle.session_ops.specs.declared.entry.Op.TheVariants.{Join as Joins, Leave as Leaves, Delta, Report as ReportOf}
use Rattle.session_ops.specs.declared.entry.Call.{Call}
use Rattle.session_ops.specs.declared.entry.Call.TheVariants.{Client as ByClient, Start, Respond}
use Rattle.session_ops.specs.declared.entry.Refusal.TheVariants.{AlreadyJoined}
use Rattle.session_ops.specs.declared.entry.Reply.{Reply}
use Rattle.session_ops.specs.declared.entry.Reply.TheVariants.{Accepted, Applied, Refused}
use Rattle.session_ops.specs.declared.entry.Entry.{Entry}
use Rattle.session_ops.specs.Structure.{change_of}
use Rattle.session_ops.specs.Deeds.{deed}
use Rattle.session_ops.specs.State.{State, state, state_from, opening, after, reply, HasReplies, Legal, jobs_from}
use Rattle.session_ops.specs.Structure.{is_postable}
use Rattle.session_ops.specs.Numbers.{is_in}
use Rattle.session_ops.proofs.Growing.{state-append}
use Rattle.session_ops.proofs.Lists.{all-append}
use Rattle.client_sync.specs.Client.{Client, Pending, Edited, Done, NoCell as NoSuchCell, EditTooLong, Unfit, edited, reported, received_entry, with_deed, with_own, reposted, joined_client, with_message, pending_of, all_moved, client_of}
use Rattle.world.specs.declared.event.Event.{Event}
use Rattle.world.specs.declared.event.Event.TheVariants.{Join, Leave, Edit, Post, Report, Take, Receive, RawJoin, Raw}
use Rattle.world.specs.World.{World, first_world, next_entry, called, with_client, with_joined, with_edited, posted, with_reported, taken, delivered_next, if_held, raw, happens, after_events, run}
use Rattle.world.specs.Claims.{IsBehind, HasJoined, IsWhole, DoAgree, AreHeard}
use Rattle.world.specs.Applied.{is_leaving, HasNotLeft}
use Rattle.world.specs.Waiting.{Message, message_in, messages_for, IsKept, HasLived, HasNoPassage, IsHonest, AreHonest, WasDeleted, IsFairAnswer, AreFair}
use Rattle.world.proofs.Clients.{put-all, client-is, received-seen, received-number, all-from-all, all-absent, all-without, put-others}
use Rattle.world.proofs.Standing.{AreQuietlyThere, event-whole, call-legal, join-since, rest-after, stays-by, stays-other, whole-agree}
use Rattle.session_ops.proofs.Deeds.{IsTaken, applied-taken}
use Rattle.world.proofs.Moving.{IsGone, from-more, from-grown, rest-replies, call-gone}
use Rattle.world.proofs.Floors.{IsAside, from-stays, call-stays, known-well, floor-up, floor-unborn, stranger-call, refused-aside, evaluator-call}
use Rattle.world.proofs.Keeping.{IsOthers, kept-more}
use Rattle.world.proofs.Outboxes.{here-lived, lived-more, lived-below, lived-added, edit-of, passage-added}
use Rattle.world.proofs.Receiving.{IsEntry, call-received}
use Rattle.world.proofs.Editing.{edited-honest, reported-honest, posted-honest}
use Rattle.world.proofs.Taking.{IsDeltaAnswer, IsReportAnswer, delta-answered, report-answered, edit-first, report-first, own-taken}
use Rattle.world.proofs.Heard.{member-heard, whole-heard}
use Rattle.world.proofs.Quiet.{quiet-outbox}

-- the state at the history's end, from the client's place on
pub at-end : (n0 : Parts) (h : List Entry) (c : Client) → (honest : IsHonest n0 h c) → state n0 h ≡ state_from (state n0 c.seen) honest.later
at-end n0 h c honest = ap (state n0) honest.behind ∙ from-more (opening n0) c.seen honest.later

-- the notebook after some entries keeps the rules
pub state-notebook : (n0 : Parts) (h : List Entry) → IsNotebook n0 → IsNotebook (state n0 h).book
state-notebook n0 h note = (from-grown (opening n0) h note).0

-- the entries that a client has not received are answered as its state says
pub later-replies : (n0 : Parts) (h : List Entry) (c : Client) → Legal n0 h → (honest : IsHonest n0 h c) → HasReplies (state n0 c.seen) (jobs_from (opening n0) [] c.seen) honest.later
later-replies n0 h c l honest = rest-replies (opening n0) [] c.seen honest.later (subst (HasReplies (opening n0) []) honest.behind l.replies)

-- an honest client has joined
pub honest-joined : (n0 : Parts) (h : List Entry) (c : Client) → IsHonest n0 h c → HasJoined n0 h c
honest-joined n0 h c is = subst (λ s. is_in c.number s.joined ≡ true) (sym (at-end n0 h c is)) (from-stays (state n0 c.seen) is.later c.number is.stays is.since)

pub honest-behind : (n0 : Parts) (h : List Entry) (c : Client) → IsHonest n0 h c → IsBehind h c
honest-behind n0 h c is = (is.later, is.behind)

stays-more : (n : ℕ) (es : List Entry) (e : Entry) → is_leaving n e.call ≡ false → HasNotLeft n es → HasNotLeft n (es ++ e ∷ [])
stays-more n es e one all = all-append (λ x. is_leaving n x.call ≡ false) es (e ∷ []) all (one, tt)

-- one more entry that is another's
pub honest-more : (n0 : Parts) (h : List Entry) (c : Client) (e : Entry) → IsNotebook n0 → is_leaving c.number e.call ≡ false → ((k : ℕ) → IsOthers (state n0 h) c.number k e) → IsHonest n0 h c → IsHonest n0 (h ++ e ∷ []) c
honest-more n0 h c e note stays others is =
    record {
      later = is.later ++ e ∷ [];
      behind = ap (λ k. k ++ e ∷ []) is.behind ∙ append_assoc c.seen is.later (e ∷ []);
      since = is.since;
      stays = stays-more c.number is.later e stays is.stays;
      kept = λ k. kept-more (state n0 c.seen) is.later c.number k c.outbox (found k (cells (state n0 c.seen).book)) (pending_of k c.pending) e (state-notebook n0 c.seen note) refl (subst (λ s. IsOthers s c.number k e) (at-end n0 h c is) (others k)) (is.kept k);
      lived = is.lived;
      no_passage = is.no_passage;
    }

-- an entry, under whatever number, of a call that tells nothing of the client
pub aside-honest : (n0 : Parts) (h : List Entry) (c : Client) (by : ℕ) (call : Call) (answer : Reply) → IsNotebook n0 → is_leaving c.number call ≡ false → answer ≡ reply (state n0 h) call → ((k : ℕ) → IsAside (state n0 h) c.number k call answer) → IsHonest n0 h c → IsHonest n0 (h ++ record { by = by; call = call; reply = answer } ∷ []) c
aside-honest n0 h c by call answer note stays right aside is =
    honest-more n0 h c (record { by = by; call = call; reply = answer }) note stays (λ k. record { other = (aside k).other; same = (aside k).same; gone = call-gone (state n0 h) call answer k (state-notebook n0 h note) right }) is

-- a call of another number
pub stranger-honest : (n0 : Parts) (h : List Entry) (c : Client) (by m : ℕ) (op : Op) (answer : Reply) → IsNotebook n0 → (m == c.number) ≡ false → answer ≡ reply (state n0 h) (ByClient m op) → IsHonest n0 h c → IsHonest n0 (h ++ record { by = by; call = ByClient m op; reply = answer } ∷ []) c
stranger-honest n0 h c by m op answer note ne right is = aside-honest n0 h c by (ByClient m op) answer note (stays-other c.number m op ne) right (λ k. stranger-call (state n0 h) m c.number k op answer ne) is

-- a call of an evaluator
pub start-honest : (n0 : Parts) (h : List Entry) (c : Client) (by : ℕ) (lane : Lane) (answer : Reply) → IsNotebook n0 → answer ≡ reply (state n0 h) (Start lane) → IsHonest n0 h c → IsHonest n0 (h ++ record { by = by; call = Start lane; reply = answer } ∷ []) c
start-honest n0 h c by lane answer note right is = aside-honest n0 h c by (Start lane) answer note refl right (λ k. evaluator-call (state n0 h) c.number k (Start lane) answer refl) is

pub respond-honest : (n0 : Parts) (h : List Entry) (c : Client) (by eval : ℕ) (shown : Shown) (answer : Reply) → IsNotebook n0 → answer ≡ reply (state n0 h) (Respond eval shown) → IsHonest n0 h c → IsHonest n0 (h ++ record { by = by; call = Respond eval shown; reply = answer } ∷ []) c
respond-honest n0 h c by eval shown answer note right is = aside-honest n0 h c by (Respond eval shown) answer note refl right (λ k. evaluator-call (state n0 h) c.number k (Respond eval shown) answer refl) is

-- a joining, which is refused where the client's own number asks for it
pub joining-honest : (n0 : Parts) (h : List Entry) (c : Client) (by m : ℕ) (answer : Reply) → IsNotebook n0 → answer ≡ reply (state n0 h) (ByClient m Joins) → IsHonest n0 h c → IsHonest n0 (h ++ record { by = by; call = ByClient m Joins; reply = answer } ∷ []) c
joining-honest n0 h c by m answer note right is =
    elim (m == c.number)
    as (λ b. (m == c.number) ≡ b → IsHonest n0 (h ++ record { by = by; call = ByClient m Joins; reply = answer } ∷ []) c) [
      | true ↦ λ t. let same : c.number ≡ m = grind (arith, nat_tests, t) in
          let mine : is_in m (state n0 h).joined ≡ true = subst (λ n. is_in n (state n0 h).joined ≡ true) same (honest-joined n0 h c is) in
          let refused : answer ≡ Refused AlreadyJoined = right ∙ ap (λ b. if b then Refused AlreadyJoined else Accepted) mine in
          aside-honest n0 h c by (ByClient m Joins) answer note refl right (λ k. subst (IsAside (state n0 h) c.number k (ByClient m Joins)) (sym refused) (refused-aside (state n0 h) c.number k m Joins AlreadyJoined)) is
      | false ↦ λ t. stranger-honest n0 h c by m Joins answer note t right is
    ]
    refl

-- a new client has received all, and nothing of it is on its way
new-kept : (n0 : Parts) (h : List Entry) (n k : ℕ) (own : Option Cell) → IsNotebook n0 → Legal n0 h → IsKept (state n0 h) [] n k [] own None
new-kept n0 h n k None note l = record { nothing = refl; untouched = λ le. record { gone = refl; known = floor-unborn (state n0 h) n k (state n0 h).known le (known-well n0 h note l); none = tt } }
new-kept n0 h n k (Some c) note l = record { gone = tt; known = floor-up (state n0 h) n k (state n0 h).known (known-well n0 h note l); none = tt }

pub new-honest : (n0 : Parts) (h : List Entry) (n : ℕ) → IsNotebook n0 → Legal n0 h → is_in n (state n0 h).joined ≡ true → IsHonest n0 h (joined_client n h)
new-honest n0 h n note l mine =
    record { later = []; behind = sym (append-nil h); since = mine; stays = tt; kept = λ k. new-kept n0 h n k (found k (cells (state n0 h).book)) note l; lived = λ k ne. absurd (ne refl); no_passage = tt }

all-joining : (w : World) (n : ℕ) → IsWhole w → AreHonest w → AreHonest (called w (ByClient n Joins))
all-joining w n whole honest =
    all-from-all (IsHonest w.opening w.history) (IsHonest w.opening (called w (ByClient n Joins)).history) w.clients (λ c is. joining-honest w.opening w.history c 0 n (reply (state w.opening w.history) (ByClient n Joins)) whole.notebook refl is) honest

join-accepted : (w : World) (n : ℕ) → IsWhole w → AreHonest w → is_in n (state w.opening w.history).joined ≡ false → AreHonest (with_joined (called w (ByClient n Joins)) n Accepted)
join-accepted w n whole honest e =
    let h : List Entry = (called w (ByClient n Joins)).history in
    all-append (IsHonest w.opening h) w.clients (joined_client n h ∷ []) (all-joining w n whole honest) (new-honest w.opening h n whole.notebook (call-legal w n Joins whole) (join-since w n e), tt)

pub join-honest : (w : World) (n : ℕ) → IsWhole w → AreHonest w → AreHonest (happens w (Join n))
join-honest w n whole honest =
    elim (is_in n (state w.opening w.history).joined)
    as (λ b. is_in n (state w.opening w.history).joined ≡ b → AreHonest (with_joined (called w (ByClient n Joins)) n (if b then Refused AlreadyJoined else Accepted)))
    [ true ↦ λ t. all-joining w n whole honest | false ↦ λ t. join-accepted w n whole honest t ]
    refl

pub raw-join-honest : (w : World) (n : ℕ) → IsWhole w → AreHonest w → AreHonest (happens w (RawJoin n))
raw-join-honest w n whole honest = all-joining w n whole honest

-- a number leaves, and its client is gone
pub leave-honest : (w : World) (n : ℕ) → IsWhole w → AreHonest w → AreHonest (happens w (Leave n))
leave-honest w n whole honest =
    all-without (IsHonest w.opening w.history) (IsHonest w.opening (called w (ByClient n Leaves)).history) n w.clients
    (λ c ne is. stranger-honest w.opening w.history c 0 n Leaves (reply (state w.opening w.history) (ByClient n Leaves)) whole.notebook ne refl is) honest

-- a call of a number that holds no client
pub raw-honest : (w : World) (n : ℕ) (op : Op) → client_of n w.clients ≡ None → IsWhole w → AreHonest w → AreHonest (called w (ByClient n op))
raw-honest w n op nobody whole honest =
    all-absent (IsHonest w.opening w.history) (IsHonest w.opening (called w (ByClient n op)).history) n w.clients nobody
    (λ c ne is. stranger-honest w.opening w.history c 0 n op (reply (state w.opening w.history) (ByClient n op)) whole.notebook ne refl is) honest

-- a client that edits, posts or reports
pub put-honest : (w : World) (x : Client) → AreHonest w → IsHonest w.opening w.history x → AreHonest (with_client w x)
put-honest w x honest is = put-all (IsHonest w.opening w.history) x w.clients is honest

pub edit-honest : (w : World) (c : Client) (cell : ℕ) (d : List Step) (o : Edited) → AreHonest w → IsHonest w.opening w.history c → edited w.opening c cell d ≡ o → AreHonest (with_edited w o)
edit-honest w c cell d (Done x) honest is e = put-honest w x honest (edited-honest w.opening w.history c x cell d e is)
edit-honest w c cell d NoSuchCell honest is e = honest
edit-honest w c cell d EditTooLong honest is e = honest
edit-honest w c cell d (Unfit why) honest is e = honest

pub post-honest : (w : World) (c : Client) (op : Op) → AreHonest w → IsHonest w.opening w.history c → AreHonest (posted w c op)
post-honest w c op honest is =
    elim (is_postable op)
    as (λ p. is_postable op ≡ p → AreHonest (if p then with_client w (with_message c op) else w))
    [ true ↦ λ t. put-honest w (with_message c op) honest (posted-honest w.opening w.history c op t is) | false ↦ λ t. honest ]
    refl

pub report-honest : (w : World) (c : Client) (cell : ℕ) (o : Option Client) → AreHonest w → IsHonest w.opening w.history c → reported w.opening c cell ≡ o → AreHonest (with_reported w o)
report-honest w c cell None honest is e = honest
report-honest w c cell (Some x) honest is e = put-honest w x honest (reported-honest w.opening w.history c x cell e is)

-- the message at the front of an outbox
no-back : (xs ys : List Message) → xs ++ ys ≡ [] → ys ≡ []
no-back [] ys e = e
no-back (x ∷ xs) ys e = absurd (cc e)

fewer-lived : (n0 : Parts) (seen : List Entry) (k : ℕ) (op : Op) (ops : List Op) → (messages_for k (op ∷ ops) ≢ [] → HasLived n0 seen k) → messages_for k ops ≢ [] → HasLived n0 seen k
fewer-lived n0 seen k op ops f ne = f (λ none. ne (no-back (message_in k op) (messages_for k ops) none))

front-below : (n0 : Parts) (h : List Entry) (c : Client) (ops : List Op) → IsNotebook n0 → c.outbox ≡ ops → IsHonest n0 h c → (i : ℕ) → (messages_for i ops ≡ [] → ⊥) → i < (state n0 c.seen).book.next_cell
front-below n0 h c ops note e is i ne = lived-below n0 c.seen i note (is.lived i (subst (λ os. messages_for i os ≢ []) (sym e) ne))

kept-front : (n0 : Parts) (h : List Entry) (c : Client) (ops : List Op) → c.outbox ≡ ops → (is : IsHonest n0 h c) → (i : ℕ) → IsKept (state n0 c.seen) is.later c.number i ops (found i (cells (state n0 c.seen).book)) (pending_of i c.pending)
kept-front n0 h c ops e is i = subst (λ os. IsKept (state n0 c.seen) is.later c.number i os (found i (cells (state n0 c.seen).book)) (pending_of i c.pending)) e (is.kept i)

pub own-honest : (w : World) (c : Client) (op : Op) (ops : List Op) → c.outbox ≡ op ∷ ops → IsHonest w.opening w.history c → IsWhole w → IsHonest w.opening (called w (ByClient c.number op)).history (record c { outbox = ops })
own-honest w c op ops e is whole =
    let n0 : Parts = w.opening in
    let s : State = state n0 c.seen in
    let t : State = state_from s is.later in
    let x : Entry = next_entry w (ByClient c.number op) in
    let end : state n0 w.history ≡ t = at-end n0 w.history c is in
    let inside : HasNoPassage (op ∷ ops) = subst HasNoPassage e is.no_passage in
    let entry : IsEntry t x (ByClient c.number op) (reply t (ByClient c.number op)) = record { call_is = refl; reply_is = ap (λ u. reply u (ByClient c.number op)) end; right = refl } in
    record {
      later = is.later ++ x ∷ [];
      behind = ap (λ k. k ++ x ∷ []) is.behind ∙ append_assoc c.seen is.later (x ∷ []);
      since = is.since;
      stays = stays-more c.number is.later x (stays-by c.number c.number op inside.0) is.stays;
      kept = λ k. own-taken s (jobs_from (opening n0) [] c.seen) is.later c.number k op ops (λ i. pending_of i c.pending) x (state-notebook n0 c.seen whole.notebook) (later-replies n0 w.history c whole.legal is)
          (subst (λ u. is_in c.number u.joined ≡ true) end (honest-joined n0 w.history c is)) inside.0 (front-below n0 w.history c (op ∷ ops) whole.notebook e is) entry (kept-front n0 w.history c (op ∷ ops) e is);
      lived = λ k ne. fewer-lived n0 c.seen k op ops (subst (λ os. messages_for k os ≢ [] → HasLived n0 c.seen k) e (is.lived k)) ne;
      no_passage = inside.1;
    }

pub take-honest : (w : World) (c : Client) (ops : List Op) → c.outbox ≡ ops → IsWhole w → AreHonest w → IsHonest w.opening w.history c → AreHonest (taken w c ops)
take-honest w c [] e whole honest is = honest
take-honest w c (op ∷ ops) e whole honest is =
    let h : List Entry = (called w (ByClient c.number op)).history in
    put-others (IsHonest w.opening w.history) (IsHonest w.opening h) (record c { outbox = ops }) w.clients (own-honest w c op ops e is whole)
    (λ d ne other. stranger-honest w.opening w.history d 0 c.number op (reply (state w.opening w.history) (ByClient c.number op)) whole.notebook ne refl other) honest

-- the message at the front of an outbox is answered fairly
was-deleted : (n0 : Parts) (h : List Entry) (c : Client) (j : ℕ) → (is : IsHonest n0 h c) → messages_for j c.outbox ≢ [] → IsGone (state_from (state n0 c.seen) is.later).book j → WasDeleted n0 h j
was-deleted n0 h c j is ne gone = (subst (λ x. HasLived n0 x j) (sym is.behind) (lived-more n0 c.seen is.later j (is.lived j ne)), ap (λ s. found j (cells s.book)) (at-end n0 h c is) ∙ gone.none)

fair-delta : (n0 : Parts) (h : List Entry) (c : Client) (j base : ℕ) (d : List Step) (answer : Reply) → (is : IsHonest n0 h c) → messages_for j c.outbox ≢ [] → IsDeltaAnswer (state_from (state n0 c.seen) is.later) j base d answer → IsFairAnswer n0 h (Delta j base d) answer
fair-delta n0 h c j base d answer is ne (inl applied) = inl (_, (_, applied))
fair-delta n0 h c j base d answer is ne (inr (refused, gone)) = inr (refused, was-deleted n0 h c j is ne gone)

fair-report : (n0 : Parts) (h : List Entry) (c : Client) (j rev : ℕ) (answer : Reply) → (is : IsHonest n0 h c) → messages_for j c.outbox ≢ [] → IsReportAnswer (state_from (state n0 c.seen) is.later) j answer → IsFairAnswer n0 h (ReportOf j rev) answer
fair-report n0 h c j rev answer is ne (inl accepted) = inl accepted
fair-report n0 h c j rev answer is ne (inr (refused, gone)) = inr (refused, was-deleted n0 h c j is ne gone)

pub front-fair : (w : World) (c : Client) (op : Op) (ops : List Op) → c.outbox ≡ op ∷ ops → IsHonest w.opening w.history c → IsWhole w → IsFairAnswer w.opening w.history op (reply (state w.opening w.history) (ByClient c.number op))
front-fair w c (Delta j base d) ops e is whole =
    let n0 : Parts = w.opening in
    let s : State = state n0 c.seen in
    let end : state n0 w.history ≡ state_from s is.later = at-end n0 w.history c is in
    let some : messages_for j (Delta j base d ∷ ops) ≢ [] = λ none. let wrong : _ ∷ messages_for j ops ≡ [] = sym (edit-first j base d ops) ∙ none in cc wrong in
    subst (λ u. IsFairAnswer n0 w.history (Delta j base d) (reply u (ByClient c.number (Delta j base d)))) (sym end)
    (
    fair-delta n0 w.history c j base d (reply (state_from s is.later) (ByClient c.number (Delta j base d))) is (subst (λ os. messages_for j os ≢ []) (sym e) some)
    (delta-answered s (jobs_from (opening n0) [] c.seen) is.later c.number j base d ops (found j (cells s.book)) (pending_of j c.pending) (state-notebook n0 c.seen whole.notebook) (later-replies n0 w.history c whole.legal is)
    (subst (λ u. is_in c.number u.joined ≡ true) end (honest-joined n0 w.history c is)) (front-below n0 w.history c (Delta j base d ∷ ops) whole.notebook e is j some) refl (kept-front n0 w.history c (Delta j base d ∷ ops) e is j))
    )
front-fair w c (ReportOf j rev) ops e is whole =
    let n0 : Parts = w.opening in
    let s : State = state n0 c.seen in
    let end : state n0 w.history ≡ state_from s is.later = at-end n0 w.history c is in
    let some : messages_for j (ReportOf j rev ∷ ops) ≢ [] = λ none. let wrong : _ ∷ messages_for j ops ≡ [] = sym (report-first j rev ops) ∙ none in cc wrong in
    subst (λ u. IsFairAnswer n0 w.history (ReportOf j rev) (reply u (ByClient c.number (ReportOf j rev)))) (sym end)
    (
    fair-report n0 w.history c j rev (reply (state_from s is.later) (ByClient c.number (ReportOf j rev))) is (subst (λ os. messages_for j os ≢ []) (sym e) some)
    (report-answered s (jobs_from (opening n0) [] c.seen) is.later c.number j rev ops (found j (cells s.book)) (pending_of j c.pending) (state-notebook n0 c.seen whole.notebook) (later-replies n0 w.history c whole.legal is)
    (subst (λ u. is_in c.number u.joined ≡ true) end (honest-joined n0 w.history c is)) (front-below n0 w.history c (ReportOf j rev ∷ ops) whole.notebook e is j some) refl (kept-front n0 w.history c (ReportOf j rev ∷ ops) e is j))
    )
front-fair w c op ops e is whole = member-heard (state w.opening w.history) c.number op (honest-joined w.opening w.history c is)

-- what a client's outbox holds after an entry was received
reposted-lived : (n0 : Parts) (c : Client) (j rev k : ℕ) (b : List Step) → HasLived n0 c.seen j → (messages_for k c.outbox ≢ [] → HasLived n0 c.seen k) → messages_for k (reposted c j rev b).outbox ≢ [] → HasLived n0 c.seen k
reposted-lived n0 c j rev k [] l f ne = f ne
reposted-lived n0 c j rev k (st ∷ b) l f ne = lived-added n0 c.seen k c.outbox (Delta j rev (st ∷ b)) f (edit-of n0 c.seen j k rev (st ∷ b) l) ne

own-outbox : (n0 : Parts) (c : Client) (j rev k : ℕ) (o : Option Pending) → HasLived n0 c.seen j → (messages_for k c.outbox ≢ [] → HasLived n0 c.seen k) → messages_for k (with_own c j rev o).outbox ≢ [] → HasLived n0 c.seen k
own-outbox n0 c j rev k None l f ne = f ne
own-outbox n0 c j rev k (Some p) l f ne = reposted-lived n0 c j rev k p.buffer l f ne

op-lived : (n0 : Parts) (s : State) (c : Client) (n k : ℕ) (op : Op) (answer : Reply) → ((j : ℕ) (own : Cell) → found j (cells s.book) ≡ Some own → HasLived n0 c.seen j) → answer ≡ reply s (ByClient n op) → (messages_for k c.outbox ≢ [] → HasLived n0 c.seen k) → messages_for k (with_deed s.book c (deed (ByClient n op) answer)).outbox ≢ [] → HasLived n0 c.seen k
op-lived n0 s c n k op (Refused why) here e f = f
op-lived n0 s c n k (Delta j base d) (Applied rev x) here e f =
    elim (n == c.number)
    as (λ b. messages_for k (if b then with_own c j rev (pending_of j c.pending) else record c { pending = all_moved j x c.pending }).outbox ≢ [] → HasLived n0 c.seen k) [
      | true ↦ λ ne. let is : IsTaken s j rev x = applied-taken s n j base rev d x (sym e) in own-outbox n0 c j rev k (pending_of j c.pending) (here j is.own is.there) f ne
      | false ↦ f
    ]
op-lived n0 s c n k op answer here e f = subst (λ ops. messages_for k ops ≢ [] → HasLived n0 c.seen k) (sym (quiet-outbox s.book c (change_of op))) f

call-lived : (n0 : Parts) (s : State) (c : Client) (k : ℕ) (call : Call) (answer : Reply) → ((j : ℕ) (own : Cell) → found j (cells s.book) ≡ Some own → HasLived n0 c.seen j) → answer ≡ reply s call → (messages_for k c.outbox ≢ [] → HasLived n0 c.seen k) → messages_for k (with_deed s.book c (deed call answer)).outbox ≢ [] → HasLived n0 c.seen k
call-lived n0 s c k (ByClient n op) answer here e f = op-lived n0 s c n k op answer here e f
call-lived n0 s c k call answer here e f = f

reposted-inside : (c : Client) (j rev : ℕ) (b : List Step) → HasNoPassage c.outbox → HasNoPassage (reposted c j rev b).outbox
reposted-inside c j rev [] all = all
reposted-inside c j rev (st ∷ b) all = passage-added c.outbox (Delta j rev (st ∷ b)) refl all

own-inside : (c : Client) (j rev : ℕ) (o : Option Pending) → HasNoPassage c.outbox → HasNoPassage (with_own c j rev o).outbox
own-inside c j rev None all = all
own-inside c j rev (Some p) all = reposted-inside c j rev p.buffer all

op-inside : (s : State) (c : Client) (n : ℕ) (op : Op) (answer : Reply) → HasNoPassage c.outbox → HasNoPassage (with_deed s.book c (deed (ByClient n op) answer)).outbox
op-inside s c n op (Refused why) all = all
op-inside s c n (Delta j base d) (Applied rev x) all =
    elim (n == c.number)
    as (λ b. HasNoPassage (if b then with_own c j rev (pending_of j c.pending) else record c { pending = all_moved j x c.pending }).outbox)
    [ true ↦ own-inside c j rev (pending_of j c.pending) all | false ↦ all ]
op-inside s c n op answer all = subst HasNoPassage (sym (quiet-outbox s.book c (change_of op))) all

call-inside : (s : State) (c : Client) (call : Call) (answer : Reply) → HasNoPassage c.outbox → HasNoPassage (with_deed s.book c (deed call answer)).outbox
call-inside s c (ByClient n op) answer all = op-inside s c n op answer all
call-inside s c call answer all = all

-- the next entry was received
pub entry-honest : (n0 : Parts) (h : List Entry) (c : Client) (e : Entry) (es : List Entry) → IsNotebook n0 → Legal n0 h → (is : IsHonest n0 h c) → is.later ≡ e ∷ es → IsHonest n0 h (received_entry n0 c e)
entry-honest n0 h c e es note l is more =
    let s : State = state n0 c.seen in
    let c1 : Client = record c { seen = c.seen ++ e ∷ [] } in
    let x : Client = received_entry n0 c e in
    let seen : x.seen ≡ c.seen ++ e ∷ [] = received-seen n0 c e in
    let now : state n0 x.seen ≡ after s e = ap (state n0) seen ∙ state-append n0 c.seen e in
    let number : x.number ≡ c.number = received-number n0 c e in
    let replies : HasReplies s (jobs_from (opening n0) [] c.seen) (e ∷ es) = subst (HasReplies s (jobs_from (opening n0) [] c.seen)) more (later-replies n0 h c l is) in
    let stays : HasNotLeft c.number (e ∷ es) = subst (HasNotLeft c.number) more is.stays in
    record {
      later = es;
      behind = is.behind ∙ (ap (λ k. c.seen ++ k) more ∙ (sym (append_assoc c.seen (e ∷ []) es) ∙ ap (λ k. k ++ es) (sym seen)));
      since = subst (λ u. is_in x.number u.joined ≡ true) (sym now) (subst (λ n. is_in n (after s e).joined ≡ true) (sym number) (call-stays s e.call e.reply c.number stays.0 is.since));
      stays = subst (λ n. HasNotLeft n es) (sym number) stays.1;
      kept = λ k. subst (λ u. IsKept u es x.number k x.outbox (found k (cells u.book)) (pending_of k x.pending)) (sym now) (
          subst (λ n. IsKept (after s e) es n k x.outbox (found k (cells (after s e).book)) (pending_of k x.pending)) (sym number)
          (call-received s c1 e es e.call e.reply k (state-notebook n0 c.seen note) (record { call_is = refl; reply_is = refl; right = replies.1.0 }) (subst (λ later. IsKept s later c.number k c.outbox (found k (cells s.book)) (pending_of k c.pending)) more (is.kept k)))
          );
      lived = λ k ne. subst (λ es1. HasLived n0 es1 k) (sym seen) (call-lived n0 s c1 k e.call e.reply (λ j own there. lived-more n0 c.seen (e ∷ []) j (here-lived n0 c.seen j own there)) replies.1.0 (λ some. lived-more n0 c.seen (e ∷ []) k (is.lived k some)) ne);
      no_passage = call-inside s c1 e.call e.reply is.no_passage;
    }

receive-honest : (w : World) (c : Client) (es : List Entry) → IsWhole w → AreHonest w → (is : IsHonest w.opening w.history c) → is.later ≡ es → AreHonest (delivered_next w c es)
receive-honest w c [] whole honest is e = honest
receive-honest w c (x ∷ es) whole honest is e = put-honest w (received_entry w.opening c x) honest (entry-honest w.opening w.history c x es whole.notebook whole.legal is e)

-- the client of a number stands as it should
pub client-honest : (w : World) (n : ℕ) (c : Client) → AreHonest w → client_of n w.clients ≡ Some c → IsHonest w.opening w.history c
client-honest w n c honest e = (client-is (IsHonest w.opening w.history) n w.clients c honest e).0

held-honest : (w : World) (n : ℕ) (o : Option Client) (act : Client → World) → client_of n w.clients ≡ o → AreHonest w → ((c : Client) → IsHonest w.opening w.history c → AreHonest (act c)) → AreHonest (if_held w o act)
held-honest w n None act e honest f = honest
held-honest w n (Some c) act e honest f = f c (client-honest w n c honest e)

raw-option : (w : World) (n : ℕ) (op : Op) (o : Option Client) → client_of n w.clients ≡ o → IsWhole w → AreHonest w → AreHonest (raw w n op o)
raw-option w n op None e whole honest = raw-honest w n op e whole honest
raw-option w n op (Some c) e whole honest = honest

pub event-honest : (w : World) (e : Event) → IsWhole w → AreHonest w → AreHonest (happens w e)
event-honest w (Join n) whole honest = join-honest w n whole honest
event-honest w (Leave n) whole honest = leave-honest w n whole honest
event-honest w (Edit n cell d) whole honest = held-honest w n (client_of n w.clients) (λ c. with_edited w (edited w.opening c cell d)) refl honest (λ c is. edit-honest w c cell d (edited w.opening c cell d) honest is refl)
event-honest w (Post n op) whole honest = held-honest w n (client_of n w.clients) (λ c. posted w c op) refl honest (λ c is. post-honest w c op honest is)
event-honest w (Report n cell) whole honest = held-honest w n (client_of n w.clients) (λ c. with_reported w (reported w.opening c cell)) refl honest (λ c is. report-honest w c cell (reported w.opening c cell) honest is refl)
event-honest w (Take n) whole honest = held-honest w n (client_of n w.clients) (λ c. taken w c c.outbox) refl honest (λ c is. take-honest w c c.outbox refl whole honest is)
event-honest w (Receive n) whole honest =
    held-honest w n (client_of n w.clients) (λ c. delivered_next w c (drop (length c.seen) w.history)) refl honest
    (λ c is. receive-honest w c (drop (length c.seen) w.history) whole honest is (sym (ap (drop (length c.seen)) is.behind ∙ rest-after c.seen is.later)))
event-honest w (RawJoin n) whole honest = raw-join-honest w n whole honest
event-honest w (Raw n op) whole honest = raw-option w n op (client_of n w.clients) refl whole honest

-- no outbox holds a joining or a leaving
pub honest-inside : (w : World) → AreHonest w → AreQuietlyThere w
honest-inside w honest = all-from-all (IsHonest w.opening w.history) (λ c. HasNoPassage c.outbox) w.clients (λ c is. is.no_passage) honest

pub honest-fair : (w : World) → IsWhole w → AreHonest w → AreFair w
honest-fair w whole honest n c op ops e out = front-fair w c op ops out (client-honest w n c honest e) whole

abbrev Stands : World → Type 0
Stands w = IsWhole w × AreHonest w

events-stand : (w : World) (es : List Event) → Stands w → Stands (after_events w es)
events-stand w [] all = all
events-stand w (e ∷ es) all = events-stand (happens w e) es (event-whole w e (honest-inside w all.1) all.0, event-honest w e all.0 all.1)

run-stands : (n0 : Parts) (es : List Event) → IsNotebook n0 → Stands (run n0 es)
run-stands n0 es note = events-stand (first_world n0) es (record { notebook = note; legal = record { replies = tt }; joined = tt; behind = tt }, tt)

-- after every list of events the history is legal, each client's number has joined, and each client has received a front of the history
pub run-whole : (n0 : Parts) (es : List Event) → IsNotebook n0 → IsWhole (run n0 es)
run-whole n0 es note = (run-stands n0 es note).0

-- what each client has in flight is what it posted, moved over what was applied after its base, and fits what the server had
pub run-honest : (n0 : Parts) (es : List Event) → IsNotebook n0 → AreHonest (run n0 es)
run-honest n0 es note = (run-stands n0 es note).1

-- a client that has received all and has nothing pending holds the server's notebook
pub run-agree : (n0 : Parts) (es : List Event) → IsNotebook n0 → DoAgree (run n0 es)
run-agree n0 es note = whole-agree (run n0 es) (run-whole n0 es note)

-- no message of a client is answered as a stranger's
pub run-heard : (n0 : Parts) (es : List Event) → IsNotebook n0 → AreHeard (run n0 es)
run-heard n0 es note = whole-heard (run n0 es) (run-whole n0 es note)

-- a client's delta is applied and its report accepted, but where the cell was deleted
pub run-fair : (n0 : Parts) (es : List Event) → IsNotebook n0 → AreFair (run n0 es)
run-fair n0 es note = honest-fair (run n0 es) (run-whole n0 es note) (run-honest n0 es note)
