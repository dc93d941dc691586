-- What each event leaves of a world's history and its clients' places in it.
use Rattle.std.proofs.Common.{◌≡◌, ℕ, ◌+◌, ◌==◌, suc, arith, true, false, if◌then◌else◌, List, [], ◌∷◌, ◌++◌, length, drop, Option, Some, None, refl, sym, ap, subst, ◌∙◌, append_assoc}
use Rattle.std.specs.List.{AllByRecursion}
use Rattle.std.proofs.lemmas.Bool.{or_right}
use Rattle.std.proofs.lemmas.List.{append-nil, length-append}
use Rattle.delta.specs.declared.Step.{Step}
use Rattle.notebook.specs.declared.parts.Parts.{Parts}
use Rattle.notebook.proofs.Sources.{resourced-own}
use Rattle.session_ops.specs.declared.entry.Op.{Op}
use Rattle.session_ops.specs.declared.entry.Op.TheVariants.{Join as Joins, Leave as Leaves, Report as ReportOf}
use Rattle.session_ops.specs.declared.entry.Call.{Call}
use Rattle.session_ops.specs.declared.entry.Call.TheVariants.{Client as ByClient}
use Rattle.session_ops.specs.declared.entry.Refusal.TheVariants.{AlreadyJoined}
use Rattle.session_ops.specs.declared.entry.Reply.{Reply}
use Rattle.session_ops.specs.declared.entry.Reply.TheVariants.{Accepted, Refused}
use Rattle.session_ops.specs.declared.entry.Entry.{Entry}
use Rattle.session_ops.specs.State.{State, state, after_call, reply, revision, Legal}
use Rattle.session_ops.specs.Structure.{is_postable}
use Rattle.session_ops.specs.Numbers.{is_in}
use Rattle.session_ops.proofs.Growing.{state-append, legal-append}
use Rattle.session_ops.proofs.Lists.{all-append}
use Rattle.session_ops.proofs.Members.{in-here, in-append}
use Rattle.client_sync.specs.Client.{Client, Edited, Done, NoCell, EditTooLong, Unfit, edited, reported, received_entry, joined_client, with_message, client_of, delivered, held}
use Rattle.world.specs.declared.event.Event.{Event}
use Rattle.world.specs.declared.event.Event.TheVariants.{Join, Leave, Edit, Post, Report, Take, Receive, RawJoin, Raw}
use Rattle.world.specs.Applied.{is_leaving}
use Rattle.world.specs.World.{World, first_world, next_entry, called, with_client, with_joined, with_edited, posted, with_reported, taken, delivered_next, if_held, raw, happens, after_events, run}
use Rattle.world.specs.Claims.{IsBehind, IsUnderZero, IsOfOneSeat, HasJoined, IsWhole, DoAgree}
use Rattle.world.specs.Waiting.{is_passage, HasNoPassage}
use Rattle.world.proofs.Clients.{put-all, client-is, edited-seen, edited-number, reported-message, received-seen, received-number, all-from-all, all-absent, all-without}
use Rattle.world.proofs.Floors.{call-stays}

-- one who is behind is behind one entry more
pub behind-more : (h : List Entry) (e : Entry) (c : Client) → IsBehind h c → IsBehind (h ++ e ∷ []) c
behind-more h e c b = (b.0 ++ e ∷ [], ap (λ k. k ++ e ∷ []) b.1 ∙ append_assoc c.seen b.0 (e ∷ []))

-- one who has joined and doesn't leave stays
pub joined-more : (n0 : Parts) (h : List Entry) (e : Entry) (c : Client) → is_leaving c.number e.call ≡ false → HasJoined n0 h c → HasJoined n0 (h ++ e ∷ []) c
joined-more n0 h e c stays mine = subst (λ s. is_in c.number s.joined ≡ true) (sym (state-append n0 h e)) (call-stays (state n0 h) e.call e.reply c.number stays mine)

-- which calls are a number's leaving
pub stays-by : (n m : ℕ) (op : Op) → is_passage op ≡ false → is_leaving n (ByClient m op) ≡ false
stays-by n m Leaves e = absurd (cc e)
stays-by n m op e = refl

pub stays-other : (n m : ℕ) (op : Op) → (m == n) ≡ false → is_leaving n (ByClient m op) ≡ false
stays-other n m Leaves ne = ne
stays-other n m op ne = refl

-- a call of a client keeps the history legal and all clients behind it
pub call-legal : (w : World) (n : ℕ) (op : Op) → IsWhole w → Legal w.opening (called w (ByClient n op)).history
call-legal w n op whole = legal-append w.opening w.history (next_entry w (ByClient n op)) whole.legal tt refl

call-behind : (w : World) (call : Call) (c : Client) → IsBehind w.history c → IsBehind (called w call).history c
call-behind w call c b = behind-more w.history (next_entry w call) c b

-- a call that none of the clients leaves by
pub called-whole : (w : World) (n : ℕ) (op : Op) → IsWhole w → ((c : Client) → is_leaving c.number (ByClient n op) ≡ false) → IsWhole (called w (ByClient n op))
called-whole w n op whole stays =
    let h : List Entry = (called w (ByClient n op)).history in
    record {
      notebook = whole.notebook;
      legal = call-legal w n op whole;
      joined = all-from-all (HasJoined w.opening w.history) (HasJoined w.opening h) w.clients (λ c mine. joined-more w.opening w.history (next_entry w (ByClient n op)) c (stays c) mine) whole.joined;
      behind = all-from-all (IsBehind w.history) (IsBehind h) w.clients (call-behind w (ByClient n op)) whole.behind;
    }

-- a client put in its place, where it has joined and is behind
pub put-whole : (w : World) (c : Client) → IsWhole w → HasJoined w.opening w.history c → IsBehind w.history c → IsWhole (with_client w c)
put-whole w c whole mine b =
    record { notebook = whole.notebook; legal = whole.legal; joined = put-all (HasJoined w.opening w.history) c w.clients mine whole.joined; behind = put-all (IsBehind w.history) c w.clients b whole.behind }

-- a number whose joining was accepted has joined
pub join-since : (w : World) (n : ℕ) → is_in n (state w.opening w.history).joined ≡ false → is_in n (state w.opening (w.history ++ next_entry w (ByClient n Joins) ∷ [])).joined ≡ true
join-since w n e =
    let s : State = state w.opening w.history in
    let answer : reply s (ByClient n Joins) ≡ Accepted = ap (λ b. if b then Refused AlreadyJoined else Accepted) e in
    let now : (state w.opening (w.history ++ next_entry w (ByClient n Joins) ∷ [])).joined ≡ s.joined ++ n ∷ [] = ap (λ t. t.joined) (state-append w.opening w.history (next_entry w (ByClient n Joins))) ∙ ap (λ a. (after_call s (ByClient n Joins) a).joined) answer in
    ap (is_in n) now ∙ (in-append n s.joined (n ∷ []) ∙ or_right (is_in n s.joined) (is_in n (n ∷ [])) (in-here n []))

join-accepted : (w : World) (n : ℕ) → IsWhole w → is_in n (state w.opening w.history).joined ≡ false → IsWhole (with_joined (called w (ByClient n Joins)) n Accepted)
join-accepted w n whole e =
    let h : List Entry = (called w (ByClient n Joins)).history in
    let before : IsWhole (called w (ByClient n Joins)) = called-whole w n Joins whole (λ c. refl) in
    record {
      notebook = whole.notebook;
      legal = before.legal;
      joined = all-append (HasJoined w.opening h) w.clients (joined_client n h ∷ []) before.joined (join-since w n e, tt);
      behind = all-append (IsBehind h) w.clients (joined_client n h ∷ []) before.behind (([], sym (append-nil h)), tt);
    }

pub join-whole : (w : World) (n : ℕ) → IsWhole w → IsWhole (happens w (Join n))
join-whole w n whole =
    elim (is_in n (state w.opening w.history).joined)
    as (λ b. is_in n (state w.opening w.history).joined ≡ b → IsWhole (with_joined (called w (ByClient n Joins)) n (if b then Refused AlreadyJoined else Accepted)))
    [ true ↦ λ e. called-whole w n Joins whole (λ c. refl) | false ↦ λ e. join-accepted w n whole e ]
    refl

-- a number leaves, and its client is gone
pub leave-whole : (w : World) (n : ℕ) → IsWhole w → IsWhole (happens w (Leave n))
leave-whole w n whole =
    let h : List Entry = (called w (ByClient n Leaves)).history in
    record {
      notebook = whole.notebook;
      legal = call-legal w n Leaves whole;
      joined = all-without (HasJoined w.opening w.history) (HasJoined w.opening h) n w.clients (λ c ne mine. joined-more w.opening w.history (next_entry w (ByClient n Leaves)) c ne mine) whole.joined;
      behind = all-without (IsBehind w.history) (IsBehind h) n w.clients (λ c ne b. call-behind w (ByClient n Leaves) c b) whole.behind;
    }

-- a call of a number that holds no client
pub raw-whole : (w : World) (n : ℕ) (op : Op) → client_of n w.clients ≡ None → IsWhole w → IsWhole (called w (ByClient n op))
raw-whole w n op nobody whole =
    let h : List Entry = (called w (ByClient n op)).history in
    record {
      notebook = whole.notebook;
      legal = call-legal w n op whole;
      joined = all-absent (HasJoined w.opening w.history) (HasJoined w.opening h) n w.clients nobody (λ c ne mine. joined-more w.opening w.history (next_entry w (ByClient n op)) c (stays-other c.number n op ne) mine) whole.joined;
      behind = all-from-all (IsBehind w.history) (IsBehind h) w.clients (call-behind w (ByClient n op)) whole.behind;
    }

pub raw-join-whole : (w : World) (n : ℕ) → IsWhole w → IsWhole (happens w (RawJoin n))
raw-join-whole w n whole = called-whole w n Joins whole (λ c. refl)

pub edit-whole : (w : World) (c : Client) (cell : ℕ) (d : List Step) (o : Edited) → IsWhole w → HasJoined w.opening w.history c → IsBehind w.history c → edited w.opening c cell d ≡ o → IsWhole (with_edited w o)
edit-whole w c cell d (Done x) whole mine b e =
    put-whole w x whole (subst (λ n. is_in n (state w.opening w.history).joined ≡ true) (sym (edited-number w.opening c x cell d e)) mine)
    (subst (λ seen. (later : List Entry) × (w.history ≡ seen ++ later)) (sym (edited-seen w.opening c x cell d e)) b)
edit-whole w c cell d NoCell whole mine b e = whole
edit-whole w c cell d EditTooLong whole mine b e = whole
edit-whole w c cell d (Unfit why) whole mine b e = whole

pub post-whole : (w : World) (c : Client) (op : Op) → IsWhole w → HasJoined w.opening w.history c → IsBehind w.history c → IsWhole (posted w c op)
post-whole w c op whole mine b = elim (is_postable op) as (λ p. IsWhole (if p then with_client w (with_message c op) else w)) [ true ↦ put-whole w (with_message c op) whole mine b | false ↦ whole ]

pub report-whole : (w : World) (c : Client) (cell : ℕ) (o : Option Client) → IsWhole w → HasJoined w.opening w.history c → IsBehind w.history c → reported w.opening c cell ≡ o → IsWhole (with_reported w o)
report-whole w c cell None whole mine b e = whole
report-whole w c cell (Some x) whole mine b e =
    subst (λ y. IsWhole (with_client w y)) (sym (reported-message w.opening c x cell e)) (put-whole w (with_message c (ReportOf cell (revision (delivered w.opening c) cell))) whole mine b)

pub take-whole : (w : World) (c : Client) (ops : List Op) → HasNoPassage ops → IsWhole w → HasJoined w.opening w.history c → IsBehind w.history c → IsWhole (taken w c ops)
take-whole w c [] inside whole mine b = whole
take-whole w c (op ∷ ops) inside whole mine b =
    let call : Call = ByClient c.number op in
    put-whole (called w call) (record c { outbox = ops }) (called-whole w c.number op whole (λ d. stays-by d.number c.number op inside.0)) (joined-more w.opening w.history (next_entry w call) c (stays-by c.number c.number op inside.0) mine) (behind-more w.history (next_entry w call) c b)

pub rest-after : (seen later : List Entry) → drop (length seen) (seen ++ later) ≡ later
rest-after [] later = refl
rest-after (e ∷ seen) later = rest-after seen later

receive-whole : (w : World) (c : Client) (es : List Entry) → IsWhole w → HasJoined w.opening w.history c → (b : IsBehind w.history c) → b.0 ≡ es → IsWhole (delivered_next w c es)
receive-whole w c [] whole mine b e = whole
receive-whole w c (x ∷ es) whole mine b e =
    let grown : w.history ≡ (c.seen ++ x ∷ []) ++ es = b.1 ∙ (ap (λ k. c.seen ++ k) e ∙ sym (append_assoc c.seen (x ∷ []) es)) in
    put-whole w (received_entry w.opening c x) whole (subst (λ n. is_in n (state w.opening w.history).joined ≡ true) (sym (received-number w.opening c x)) mine) (es, grown ∙ ap (λ k. k ++ es) (sym (received-seen w.opening c x)))

-- what is so where a number holds no client, and where it holds one
held-whole : (w : World) (n : ℕ) (o : Option Client) (act : Client → World) → client_of n w.clients ≡ o → IsWhole w → ((c : Client) → client_of n w.clients ≡ Some c → HasJoined w.opening w.history c → IsBehind w.history c → IsWhole (act c)) → IsWhole (if_held w o act)
held-whole w n None act e whole f = whole
held-whole w n (Some c) act e whole f = f c e (client-is (HasJoined w.opening w.history) n w.clients c whole.joined e).0 (client-is (IsBehind w.history) n w.clients c whole.behind e).0

raw-option : (w : World) (n : ℕ) (op : Op) (o : Option Client) → client_of n w.clients ≡ o → IsWhole w → IsWhole (raw w n op o)
raw-option w n op None e whole = raw-whole w n op e whole
raw-option w n op (Some c) e whole = whole

-- no client's outbox holds a joining or a leaving
abbrev pub AreQuietlyThere : World → Type 0
AreQuietlyThere w = AllByRecursion (λ c. HasNoPassage c.outbox) w.clients

pub event-whole : (w : World) (e : Event) → AreQuietlyThere w → IsWhole w → IsWhole (happens w e)
event-whole w (Join n) inside whole = join-whole w n whole
event-whole w (Leave n) inside whole = leave-whole w n whole
event-whole w (Edit n cell d) inside whole = held-whole w n (client_of n w.clients) (λ c. with_edited w (edited w.opening c cell d)) refl whole (λ c is mine b. edit-whole w c cell d (edited w.opening c cell d) whole mine b refl)
event-whole w (Post n op) inside whole = held-whole w n (client_of n w.clients) (λ c. posted w c op) refl whole (λ c is mine b. post-whole w c op whole mine b)
event-whole w (Report n cell) inside whole = held-whole w n (client_of n w.clients) (λ c. with_reported w (reported w.opening c cell)) refl whole (λ c is mine b. report-whole w c cell (reported w.opening c cell) whole mine b refl)
event-whole w (Take n) inside whole = held-whole w n (client_of n w.clients) (λ c. taken w c c.outbox) refl whole (λ c is mine b. take-whole w c c.outbox (client-is (λ d. HasNoPassage d.outbox) n w.clients c inside is).0 whole mine b)
event-whole w (Receive n) inside whole =
    held-whole w n (client_of n w.clients) (λ c. delivered_next w c (drop (length c.seen) w.history)) refl whole
    (λ c is mine b. receive-whole w c (drop (length c.seen) w.history) whole mine b (sym (ap (drop (length c.seen)) b.1 ∙ rest-after c.seen b.0)))
event-whole w (RawJoin n) inside whole = raw-join-whole w n whole
event-whole w (Raw n op) inside whole = raw-option w n op (client_of n w.clients) refl whole

shorter-none : (seen later : List Entry) → length (seen ++ later) ≡ length seen → later ≡ []
shorter-none seen [] e = refl
shorter-none seen (x ∷ later) e = let long : length (seen ++ x ∷ later) ≡ length seen + suc (length later) = length-append seen (x ∷ later) in absurd (omega (arith, e, long))

holds-all : (n0 : Parts) (h : List Entry) (c : Client) → c.seen ≡ h → c.pending ≡ [] → held n0 c ≡ (state n0 h).book
holds-all n0 h c all none = rw (all, none) (resourced-own (state n0 h).book)

pub whole-agree : (w : World) → IsWhole w → DoAgree w
whole-agree w whole n c e all none =
    let b : IsBehind w.history c = (client-is (IsBehind w.history) n w.clients c whole.behind e).0 in
    let last : b.0 ≡ [] = shorter-none c.seen b.0 (ap length (sym b.1) ∙ sym all) in
    holds-all w.opening w.history c (sym (b.1 ∙ (ap (λ k. c.seen ++ k) last ∙ append-nil c.seen))) none

-- what stays so with each event, whatever comes
edited-opening : (w : World) (o : Edited) → (with_edited w o).opening ≡ w.opening
edited-opening w (Done c) = refl
edited-opening w NoCell = refl
edited-opening w EditTooLong = refl
edited-opening w (Unfit why) = refl

joined-opening : (w : World) (n : ℕ) (answer : Reply) → (with_joined w n answer).opening ≡ w.opening
joined-opening w n Accepted = refl
joined-opening w n answer = refl

posted-opening : (w : World) (c : Client) (op : Op) → (posted w c op).opening ≡ w.opening
posted-opening w c op = elim (is_postable op) as (λ p. (if p then with_client w (with_message c op) else w).opening ≡ w.opening) [ true ↦ refl | false ↦ refl ]

reported-opening : (w : World) (o : Option Client) → (with_reported w o).opening ≡ w.opening
reported-opening w None = refl
reported-opening w (Some c) = refl

taken-opening : (w : World) (c : Client) (ops : List Op) → (taken w c ops).opening ≡ w.opening
taken-opening w c [] = refl
taken-opening w c (op ∷ ops) = refl

next-opening : (w : World) (c : Client) (es : List Entry) → (delivered_next w c es).opening ≡ w.opening
next-opening w c [] = refl
next-opening w c (e ∷ es) = refl

held-opening : (w : World) (o : Option Client) (act : Client → World) → ((c : Client) → (act c).opening ≡ w.opening) → (if_held w o act).opening ≡ w.opening
held-opening w None act f = refl
held-opening w (Some c) act f = f c

raw-opening : (w : World) (n : ℕ) (op : Op) (o : Option Client) → (raw w n op o).opening ≡ w.opening
raw-opening w n op None = refl
raw-opening w n op (Some c) = refl

event-opening : (w : World) (e : Event) → (happens w e).opening ≡ w.opening
event-opening w (Join n) = joined-opening (called w (ByClient n Joins)) n (reply (state w.opening w.history) (ByClient n Joins))
event-opening w (Leave n) = refl
event-opening w (Edit n cell d) = held-opening w (client_of n w.clients) (λ c. with_edited w (edited w.opening c cell d)) (λ c. edited-opening w (edited w.opening c cell d))
event-opening w (Post n op) = held-opening w (client_of n w.clients) (λ c. posted w c op) (λ c. posted-opening w c op)
event-opening w (Report n cell) = held-opening w (client_of n w.clients) (λ c. with_reported w (reported w.opening c cell)) (λ c. reported-opening w (reported w.opening c cell))
event-opening w (Take n) = held-opening w (client_of n w.clients) (λ c. taken w c c.outbox) (λ c. taken-opening w c c.outbox)
event-opening w (Receive n) = held-opening w (client_of n w.clients) (λ c. delivered_next w c (drop (length c.seen) w.history)) (λ c. next-opening w c (drop (length c.seen) w.history))
event-opening w (RawJoin n) = refl
event-opening w (Raw n op) = raw-opening w n op (client_of n w.clients)

events-opening : (w : World) (es : List Event) → (after_events w es).opening ≡ w.opening
events-opening w [] = refl
events-opening w (e ∷ es) = events-opening (happens w e) es ∙ event-opening w e

-- the notebook with which the session opened stays
pub run-opening : (n0 : Parts) (es : List Event) → (run n0 es).opening ≡ n0
run-opening n0 es = events-opening (first_world n0) es

-- what each call keeps of a history
abbrev pub KeptByCalls : (List Entry → Type 0) → Type 0
KeptByCalls P = (h : List Entry) (e : Entry) → IsUnderZero e → P h → P (h ++ e ∷ [])

module _ (P : List Entry → Type 0) (grows : KeptByCalls P) where
  call-keeps : (w : World) (call : Call) → P w.history → P (called w call).history
  call-keeps w call kept = grows w.history (next_entry w call) refl kept

  joined-keeps : (w : World) (n : ℕ) (answer : Reply) → P w.history → P (with_joined w n answer).history
  joined-keeps w n Accepted kept = kept
  joined-keeps w n answer kept = kept

  edited-keeps : (w : World) (o : Edited) → P w.history → P (with_edited w o).history
  edited-keeps w (Done c) kept = kept
  edited-keeps w NoCell kept = kept
  edited-keeps w EditTooLong kept = kept
  edited-keeps w (Unfit why) kept = kept

  posted-keeps : (w : World) (c : Client) (op : Op) → P w.history → P (posted w c op).history
  posted-keeps w c op kept = elim (is_postable op) as (λ p. P (if p then with_client w (with_message c op) else w).history) [ true ↦ kept | false ↦ kept ]

  reported-keeps : (w : World) (o : Option Client) → P w.history → P (with_reported w o).history
  reported-keeps w None kept = kept
  reported-keeps w (Some c) kept = kept

  taken-keeps : (w : World) (c : Client) (ops : List Op) → P w.history → P (taken w c ops).history
  taken-keeps w c [] kept = kept
  taken-keeps w c (op ∷ ops) kept = call-keeps w (ByClient c.number op) kept

  next-keeps : (w : World) (c : Client) (es : List Entry) → P w.history → P (delivered_next w c es).history
  next-keeps w c [] kept = kept
  next-keeps w c (e ∷ es) kept = kept

  held-keeps : (w : World) (o : Option Client) (act : Client → World) → P w.history → ((c : Client) → P (act c).history) → P (if_held w o act).history
  held-keeps w None act kept f = kept
  held-keeps w (Some c) act kept f = f c

  raw-keeps : (w : World) (n : ℕ) (op : Op) (o : Option Client) → P w.history → P (raw w n op o).history
  raw-keeps w n op None kept = call-keeps w (ByClient n op) kept
  raw-keeps w n op (Some c) kept = kept

  event-keeps : (w : World) (e : Event) → P w.history → P (happens w e).history
  event-keeps w (Join n) kept = joined-keeps (called w (ByClient n Joins)) n (reply (state w.opening w.history) (ByClient n Joins)) (call-keeps w (ByClient n Joins) kept)
  event-keeps w (Leave n) kept = call-keeps w (ByClient n Leaves) kept
  event-keeps w (Edit n cell d) kept = held-keeps w (client_of n w.clients) (λ c. with_edited w (edited w.opening c cell d)) kept (λ c. edited-keeps w (edited w.opening c cell d) kept)
  event-keeps w (Post n op) kept = held-keeps w (client_of n w.clients) (λ c. posted w c op) kept (λ c. posted-keeps w c op kept)
  event-keeps w (Report n cell) kept = held-keeps w (client_of n w.clients) (λ c. with_reported w (reported w.opening c cell)) kept (λ c. reported-keeps w (reported w.opening c cell) kept)
  event-keeps w (Take n) kept = held-keeps w (client_of n w.clients) (λ c. taken w c c.outbox) kept (λ c. taken-keeps w c c.outbox kept)
  event-keeps w (Receive n) kept = held-keeps w (client_of n w.clients) (λ c. delivered_next w c (drop (length c.seen) w.history)) kept (λ c. next-keeps w c (drop (length c.seen) w.history) kept)
  event-keeps w (RawJoin n) kept = call-keeps w (ByClient n Joins) kept
  event-keeps w (Raw n op) kept = raw-keeps w n op (client_of n w.clients) kept

  -- what each call keeps of a history, each list of events keeps
  pub events-keep : (w : World) (es : List Event) → P w.history → P (after_events w es).history
  events-keep w [] kept = kept
  events-keep w (e ∷ es) kept = events-keep (happens w e) es (event-keeps w e kept)

-- after every list of events all of the history stands under 0
pub run-seat : (n0 : Parts) (es : List Event) → IsOfOneSeat (run n0 es)
run-seat n0 es = events-keep (AllByRecursion IsUnderZero) (λ h e zero one. all-append IsUnderZero h (e ∷ []) one (zero, tt)) (first_world n0) es tt

-- a history that begins with these entries
abbrev pub BeginsWith : List Entry → List Entry → Type 0
BeginsWith front h = (later : List Entry) × (h ≡ front ++ later)

-- whatever happens, the history only grows
pub events-go-on : (w : World) (es : List Event) → BeginsWith w.history (after_events w es).history
events-go-on w es = events-keep (BeginsWith w.history) (λ h e zero b. (b.0 ++ e ∷ [], ap (λ k. k ++ e ∷ []) b.1 ∙ append_assoc w.history b.0 (e ∷ []))) w es ([], sym (append-nil w.history))
