-- What a step leaves in memory stands for what its event makes of the world.
use Rattle.std.proofs.Common.{◌≡◌, ℕ, ◌+◌, ◌<◌, true, false, if◌then◌else◌, List, [], ◌∷◌, ◌++◌, length, take, drop, set, get_or, map, Option, Some, None, refl, sym, ap, subst, ◌∙◌, add-one, drop-cons, arith, length-append}
use Rattle.std.specs.List.{AllByRecursion, remove}
use Rattle.std.specs.Prelude.{Result, OnOk}
use Rattle.std.proofs.Math.Seq.{take-append_seam}
use Rattle.std.proofs.lemmas.List.{take_more}
use Rattle.delta.specs.declared.Step.{Step}
use Rattle.notebook.specs.declared.parts.Parts.{Parts}
use Rattle.session_ops.specs.declared.entry.Op.{Op}
use Rattle.session_ops.specs.declared.entry.Op.TheVariants.{Join as Joins}
use Rattle.session_ops.specs.declared.entry.Call.{Call}
use Rattle.session_ops.specs.declared.entry.Call.TheVariants.{Client as ByClient}
use Rattle.session_ops.specs.declared.entry.Reply.{Reply}
use Rattle.session_ops.specs.declared.entry.Entry.{Entry}
use Rattle.session_ops.specs.State.{state, reply}
use Rattle.client_sync.specs.Client.{Client as Holder, Edited, Done, NoCell, EditTooLong, Unfit, edited, received_entry, joined_client, with_message, client_of, reported, without_client}
use Rattle.client_sync.specs.declared.client.Client.{Client}
use Rattle.client_sync.specs.Stands.{Mirrors, IsNextEntry}
use Rattle.session_ops.specs.Born.{TouchesMadeCells}
use Rattle.session_ops.specs.Structure.{is_postable}
use Rattle.notebook.specs.Rules.{IsNotebook}
use Rattle.session_core.specs.Session.{Session, IsSession, HasAnswered, history_of, entry_of}
use Rattle.world.specs.declared.event.Event.{Event}
use Rattle.world.specs.declared.event.Event.TheVariants.{Join, Edit, Post, Report, Take, Receive, Raw}
use Rattle.world.specs.declared.world.World.{World}
use Rattle.world.specs.World.{World as Course, called, with_joined, with_client, once_gone, with_edited, posted, with_reported, taken, delivered_next, if_held, raw, happens, after_events, run}
use Rattle.world.specs.Claims.{IsBehind, number_of}
use Rattle.world.specs.Waiting.{IsHonest}
use Rattle.world.specs.Sound.{AreApart, IsApart, IsSound}
use Rattle.world.specs.Plays.{AreMirrors, Plays, IsHolderAt, IsRun, HoldsFront, DoHold, edited_or_same, reported_or_same, received_first}
use Rattle.world.proofs.Clients.{edited-number, reported-message, received-number}
use Rattle.world.proofs.Standing.{rest-after, run-opening}
use Rattle.world.proofs.Honest.{run-whole, run-agree, run-honest, run-heard, run-fair, client-honest}
use Rattle.world.proofs.Born.{state-touches}
use Rattle.world.proofs.Fronts.{fronts-show}
use Rattle.world.proofs.Messages.{run-answers}
use Rattle.world.proofs.Next.{next-entry}
use Rattle.world.proofs.Mirroring.{mirrors-append, mirrors-set, mirrors-removed, without-at, without-nobody, client-at, put-at}

-- a client in memory was put in the place of a number's client, and nothing else was changed
pub record HasPut (w : Course) (x y : World) (n at : ℕ) (c : Client) : Type 0 where
  pub plays : Plays w x
  pub apart : AreApart (map number_of w.clients)
  pub holder : IsHolderAt n w.clients at
  pub session : y.session ≡ x.session
  pub clients : y.clients.items ≡ set x.clients.items at c

-- the place that was found, and the client in memory that stands there
pub holder-at : (w : Course) (x : World) (cs : List Client) (n at : ℕ) → cs ≡ x.clients.items → ((n0 : Parts) (ms : List Holder) → AreMirrors n0 cs ms → IsHolderAt n ms at) → Plays w x → IsHolderAt n w.clients at
holder-at w x cs n at same places is = places w.opening w.clients (subst (λ k. AreMirrors w.opening k w.clients) (sym same) is.clients)

-- the number holds no client
pub nobody-there : (w : Course) (x : World) (cs : List Client) (n : ℕ) → cs ≡ x.clients.items → ((n0 : Parts) (ms : List Holder) → AreMirrors n0 cs ms → client_of n ms ≡ None) → Plays w x → client_of n w.clients ≡ None
nobody-there w x cs n same none is = none w.opening w.clients (subst (λ k. AreMirrors w.opening k w.clients) (sym same) is.clients)

put-mirrors : (w : Course) (x y : World) (n at : ℕ) (c : Client) (m : Holder) → (p : HasPut w x y n at c) → Mirrors w.opening c m → AreMirrors w.opening y.clients.items (p.holder.front ++ m ∷ p.holder.back)
put-mirrors w x y n at c m p is = subst (λ cs. AreMirrors w.opening cs (p.holder.front ++ m ∷ p.holder.back)) (sym p.clients) (mirrors-set w.opening x.clients.items w.clients n at c m p.plays.clients p.holder is)

-- it stands for what stood there
put-same : (w : Course) (x y : World) (n at : ℕ) (c : Client) → (p : HasPut w x y n at c) → Mirrors w.opening c p.holder.here → Plays w y
put-same w x y n at c p is =
    record {
      session = subst (IsSession w.opening) (sym p.session) p.plays.session;
      history = ap history_of p.session ∙ p.plays.history;
      clients = subst (AreMirrors w.opening y.clients.items) (sym p.holder.parts) (put-mirrors w x y n at c p.holder.here p is);
    }

-- it stands for another client of the number
put-other : (w : Course) (x y : World) (n at : ℕ) (c : Client) (m : Holder) → (p : HasPut w x y n at c) → m.number ≡ p.holder.here.number → Mirrors w.opening c m → Plays (with_client w m) y
put-other w x y n at c m p same is =
    record {
      session = subst (IsSession w.opening) (sym p.session) p.plays.session;
      history = ap history_of p.session ∙ p.plays.history;
      clients = subst (AreMirrors w.opening y.clients.items) (sym (put-at n w.clients at m p.holder same p.apart)) (put-mirrors w x y n at c m p is);
    }

-- what a number's client does
held-plays : (w : Course) (y : World) (n at : ℕ) (act : Holder → Course) → (p : IsHolderAt n w.clients at) → Plays (act p.here) y → Plays (if_held w (client_of n w.clients) act) y
held-plays w y n at act p is = subst (λ o. Plays (if_held w o act) y) (sym (client-at n w.clients at p)) is

-- an edit
edit-put : (w : Course) (x y : World) (n at cell : ℕ) (d : List Step) (c : Client) (o : Edited) → (p : HasPut w x y n at c) → edited w.opening p.holder.here cell d ≡ o → Mirrors w.opening c (edited_or_same p.holder.here o) → Plays (with_edited w o) y
edit-put w x y n at cell d c (Done m) p e is = put-other w x y n at c m p (edited-number w.opening p.holder.here m cell d e) is
edit-put w x y n at cell d c NoCell p e is = put-same w x y n at c p is
edit-put w x y n at cell d c EditTooLong p e is = put-same w x y n at c p is
edit-put w x y n at cell d c (Unfit why) p e is = put-same w x y n at c p is

pub edit-plays : (w : Course) (x y : World) (n at cell : ℕ) (d : List Step) (c : Client) → (p : HasPut w x y n at c) → Mirrors w.opening c (edited_or_same p.holder.here (edited w.opening p.holder.here cell d)) → Plays (happens w (Edit n cell d)) y
edit-plays w x y n at cell d c p is = held-plays w y n at (λ m. with_edited w (edited w.opening m cell d)) p.holder (edit-put w x y n at cell d c (edited w.opening p.holder.here cell d) p refl is)

-- a message that is posted
pub post-plays : (w : Course) (x y : World) (n at : ℕ) (op : Op) (c : Client) → is_postable op ≡ true → (p : HasPut w x y n at c) → Mirrors w.opening c (with_message p.holder.here op) → Plays (happens w (Post n op)) y
post-plays w x y n at op c may p is = held-plays w y n at (λ m. posted w m op) p.holder (subst (λ b. Plays (if b then with_client w (with_message p.holder.here op) else w) y) (sym may) (put-other w x y n at c (with_message p.holder.here op) p refl is))

held-same : (w : Course) (o : Option Holder) → if_held w o (λ m. w) ≡ w
held-same w None = refl
held-same w (Some m) = refl

pub unposted-plays : (w : Course) (x : World) (n : ℕ) (op : Op) → is_postable op ≡ false → Plays w x → Plays (happens w (Post n op)) x
unposted-plays w x n op not_so is = subst (λ v. Plays v x) (sym (ap (λ b. if_held w (client_of n w.clients) (λ m. if b then with_client w (with_message m op) else w)) not_so ∙ held-same w (client_of n w.clients))) is

pub nobody-posts : (w : Course) (x : World) (n : ℕ) (op : Op) → client_of n w.clients ≡ None → Plays w x → Plays (happens w (Post n op)) x
nobody-posts w x n op none is = subst (λ o. Plays (if_held w o (λ m. posted w m op)) x) (sym none) is

-- a report
report-put : (w : Course) (x y : World) (n at cell : ℕ) (c : Client) (o : Option Holder) → (p : HasPut w x y n at c) → reported w.opening p.holder.here cell ≡ o → Mirrors w.opening c (reported_or_same p.holder.here o) → Plays (with_reported w o) y
report-put w x y n at cell c None p e is = put-same w x y n at c p is
report-put w x y n at cell c (Some m) p e is = put-other w x y n at c m p (ap (λ d. d.number) (reported-message w.opening p.holder.here m cell e)) is

pub report-plays : (w : Course) (x y : World) (n at cell : ℕ) (c : Client) → (p : HasPut w x y n at c) → Mirrors w.opening c (reported_or_same p.holder.here (reported w.opening p.holder.here cell)) → Plays (happens w (Report n cell)) y
report-plays w x y n at cell c p is = held-plays w y n at (λ m. with_reported w (reported w.opening m cell)) p.holder (report-put w x y n at cell c (reported w.opening p.holder.here cell) p refl is)

-- a call that the session answered
pub called-plays : (w : Course) (x y : World) (call : Call) (answer : Reply) → Plays w x → HasAnswered w.opening 0 call x.session y.session answer → y.clients.items ≡ x.clients.items → Plays (called w call) y
called-plays w x y call answer is done same =
    let right : answer ≡ reply (state w.opening w.history) call = done.right ∙ ap (λ h. reply (state w.opening h) call) is.history in
    record {
      session = done.session;
      history = done.history ∙ (ap (λ h. h ++ entry_of 0 call answer ∷ []) is.history ∙ ap (λ a. w.history ++ entry_of 0 call a ∷ []) right);
      clients = subst (λ cs. AreMirrors w.opening cs w.clients) (sym same) is.clients;
    }

-- a number that asked to join, of which the rest is told by the answer
pub joined-plays : {A E : Type 0} (w : Course) (x y z : World) (n : ℕ) (answer : Reply) (r : Result A E) → Plays w x → HasAnswered w.opening 0 (ByClient n Joins) x.session y.session answer → y.clients.items ≡ x.clients.items
    → ((v : Course) → Plays v y → OnOk r (Plays (with_joined v n answer) z)) → OnOk r (Plays (happens w (Join n)) z)
joined-plays w x y z n answer r is done same rest =
    let call : Call = ByClient n Joins in
    let right : answer ≡ reply (state w.opening w.history) call = done.right ∙ ap (λ h. reply (state w.opening h) call) is.history in
    subst (λ a. OnOk r (Plays (with_joined (called w call) n a) z)) right (rest (called w call) (called-plays w x y call answer is done same))

-- a new client that has received all
pub added-plays : (w : Course) (x y : World) (n : ℕ) (c : Client) → Plays w x → y.session ≡ x.session → y.clients.items ≡ x.clients.items ++ c ∷ [] → Mirrors w.opening c (joined_client n (history_of x.session)) → Plays (record w { clients = w.clients ++ joined_client n w.history ∷ [] }) y
added-plays w x y n c is same more new =
    record {
      session = subst (IsSession w.opening) (sym same) is.session;
      history = ap history_of same ∙ is.history;
      clients = subst (λ cs. AreMirrors w.opening cs (w.clients ++ joined_client n w.history ∷ [])) (sym more) (mirrors-append w.opening x.clients.items w.clients c (joined_client n w.history) is.clients (subst (λ h. Mirrors w.opening c (joined_client n h)) is.history new));
    }

-- the number's client is gone
pub dismissed-plays : (w : Course) (x y : World) (n at : ℕ) → IsApart w → Plays w x → (p : IsHolderAt n w.clients at) → y.session ≡ x.session → y.clients.items ≡ remove x.clients.items at → Plays (once_gone n w) y
dismissed-plays w x y n at apart is p same fewer =
    record {
      session = subst (IsSession w.opening) (sym same) is.session;
      history = ap history_of same ∙ is.history;
      clients = subst (λ cs. AreMirrors w.opening cs (without_client n w.clients)) (sym fewer) (subst (AreMirrors w.opening (remove x.clients.items at)) (sym (without-at n w.clients at p apart)) (mirrors-removed w.opening x.clients.items w.clients n at is.clients p));
    }

pub nobody-gone : (w : Course) (x : World) (n : ℕ) → client_of n w.clients ≡ None → Plays w x → Plays (once_gone n w) x
nobody-gone w x n none is = record { session = is.session; history = is.history; clients = subst (AreMirrors w.opening x.clients.items) (sym (without-nobody n w.clients none)) is.clients }

-- a raw call
pub raw-plays : (w : Course) (x : World) (n : ℕ) (op : Op) → client_of n w.clients ≡ None → Plays (called w (ByClient n op)) x → Plays (happens w (Raw n op)) x
raw-plays w x n op none is = subst (λ o. Plays (raw w n op o) x) (sym none) is

pub raw-held : (w : Course) (x : World) (n at : ℕ) (op : Op) → (p : IsHolderAt n w.clients at) → Plays w x → Plays (happens w (Raw n op)) x
raw-held w x n at op p is = subst (λ o. Plays (raw w n op o) x) (sym (client-at n w.clients at p)) is

-- what is there when a client is made
pub session-touches : (n0 : Parts) (s : Session) → IsSession n0 s → TouchesMadeCells (state n0 (history_of s))
session-touches n0 s is = state-touches n0 (history_of s) is.opening is.legal

-- an empty outbox
pub empty-plays : (w : Course) (x y : World) (n at : ℕ) (c : Client) → (p : HasPut w x y n at c) → p.holder.here.outbox ≡ [] → Mirrors w.opening c p.holder.here → Plays (happens w (Take n)) y
empty-plays w x y n at c p e is = held-plays w y n at (λ m. taken w m m.outbox) p.holder (subst (λ ops. Plays (taken w p.holder.here ops) y) (sym e) (put-same w x y n at c p is))

-- the message at the front was taken, and answered
pub take-plays : (w : Course) (x y z : World) (n at : ℕ) (c : Client) (op : Op) (ops : List Op) (answer : Reply) → (p : HasPut w x y n at c) → p.holder.here.outbox ≡ op ∷ ops → Mirrors w.opening c (record p.holder.here { outbox = ops }) → HasAnswered w.opening 0 (ByClient n op) y.session z.session answer → z.clients.items ≡ y.clients.items → Plays (happens w (Take n)) z
take-plays w x y z n at c op ops answer p e is done same =
    let m : Holder = record p.holder.here { outbox = ops } in
    let put : Plays (with_client w m) y = put-other w x y n at c m p refl is in
    let own : HasAnswered w.opening 0 (ByClient p.holder.here.number op) y.session z.session answer = subst (λ k. HasAnswered w.opening 0 (ByClient k op) y.session z.session answer) (sym p.holder.number) done in
    let called_now : Plays (called (with_client w m) (ByClient p.holder.here.number op)) z = called-plays (with_client w m) y z (ByClient p.holder.here.number op) answer put own same in
    held-plays w z n at (λ q. taken w q q.outbox) p.holder (subst (λ os. Plays (taken w p.holder.here os) z) (sym e) called_now)

-- the next entry of the history
receive-put : (w : Course) (x y : World) (n at : ℕ) (c : Client) (es : List Entry) → (p : HasPut w x y n at c) → Mirrors w.opening c (received_first w.opening p.holder.here es) → Plays (delivered_next w p.holder.here es) y
receive-put w x y n at c [] p is = put-same w x y n at c p is
receive-put w x y n at c (e ∷ es) p is =
    let m : Holder = p.holder.here in
    put-other w x y n at c (received_entry w.opening m e) p (received-number w.opening m e) is

pub receive-plays : (w : Course) (x y : World) (n at : ℕ) (c : Client) → (p : HasPut w x y n at c) → Mirrors w.opening c (received_first w.opening p.holder.here (drop (length p.holder.here.seen) w.history)) → Plays (happens w (Receive n)) y
receive-plays w x y n at c p is = held-plays w y n at (λ m. delivered_next w m (drop (length m.seen) w.history)) p.holder (receive-put w x y n at c (drop (length p.holder.here.seen) w.history) p is)

-- what a client receives next in a world where each stands as it should
pub next-known : (w : Course) (n at : ℕ) → IsSound w → (p : IsHolderAt n w.clients at) → (e : Entry) (es : List Entry) → drop (length p.here.seen) w.history ≡ e ∷ es → IsNextEntry w.opening p.here e
next-known w n at sound p e es rest =
    let is : IsHonest w.opening w.history p.here = client-honest w n p.here sound.honest (client-at n w.clients at p) in
    next-entry w.opening w.history p.here sound.whole.legal is e es (sym (ap (drop (length p.here.seen)) is.behind ∙ rest-after p.here.seen is.later) ∙ rest)

-- the entry at a place is the first from there on
pub record HasRest (h : List Entry) (i : ℕ) (e : Entry) : Type 0 where
  pub rest : List Entry
  pub parts : drop i h ≡ e ∷ rest

pub rest-at : (h : List Entry) (i : ℕ) (e : Entry) → i < length h → e ≡ get_or h i e → HasRest h i e
rest-at h i e within at = record { rest = drop (i + 1) h; parts = rw add-one (drop-cons h i e within) ∙ ap (λ y. y ∷ drop (i + 1) h) (sym at) }

-- one event more
after-more : (w : Course) (es : List Event) (e : Event) → after_events w (es ++ e ∷ []) ≡ happens (after_events w es) e
after-more w [] e = refl
after-more w (x ∷ es) e = after-more (happens w x) es e

pub run-more : (n0 : Parts) (es : List Event) (i : ℕ) (e : Event) (x : World) → i < length es → e ≡ get_or es i e → Plays (happens (run n0 (take i es)) e) x → Plays (run n0 (take (i + 1) es)) x
run-more n0 es i e x within at is =
    let more : take (i + 1) es ≡ take i es ++ e ∷ [] = take_more es i e within ∙ ap (λ y. take i es ++ y ∷ []) (sym at) in
    subst (λ w. Plays w x) (sym (ap (run n0) more ∙ after-more (run n0 []) (take i es) e)) is

-- what holds of what was played
holds-front : (n0 : Parts) (h : List Entry) (c : Client) (m : Holder) → Mirrors n0 c m → IsBehind h m → HoldsFront n0 h c m
holds-front n0 h c m is b =
    let len : length h ≡ length m.seen + length b.0 = ap length b.1 ∙ length-append m.seen b.0 in
    let cursor : c.cursor ≡ length m.seen = is.cursor in
    record {
      cursor = omega (arith, cursor, len);
      seen = sym (ap (λ i. take i h) cursor ∙ (ap (take (length m.seen)) b.1 ∙ take-append_seam m.seen b.0));
      book = is.book;
    }

do-hold : (n0 : Parts) (h : List Entry) (cs : List Client) (ms : List Holder) → AreMirrors n0 cs ms → AllByRecursion (IsBehind h) ms → DoHold n0 h cs ms
do-hold n0 h [] [] all behind = tt
do-hold n0 h [] (m ∷ ms) all behind = absurd all
do-hold n0 h (c ∷ cs) [] all behind = absurd all
do-hold n0 h (c ∷ cs) (m ∷ ms) all behind = (holds-front n0 h c m all.0 behind.0, do-hold n0 h cs ms all.1 behind.1)

pub run-is : (book : Parts) (es : List Event) (x : World) → IsNotebook book → Plays (run book es) x → IsRun book es (run book es) x
run-is book es x note is =
    record {
      opening = run-opening book es;
      plays = is;
      whole = run-whole book es note;
      hold = do-hold (run book es).opening (run book es).history x.clients.items (run book es).clients is.clients (run-whole book es note).behind;
      agree = run-agree book es note;
      honest = run-honest book es note;
      messages = run-answers book es note;
      fair = run-fair book es note;
      heard = run-heard book es note;
      shown = fronts-show (run book es).opening (run book es).history (run-whole book es note).legal;
    }
