-- No number holds two clients, whatever has happened.
use Rattle.std.proofs.Common.{◌≡◌, ℕ, ◌==◌, true, false, if◌then◌else◌, List, [], ◌∷◌, ◌++◌, length, drop, map, Option, Some, None, refl, sym, ap, subst, ◌∙◌}
use Rattle.std.specs.Prelude.{◌||◌}
use Rattle.std.specs.List.{AllByRecursion}
use Rattle.std.proofs.lemmas.List.{map-append}
use Rattle.std.proofs.lemmas.Bool.{eqb-true, eq-eqb}
use Rattle.notebook.specs.declared.parts.Parts.{Parts}
use Rattle.notebook.specs.Rules.{IsNotebook}
use Rattle.session_ops.specs.declared.entry.Op.{Op}
use Rattle.session_ops.specs.declared.entry.Op.TheVariants.{Join as Joins}
use Rattle.session_ops.specs.declared.entry.Call.TheVariants.{Client as ByClient}
use Rattle.session_ops.specs.declared.entry.Refusal.TheVariants.{AlreadyJoined}
use Rattle.session_ops.specs.declared.entry.Reply.TheVariants.{Accepted, Refused}
use Rattle.session_ops.specs.declared.entry.Entry.{Entry}
use Rattle.session_ops.specs.State.{state}
use Rattle.session_ops.specs.Structure.{is_postable}
use Rattle.session_ops.specs.Numbers.{is_in}
use Rattle.session_ops.proofs.Members.{in-append}
use Rattle.client_sync.specs.Client.{Client, Edited, Done, NoCell, EditTooLong, Unfit, edited, reported, received_entry, joined_client, with_message, client_of, without_client}
use Rattle.world.specs.declared.event.Event.{Event}
use Rattle.world.specs.declared.event.Event.TheVariants.{Join, Leave, Edit, Post, Report, Take, Receive, RawJoin, Raw}
use Rattle.world.specs.World.{World, first_world, called, with_client, with_joined, with_edited, posted, with_reported, taken, delivered_next, if_held, raw, happens, after_events, run}
use Rattle.world.specs.Claims.{IsWhole, number_of}
use Rattle.world.specs.Sound.{AreApart, IsApart, IsSound}
use Rattle.world.proofs.Clients.{put-numbers}
use Rattle.world.proofs.Standing.{event-whole}
use Rattle.world.proofs.Honest.{event-honest, honest-inside}

-- two different numbers
not-first : (m n : ℕ) → (m == n) ≡ false → is_in m (n ∷ []) ≡ false
not-first m n ne =
    elim (n == m)
    as (λ b. (n == m) ≡ b → (if b then true else false) ≡ false)
    [ true ↦ λ t. let wrong : true ≡ false = sym (eq-eqb m n (sym (eqb-true n m t))) ∙ ne in absurd (cc wrong) | false ↦ λ t. refl ]
    refl

apart-more : (ms : List ℕ) (n : ℕ) → AreApart ms → is_in n ms ≡ false → AreApart (ms ++ n ∷ [])
apart-more [] n apart absent = (refl, tt)
apart-more (m ∷ ms) n apart absent =
    elim (m == n)
    as (λ b. (m == n) ≡ b → (if b then true else is_in n ms) ≡ false → AreApart (m ∷ (ms ++ n ∷ []))) [
      | true ↦ λ t k. absurd (cc k)
      | false ↦ λ t k. (in-append m ms (n ∷ []) ∙ (ap (λ b. b || is_in m (n ∷ [])) apart.0 ∙ not-first m n t), apart-more ms n apart.1 k)
    ]
    refl
    absent

with-apart : (w : World) (c : Client) → IsApart w → IsApart (with_client w c)
with-apart w c apart = subst AreApart (sym (put-numbers c w.clients)) apart

-- a number that hasn't joined is none of the clients'
absent-number : (n : ℕ) (ns : List ℕ) (cs : List Client) → is_in n ns ≡ false → AllByRecursion (λ c. is_in c.number ns ≡ true) cs → is_in n (map number_of cs) ≡ false
absent-number n ns [] e all = refl
absent-number n ns (c ∷ cs) e all =
    elim (c.number == n)
    as (λ b. (c.number == n) ≡ b → (if b then true else is_in n (map number_of cs)) ≡ false) [
      | true ↦ λ t. let wrong : true ≡ false = sym all.0 ∙ subst (λ i. is_in i ns ≡ false) (sym (eqb-true c.number n t)) e in absurd (cc wrong)
      | false ↦ λ t. absent-number n ns cs e all.1
    ]
    refl

join-accepted : (w : World) (n : ℕ) → IsWhole w → IsApart w → is_in n (state w.opening w.history).joined ≡ false → IsApart (with_joined (called w (ByClient n Joins)) n Accepted)
join-accepted w n whole apart e =
    let h : List Entry = (called w (ByClient n Joins)).history in
    let absent : is_in n (map number_of w.clients) ≡ false = absent-number n (state w.opening w.history).joined w.clients e whole.joined in
    subst AreApart (sym (map-append number_of w.clients (joined_client n h ∷ []))) (apart-more (map number_of w.clients) n apart absent)

join-apart : (w : World) (n : ℕ) → IsWhole w → IsApart w → IsApart (happens w (Join n))
join-apart w n whole apart =
    elim (is_in n (state w.opening w.history).joined)
    as (λ b. is_in n (state w.opening w.history).joined ≡ b → IsApart (with_joined (called w (ByClient n Joins)) n (if b then Refused AlreadyJoined else Accepted)))
    [ true ↦ λ t. apart | false ↦ λ t. join-accepted w n whole apart t ]
    refl

-- fewer numbers stand apart too
absent-without : (m n : ℕ) (cs : List Client) → is_in m (map number_of cs) ≡ false → is_in m (map number_of (without_client n cs)) ≡ false
absent-without m n [] e = refl
absent-without m n (c ∷ cs) e =
    elim (c.number == m)
    as (λ b. (c.number == m) ≡ b → (if b then true else is_in m (map number_of cs)) ≡ false → is_in m (map number_of (if c.number == n then without_client n cs else c ∷ without_client n cs)) ≡ false) [
      | true ↦ λ t k. absurd (cc k)
      | false ↦ λ t k. elim (c.number == n)
          as (λ b. is_in m (map number_of (if b then without_client n cs else c ∷ without_client n cs)) ≡ false)
          [ true ↦ absent-without m n cs k | false ↦ ap (λ b. if b then true else is_in m (map number_of (without_client n cs))) t ∙ absent-without m n cs k ]
    ]
    refl
    e

apart-without : (n : ℕ) (cs : List Client) → AreApart (map number_of cs) → AreApart (map number_of (without_client n cs))
apart-without n [] apart = tt
apart-without n (c ∷ cs) apart =
    elim (c.number == n)
    as (λ b. AreApart (map number_of (if b then without_client n cs else c ∷ without_client n cs)))
    [ true ↦ apart-without n cs apart.1 | false ↦ (absent-without c.number n cs apart.0, apart-without n cs apart.1) ]

edit-apart : (w : World) (o : Edited) → IsApart w → IsApart (with_edited w o)
edit-apart w (Done c) apart = with-apart w c apart
edit-apart w NoCell apart = apart
edit-apart w EditTooLong apart = apart
edit-apart w (Unfit why) apart = apart

post-apart : (w : World) (c : Client) (op : Op) → IsApart w → IsApart (posted w c op)
post-apart w c op apart = elim (is_postable op) as (λ p. IsApart (if p then with_client w (with_message c op) else w)) [ true ↦ with-apart w (with_message c op) apart | false ↦ apart ]

report-apart : (w : World) (o : Option Client) → IsApart w → IsApart (with_reported w o)
report-apart w None apart = apart
report-apart w (Some c) apart = with-apart w c apart

take-apart : (w : World) (c : Client) (ops : List Op) → IsApart w → IsApart (taken w c ops)
take-apart w c [] apart = apart
take-apart w c (op ∷ ops) apart = with-apart (called w (ByClient c.number op)) (record c { outbox = ops }) apart

receive-apart : (w : World) (c : Client) (es : List Entry) → IsApart w → IsApart (delivered_next w c es)
receive-apart w c [] apart = apart
receive-apart w c (e ∷ es) apart = with-apart w (received_entry w.opening c e) apart

held-apart : (w : World) (o : Option Client) (act : Client → World) → IsApart w → ((c : Client) → IsApart (act c)) → IsApart (if_held w o act)
held-apart w None act apart f = apart
held-apart w (Some c) act apart f = f c

raw-apart : (w : World) (n : ℕ) (op : Op) (o : Option Client) → IsApart w → IsApart (raw w n op o)
raw-apart w n op None apart = apart
raw-apart w n op (Some c) apart = apart

event-apart : (w : World) (e : Event) → IsWhole w → IsApart w → IsApart (happens w e)
event-apart w (Join n) whole apart = join-apart w n whole apart
event-apart w (Leave n) whole apart = apart-without n w.clients apart
event-apart w (Edit n cell d) whole apart = held-apart w (client_of n w.clients) (λ c. with_edited w (edited w.opening c cell d)) apart (λ c. edit-apart w (edited w.opening c cell d) apart)
event-apart w (Post n op) whole apart = held-apart w (client_of n w.clients) (λ c. posted w c op) apart (λ c. post-apart w c op apart)
event-apart w (Report n cell) whole apart = held-apart w (client_of n w.clients) (λ c. with_reported w (reported w.opening c cell)) apart (λ c. report-apart w (reported w.opening c cell) apart)
event-apart w (Take n) whole apart = held-apart w (client_of n w.clients) (λ c. taken w c c.outbox) apart (λ c. take-apart w c c.outbox apart)
event-apart w (Receive n) whole apart = held-apart w (client_of n w.clients) (λ c. delivered_next w c (drop (length c.seen) w.history)) apart (λ c. receive-apart w c (drop (length c.seen) w.history) apart)
event-apart w (RawJoin n) whole apart = apart
event-apart w (Raw n op) whole apart = raw-apart w n op (client_of n w.clients) apart

pub event-sound : (w : World) (e : Event) → IsSound w → IsSound (happens w e)
event-sound w e sound = record { whole = event-whole w e (honest-inside w sound.honest) sound.whole; honest = event-honest w e sound.whole sound.honest; apart = event-apart w e sound.whole sound.apart }

events-sound : (w : World) (es : List Event) → IsSound w → IsSound (after_events w es)
events-sound w [] sound = sound
events-sound w (e ∷ es) sound = events-sound (happens w e) es (event-sound w e sound)

-- after every list of events the next one finds what it may rely on
pub run-sound : (n0 : Parts) (es : List Event) → IsNotebook n0 → IsSound (run n0 es)
run-sound n0 es note = events-sound (first_world n0) es (record { whole = record { notebook = note; legal = record { replies = tt }; joined = tt; behind = tt }; honest = tt; apart = tt })
