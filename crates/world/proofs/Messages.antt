-- Each message of a client that was taken has a fair answer in the history.
use Rattle.std.proofs.Common.{◌≡◌, ℕ, List, [], ◌∷◌, ◌++◌, Some, refl, sym, ap, subst, ◌∙◌, append_assoc}
use Rattle.notebook.specs.declared.parts.Parts.{Parts}
use Rattle.notebook.specs.Rules.{IsNotebook}
use Rattle.session_ops.specs.declared.entry.Op.{Op}
use Rattle.session_ops.specs.declared.entry.Call.TheVariants.{Client as ByClient}
use Rattle.session_ops.specs.declared.entry.Entry.{Entry}
use Rattle.client_sync.specs.Client.{Client, client_of}
use Rattle.world.specs.declared.event.Event.{Event}
use Rattle.world.specs.declared.event.Event.TheVariants.{Take}
use Rattle.world.specs.World.{World, first_world, next_entry, taken, if_held, happens, after_events, run}
use Rattle.world.specs.Waiting.{IsFairAnswer}
use Rattle.world.specs.Messages.{HasFairAnswer, AreAnsweredFairly}
use Rattle.world.proofs.Standing.{BeginsWith, events-go-on, run-opening}
use Rattle.world.proofs.Honest.{run-fair}

-- what two lists of events make, one after the other
after-both : (w : World) (before after : List Event) → after_events w (before ++ after) ≡ after_events (after_events w before) after
after-both w [] after = refl
after-both w (e ∷ before) after = after-both (happens w e) before after

-- a message at an outbox's front is the next entry once it is taken
taken-next : (w : World) (n : ℕ) (c : Client) (op : Op) (ops : List Op) → client_of n w.clients ≡ Some c → c.outbox ≡ op ∷ ops → (happens w (Take n)).history ≡ w.history ++ next_entry w (ByClient c.number op) ∷ []
taken-next w n c op ops held out =
    ap (λ o. (if_held w o (λ d. taken w d d.outbox)).history) held ∙ ap (λ l. (taken w c l).history) out

-- and it stays there, whatever happens then
taken-stays : (w : World) (n : ℕ) (c : Client) (op : Op) (ops : List Op) (after : List Event) → client_of n w.clients ≡ Some c → c.outbox ≡ op ∷ ops → BeginsWith (w.history ++ next_entry w (ByClient c.number op) ∷ []) (after_events w (Take n ∷ after)).history
taken-stays w n c op ops after held out =
    subst (λ h. BeginsWith h (after_events (happens w (Take n)) after).history) (taken-next w n c op ops held out) (events-go-on (happens w (Take n)) after)

taken-fair : (n0 : Parts) (before after : List Event) (n : ℕ) (c : Client) (op : Op) (ops : List Op) → IsNotebook n0 → client_of n (run n0 before).clients ≡ Some c → c.outbox ≡ op ∷ ops → HasFairAnswer n0 c.number op (run n0 before).history (after_events (run n0 before) (Take n ∷ after)).history
taken-fair n0 before after n c op ops note held out =
    let w : World = run n0 before in
    let own : Entry = next_entry w (ByClient c.number op) in
    let stays : BeginsWith (w.history ++ own ∷ []) (after_events w (Take n ∷ after)).history = taken-stays w n c op ops after held out in
    record {
      own = own;
      later = stays.0;
      parts = stays.1 ∙ append_assoc w.history (own ∷ []) stays.0;
      call = refl;
      fair = subst (λ m. IsFairAnswer m w.history op own.reply) (run-opening n0 before) (run-fair n0 before note n c op ops held out);
    }

-- after every list of events each message of a client that was taken has a fair answer in the history
pub run-answers : (n0 : Parts) (es : List Event) → IsNotebook n0 → AreAnsweredFairly n0 es
run-answers n0 es note = λ before after n c op ops parts held out.
    subst (λ h. HasFairAnswer n0 c.number op (run n0 before).history h) (ap (λ w. w.history) (sym (ap (run n0) parts ∙ after-both (first_world n0) before (Take n ∷ after))))
    (taken-fair n0 before after n c op ops note held out)
