-- How the messages that clients sent were answered.
use Rattle.std.specs.Prelude.{◌≡◌, ℕ, List, ◌∷◌, ◌++◌, Some}
use Rattle.notebook.specs.declared.parts.Parts.{Parts}
use Rattle.session_ops.specs.declared.entry.Op.{Op}
use Rattle.session_ops.specs.declared.entry.Call.TheVariants.{Client as ByClient}
use Rattle.session_ops.specs.declared.entry.Entry.{Entry}
use Rattle.client_sync.specs.Client.{Client, client_of}
use Rattle.world.specs.declared.event.Event.{Event}
use Rattle.world.specs.declared.event.Event.TheVariants.{Take}
use Rattle.world.specs.World.{run}
use Rattle.world.specs.Waiting.{IsFairAnswer}

-- behind the entries that a number's message found, the history has the message, with a fair answer
pub record HasFairAnswer (n0 : Parts) (number : ℕ) (op : Op) (found history : List Entry) : Type 0 where
  pub own : Entry
  pub later : List Entry
  pub parts : history ≡ found ++ own ∷ later
  pub call : own.call ≡ ByClient number op
  pub fair : IsFairAnswer n0 found op own.reply

-- whenever the message at the front of a client's outbox was taken, it has a fair answer in the history
abbrev pub AreAnsweredFairly : Parts → List Event → Type 0
AreAnsweredFairly n0 es =
    (before after : List Event) (n : ℕ) (c : Client) (op : Op) (ops : List Op) → es ≡ before ++ Take n ∷ after
    → client_of n (run n0 before).clients ≡ Some c → c.outbox ≡ op ∷ ops
    → HasFairAnswer n0 c.number op (run n0 before).history (run n0 es).history
