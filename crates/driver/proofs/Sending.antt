-- Messages of one client, and of all, one after the other.
use Rattle.std.proofs.Common.{◌≡◌, ℕ, ◌<◌, ◌≤◌, ◌+◌, ◌==◌, zero, suc, false, if◌then◌else◌, List, [], ◌∷◌, length, drop, get_or, Some, refl, ap, subst, arith}
use Rattle.std.proofs.lemmas.List.{drop_more, drop_all}
use Rattle.client_sync.specs.Client.{Client as Holder, client_of}
use Rattle.script.specs.declared.line.ScriptLine.TheVariants.{Send}
use Rattle.script.specs.declared.line.Count.{Count}
use Rattle.driver.specs.Lines.{nothing_words}
use Rattle.driver.specs.Player.{Game, Stage, say, name_of, how_many, play_line, send_next, send_many, send_all, send_each, send_or_nothing}
use Rattle.driver.specs.Standing.{Stands, Leads, HasDone, HasPlayed}
use Rattle.driver.specs.declared.player.Player.{Player}
use Rattle.driver.proofs.Leading.{lead-none, lead-on, lead-as, lead-end}

-- so many messages were sent, and so many are left to be sent
pub record IsSending (g : Game) (n many done : ℕ) (old now : Player) (s : Stage) (x y : List ℕ) : Type 0 where
  pub left : ℕ
  pub count : left + done ≡ many
  pub leads : Leads g (send_many many g n) (send_many left g n) old now s x y

pub sending-none : (g : Game) (n many : ℕ) (p : Player) (s : Stage) (x : List ℕ) → Stands g p s → IsSending g n many 0 p p s x x
sending-none g n many p s x st = record { left = many; count = omega arith; leads = lead-none g (send_many many g n) p s x st }

sending-next-of : (g : Game) (n many done left : ℕ) (a b c : Player) (s : Stage) (x y z : List ℕ) → left + done ≡ many → done < many → (l : Leads g (send_many many g n) (send_many left g n) a b s x y) → HasDone g (send_next g n) b c l.stage y z → IsSending g n many (done + 1) a c s x z
sending-next-of g n many done zero a b c s x y z count lt l d = absurd (omega (arith, count, lt))
sending-next-of g n many done (suc left) a b c s x y z count lt l d =
    record { left = left; count = omega (arith, count); leads = lead-on g (send_many many g n) (send_many (suc left) g n) (send_next g n) (send_many left g n) a b c s x y z l d (λ t. refl) }

pub sending-next : (g : Game) (n many done : ℕ) (a b c : Player) (s : Stage) (x y z : List ℕ) → done < many → (i : IsSending g n many done a b s x y) → HasDone g (send_next g n) b c i.leads.stage y z → IsSending g n many (done + 1) a c s x z
sending-next g n many done a b c s x y z lt i d = sending-next-of g n many done i.left a b c s x y z i.count lt i.leads d

pub sending-end : (g : Game) (n many done : ℕ) (a b : Player) (s : Stage) (x y : List ℕ) → done ≡ many → IsSending g n many done a b s x y → HasDone g (send_many many g n) a b s x y
sending-end g n many done a b s x y e i =
    let none : i.left ≡ 0 = omega (arith, i.count, e) in
    let l : Leads g (send_many many g n) (send_many 0 g n) a b s x y = subst (λ k. Leads g (send_many many g n) (send_many k g n) a b s x y) none i.leads in
    lead-end g (send_many many g n) (send_many 0 g n) a b s x y l (λ t. refl)

-- some messages, as there are some
pub some-to-send : (g : Game) (n many : ℕ) (a b : Player) (s : Stage) (x y : List ℕ) → (many == 0) ≡ false → HasDone g (send_many many g n) a b s x y → HasDone g (send_or_nothing g n many) a b s x y
some-to-send g n many a b s x y e d = lead-as g (send_many many g n) (send_or_nothing g n many) Some a b s x y d (λ ts. ap (λ b. if b then Some (say (nothing_words (name_of g n) ∷ []) (record s { turns = ts })) else send_many many g n (record s { turns = ts })) e)

-- the line of a client that is there
pub send-played : (g : Game) (n many : ℕ) (count : Count) (c : Holder) (a b : Player) (s : Stage) (x y : List ℕ) → client_of n s.clients ≡ Some c → many ≡ how_many count (length c.outbox) → HasDone g (send_or_nothing g n many) a b s x y → HasPlayed g (Send n count) a b s x y
send-played g n many count c a b s x y there e d = lead-as g (send_or_nothing g n many) (play_line g (Send n count)) Some a b s x y d (λ ts. rw (there, e) refl)

pub all-sent-of : (g : Game) (n many : ℕ) (c : Holder) (a b : Player) (s : Stage) (x y : List ℕ) → client_of n s.clients ≡ Some c → many ≡ length c.outbox → HasDone g (send_many many g n) a b s x y → HasDone g (send_all g n) a b s x y
all-sent-of g n many c a b s x y there e d = lead-as g (send_many many g n) (send_all g n) Some a b s x y d (λ ts. rw (there, e) refl)

-- one more client
pub each-next : (g : Game) (ns : List ℕ) (i : ℕ) (a b c : Player) (s : Stage) (x y z : List ℕ) → i < length ns → (l : Leads g (send_each g ns) (send_each g (drop i ns)) a b s x y) → HasDone g (send_all g (get_or ns i 0)) b c l.stage y z → Leads g (send_each g ns) (send_each g (drop (i + 1) ns)) a c s x z
each-next g ns i a b c s x y z lt l d =
    let front : drop i ns ≡ get_or ns i 0 ∷ drop (i + 1) ns = drop_more ns i 0 lt in
    lead-on g (send_each g ns) (send_each g (drop i ns)) (send_all g (get_or ns i 0)) (send_each g (drop (i + 1) ns)) a b c s x y z l d (λ t. ap (λ ks. send_each g ks t) front)

pub each-end : (g : Game) (ns : List ℕ) (i : ℕ) (a b : Player) (s : Stage) (x y : List ℕ) → length ns ≤ i → Leads g (send_each g ns) (send_each g (drop i ns)) a b s x y → HasDone g (send_each g ns) a b s x y
each-end g ns i a b s x y e l = lead-end g (send_each g ns) (send_each g (drop i ns)) a b s x y l (λ t. ap (λ ks. send_each g ks t) (drop_all i ns e))
