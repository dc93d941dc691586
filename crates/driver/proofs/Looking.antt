-- Lines that look at the history: recv, the rounds of sync, cells and book.
use Rattle.std.proofs.Common.{◌≡◌, ◌≢◌, ℕ, ◌≤◌, ◌+◌, ◌-◌, zero, suc, Bool, true, false, if◌then◌else◌, List, [], ◌∷◌, ◌++◌, length, map, take, drop, Option, Some, refl, sym, ap, subst, ◌∙◌, arith, append_assoc}
use Rattle.std.specs.Prelude.{slice_set}
use Rattle.std.proofs.lemmas.List.{append-nil, length-append}
use Rattle.session_ops.specs.declared.entry.Entry.{Entry}
use Rattle.std.specs.List.{AllByRecursion}
use Rattle.session_ops.specs.State.{state, entries_by}
use Rattle.session_core.specs.Session.{IsSession, history_of}
use Rattle.livemd_format.specs.Tidy.{tidied}
use Rattle.livemd_format.specs.Write.{text_of}
use Rattle.client_sync.specs.Client.{Client as Holder, received, put_client}
use Rattle.client_sync.specs.Stands.{Mirrors}
use Rattle.client_sync.specs.declared.client.Client.{Client}
use Rattle.world.specs.World.{World}
use Rattle.world.specs.Claims.{IsWhole, number_of}
use Rattle.world.specs.Waiting.{IsHonest, AreHonest}
use Rattle.world.proofs.Clients.{put-numbers}
use Rattle.world.proofs.Standing.{put-whole}
use Rattle.world.proofs.Honest.{put-honest, honest-joined}
use Rattle.transcript.specs.Texts.{as_text}
use Rattle.script.specs.declared.line.ScriptLine.TheVariants.{Recv, Sync, Cells, Book}
use Rattle.script.specs.declared.line.Count.{Count}
use Rattle.driver.specs.Lines.{received_words, sync_words}
use Rattle.driver.specs.Turns.{Turn, Looked, turns_from, AreMarks}
use Rattle.driver.specs.Player.{Game, Stage, Marked, or_none, looks, say, say_text, states_at, with_clients, name_of, how_many, unseen, receive_some, receive_all, send_each, round, rounds, all_sent}
use Rattle.driver.specs.Headline.{AllOfRun, AllAnswered, AllFair, TakeReadyLanes, call_of}
use Rattle.world.specs.Sound.{AreApart}
use Rattle.driver.specs.Clients.{AreMirrors, IsAt, HasReceived, IsLawful}
use Rattle.driver.specs.Standing.{Stands, HasDone, HasPlayed, HasRound, HasReceivedSome, world_of, entries_of, turns_of}
use Rattle.driver.specs.declared.player.Player.{Player}
use Rattle.driver.proofs.Marks.{marks-push, turns-looked}
use Rattle.driver.proofs.Still.{own-honest}
use Rattle.driver.proofs.Receiving.{many-honest, received-number, each-honest, each-whole, each-number}

-- the player after a look, with other clients
pub look-stands : (g : Game) (p p' : Player) (s t : Stage) → Stands g p s → p'.session ≡ p.session → p'.marks ≡ p.marks ++ length (entries_of p) ∷ [] → t.turns ≡ [] → t.seen ≡ entries_of p → t.asked ≡ s.asked → t.helped ≡ s.helped → t.sent ≡ s.sent → IsWhole (world_of g.opening (entries_of p) t.clients) → AreHonest (world_of g.opening (entries_of p) t.clients)
    → AreApart (map number_of t.clients) → AreMirrors g.opening p'.clients.items t.clients → Stands g p' t
look-stands g p p' s t st es em used seen asked helped same_sent whole honest apart mir =
    let eh : entries_of p' ≡ entries_of p = ap history_of es in
    record {
      session = subst (IsSession g.opening) (sym es) st.session;
      used = used;
      seen = seen ∙ sym eh;
      marks = subst (λ ms. AreMarks 0 ms (length (entries_of p'))) (sym em) (subst (λ x. AreMarks 0 (p.marks ++ length (entries_of p) ∷ []) (length x)) (sym eh) (marks-push 0 p.marks (length (entries_of p)) (omega arith) st.marks));
      run = subst (AllOfRun 0) (sym eh) st.run;
      answered = subst AllAnswered (sym eh) st.answered;
      ready = subst (TakeReadyLanes g.opening 1 []) (sym eh) st.ready;
      fair = subst (AllFair g.opening) (sym same_sent) st.fair;
      asked = asked ∙ (st.asked ∙ ap (λ x. map call_of (entries_by x 0)) (sym eh));
      helped = helped ∙ (st.helped ∙ ap (λ x. entries_by x 1) (sym eh));
      whole = subst (λ x. IsWhole (world_of g.opening x t.clients)) (sym eh) whole;
      honest = subst (λ x. AreHonest (world_of g.opening x t.clients)) (sym eh) honest;
      apart = apart;
      mirrored = mir;
    }

pub look-turns : (p p' : Player) → p'.session ≡ p.session → p'.marks ≡ p.marks ++ length (entries_of p) ∷ [] → turns_of p' ≡ turns_of p ++ Looked (entries_of p) ∷ []
look-turns p p' es em = ap (λ ms. turns_from [] (entries_of p') ms) em ∙ (ap (λ x. turns_from [] x (p.marks ++ length (entries_of p) ∷ [])) (ap history_of es) ∙ turns-looked (entries_of p) p.marks)

-- the history behind a stage is legal
pub stage-lawful : (g : Game) (p : Player) (s : Stage) → Stands g p s → IsLawful g.opening (entries_of p)
stage-lawful g p s st = record { notebook = st.whole.notebook; legal = st.whole.legal }

-- recv
pub recv-played : (g : Game) (p p' : Player) (s : Stage) (n : ℕ) (count : Count) (at : ℕ) (x' : Client) (name before out : List ℕ) → name ≡ name_of g n → Stands g p s → (is : IsAt g.opening p.clients.items s.clients n at) → p'.session ≡ p.session → p'.marks ≡ p.marks ++ length (entries_of p) ∷ []
    → p'.clients.items ≡ slice_set p.clients.items at x' → HasReceivedSome g count (entries_of p) is.own x' name before out → HasPlayed g (Recv n count) p p' s before out
recv-played g p p' s n count at x' name before out nm st is es em ec rec =
    let h : List Entry = entries_of p in
    let w : World = world_of g.opening h s.clients in
    let c : Holder = receive_some g count h is.own in
    let own : IsHonest g.opening h is.own = own-honest g p s n is.own st is.there in
    let now : IsHonest g.opening h c = many-honest g.opening h is.own (how_many count (length (unseen is.own h))) (stage-lawful g p s st) own in
    let number : c.number ≡ n = received-number g.opening is.own (take (how_many count (length (unseen is.own h))) (unseen is.own h)) ∙ is.number in
    let t : Stage = say (received_words (name_of g n) (length c.seen) ∷ []) (with_clients (put_client c s.clients) (record s { turns = []; seen = h })) in
    record {
      stage = t;
      more = Looked h ∷ [];
      grown = look-turns p p' es em;
      acts = λ rest. rw is.there refl;
      stands =
          look-stands g p p' s t st es em refl refl refl refl refl (put-whole w c st.whole (honest-joined g.opening h c now) (now.later, now.behind)) (put-honest w c st.honest now) (subst AreApart (sym (put-numbers c s.clients)) st.apart)
          (subst (λ xs. AreMirrors g.opening xs (put_client c s.clients)) (sym ec) (is.replaced x' c number rec.mirrors));
      piece = as_text (received_words (name_of g n) (length c.seen) ∷ []);
      printed = rec.printed ∙ ap (λ z. before ++ as_text (received_words z (length c.seen) ∷ [])) nm;
      said = refl;
    }

-- cells
pub cells-played : (g : Game) (p p' : Player) (s : Stage) (before out : List ℕ) → Stands g p s → p'.session ≡ p.session → p'.marks ≡ p.marks ++ length (entries_of p) ∷ [] → p'.clients ≡ p.clients
    → out ≡ before ++ as_text (states_at (state g.opening (entries_of p))) → HasPlayed g Cells p p' s before out
cells-played g p p' s before out st es em ec printed =
    let h : List Entry = entries_of p in
    let t : Stage = say (states_at (state g.opening h)) (record s { turns = []; seen = h }) in
    record {
      stage = t;
      more = Looked h ∷ [];
      grown = look-turns p p' es em;
      acts = λ rest. refl;
      stands = look-stands g p p' s t st es em refl refl refl refl refl st.whole st.honest st.apart (subst (λ v. AreMirrors g.opening v.items s.clients) (sym ec) st.mirrored);
      piece = as_text (states_at (state g.opening h));
      printed = printed;
      said = refl;
    }

-- book
pub book-played : (g : Game) (p p' : Player) (s : Stage) (before out : List ℕ) → Stands g p s → p'.session ≡ p.session → p'.marks ≡ p.marks ++ length (entries_of p) ∷ [] → p'.clients ≡ p.clients
    → out ≡ before ++ text_of (tidied (state g.opening (entries_of p)).book) → HasPlayed g Book p p' s before out
book-played g p p' s before out st es em ec printed =
    let h : List Entry = entries_of p in
    let text : List ℕ = text_of (tidied (state g.opening h).book) in
    let t : Stage = say_text text (record s { turns = []; seen = h }) in
    record {
      stage = t;
      more = Looked h ∷ [];
      grown = look-turns p p' es em;
      acts = λ rest. refl;
      stands = look-stands g p p' s t st es em refl refl refl refl refl st.whole st.honest st.apart (subst (λ v. AreMirrors g.opening v.items s.clients) (sym ec) st.mirrored);
      piece = text;
      printed = printed;
      said = refl;
    }

-- how many entries a client has not received
unseen-count : (n : ℕ) (xs : List Entry) → length xs - n ≡ length (drop n xs)
unseen-count zero xs = omega arith
unseen-count (suc n) [] = omega arith
unseen-count (suc n) (x ∷ xs) = let r : length xs - n ≡ length (drop n xs) = unseen-count n xs in omega (arith, r)

-- some entries were received, and the cursor printed
pub received-some : (g : Game) (count : Count) (h : List Entry) (m : Holder) (x x' : Client) (at left many at' : ℕ) (name before out : List ℕ) → at ≡ length m.seen → left ≡ length h - at → many ≡ how_many count left → HasReceived g.opening h many m x' → ((c : Holder) → Mirrors g.opening x' c → at' ≡ length c.seen)
    → out ≡ before ++ as_text (received_words name at' ∷ []) → HasReceivedSome g count h m x' name before out
received-some g count h m x x' at left many at' name before out ea el em rec cursor printed =
    let some : left ≡ length (unseen m h) = el ∙ (ap (λ k. length h - k) ea ∙ unseen-count (length m.seen) h) in
    let mir : Mirrors g.opening x' (receive_some g count h m) = subst (λ k. Mirrors g.opening x' (received g.opening m (take k (unseen m h)))) (em ∙ ap (how_many count) some) rec in
    record { mirrors = mir; printed = printed ∙ ap (λ k. before ++ as_text (received_words name k ∷ [])) (cursor (receive_some g count h m) mir) }

-- what a round's turns make of the stage
round-acts : (g : Game) (s : Stage) (ns : List ℕ) (t : Stage) (all more rest : List Turn) (h k : List Entry) → ns ≡ map number_of s.clients → k ≡ h → all ++ rest ≡ more ++ Looked h ∷ rest → send_each g ns (record s { turns = more ++ Looked h ∷ rest }) ≡ Some (record t { turns = Looked h ∷ rest })
    → round g (record s { turns = all ++ rest }) ≡ Some (record { seen = k; stage = with_clients (receive_all g h t.clients) (record t { turns = rest; seen = h }) })
round-acts g s ns t all more rest h k en ek split sends =
    ap (λ ts. round g (record s { turns = ts })) split
    ∙ (ap (λ o. or_none o (λ u. or_none (looks u) (λ m. Some (record { seen = m.seen; stage = with_clients (receive_all g m.seen m.stage.clients) m.stage })))) (ap (λ ms. send_each g ms (record s { turns = more ++ Looked h ∷ rest })) (sym en) ∙ sends)
    ∙ ap (λ z. Some (record { seen = z; stage = with_clients (receive_all g h t.clients) (record t { turns = rest; seen = h }) })) (sym ek))

-- a round
pub round-played : (g : Game) (p a c : Player) (s : Stage) (ns : List ℕ) (at : ℕ) (x y : List ℕ) → ns ≡ map number_of s.clients → (d : HasDone g (send_each g ns) p a s x y) → at ≡ length (entries_of a) → c.session ≡ a.session → c.marks ≡ a.marks ++ at ∷ []
    → AreMirrors g.opening c.clients.items (receive_all g (entries_of a) d.stage.clients) → HasRound g p c s at x y
round-played g p a c s ns at x y en d ea es em mir =
    let h : List Entry = entries_of a in
    let eh : entries_of c ≡ h = ap history_of es in
    let marks : c.marks ≡ a.marks ++ length h ∷ [] = em ∙ ap (λ k. a.marks ++ k ∷ []) ea in
    let t : Stage = with_clients (receive_all g h d.stage.clients) (record d.stage { turns = []; seen = h }) in
    record {
      stage = t;
      more = d.more ++ Looked h ∷ [];
      some = λ none. let len : length (d.more ++ Looked h ∷ []) ≡ length d.more + 1 = length-append d.more (Looked h ∷ []) in absurd (omega (arith, none, len));
      grown = look-turns a c es marks ∙ (ap (λ ts. ts ++ Looked h ∷ []) d.grown ∙ append_assoc (turns_of p) d.more (Looked h ∷ []));
      acts = λ rest. round-acts g s ns d.stage (d.more ++ Looked h ∷ []) d.more rest h (entries_of c) en eh (append_assoc d.more (Looked h ∷ []) rest) (d.acts (Looked h ∷ rest));
      at_is = ea ∙ ap length (sym eh);
      stands = look-stands g a c d.stage t d.stands es marks refl refl refl refl refl (each-whole g h d.stage.clients d.stands.whole d.stands.honest) (each-honest g h d.stage.clients (record { notebook = d.stands.whole.notebook; legal = d.stands.whole.legal }) d.stands.honest) (subst AreApart (sym (each-number g h d.stage.clients)) d.stands.apart) mir;
      piece = d.piece;
      printed = d.printed;
      said = d.said;
    }

-- rounds so far, after which more may be needed
pub record IsSyncing (g : Game) (old now : Player) (s : Stage) (x y : List ℕ) : Type 0 where
  pub stage : Stage
  pub more : List Turn
  pub count : ℕ
  pub counted : count ≤ length more
  pub grown : turns_of now ≡ turns_of old ++ more
  pub acts : (rest : List Turn) (n : ℕ) → rounds (n + count) g (record s { turns = more ++ rest }) ≡ rounds n g (record stage { turns = rest })
  pub stands : Stands g now stage
  pub piece : List ℕ
  pub printed : y ≡ x ++ piece
  pub said : stage.said ≡ s.said ++ piece

pub syncing-none : (g : Game) (p : Player) (s : Stage) (x : List ℕ) → Stands g p s → IsSyncing g p p s x x
syncing-none g p s x st =
    record {
      stage = s;
      more = [];
      count = 0;
      counted = omega arith;
      grown = sym (append-nil (turns_of p));
      acts = λ rest n. let same : n + 0 ≡ n = omega arith in ap (λ k. rounds k g (record s { turns = rest })) same;
      stands = st;
      piece = [];
      printed = sym (append-nil x);
      said = sym (append-nil s.said);
    }

-- what comes after a round
abbrev after_round : ℕ → Game → Option Marked → Option Stage
after_round n g o = or_none o (λ r. if all_sent r.stage.clients then Some (say (sync_words (length r.seen) ∷ []) r.stage) else rounds n g r.stage)

some-more : (k a b c : ℕ) → k ≤ a → b ≢ 0 → c ≡ a + b → k + 1 ≤ c
some-more k a zero c le some e = absurd (some refl)
some-more k a (suc b) c le some e = omega (arith, le, e)

longer : (k : ℕ) (xs ys : List Turn) → k ≤ length xs → k ≤ length (xs ++ ys)
longer k xs ys le = let len : length (xs ++ ys) ≡ length xs + length ys = length-append xs ys in omega (arith, le, len)

difference : (a b : ℕ) → a ≤ b → (n : ℕ) × (n + a ≡ b)
difference zero b le = (b, omega arith)
difference (suc a) zero le = absurd (omega (arith, le))
difference (suc a) (suc b) le = let d : (n : ℕ) × (n + a ≡ b) = difference a b (omega (arith, le)) in (d.0, omega (arith, d.1))

pub syncing-next : (g : Game) (a b c : Player) (s : Stage) (at : ℕ) (x y z : List ℕ) → (i : IsSyncing g a b s x y) → (r : HasRound g b c i.stage at y z) → all_sent r.stage.clients ≡ false → IsSyncing g a c s x z
syncing-next g a b c s at x y z i r waits =
    record {
      stage = r.stage;
      more = i.more ++ r.more;
      count = i.count + 1;
      counted = let len : length (i.more ++ r.more) ≡ length i.more + length r.more = length-append i.more r.more in some-more i.count (length i.more) (length r.more) (length (i.more ++ r.more)) i.counted r.some len;
      grown = r.grown ∙ (ap (λ ts. ts ++ r.more) i.grown ∙ append_assoc (turns_of a) i.more r.more);
      acts = λ rest n.
          let fuel : n + (i.count + 1) ≡ suc n + i.count = omega arith in
          ap (λ ts. rounds (n + (i.count + 1)) g (record s { turns = ts })) (append_assoc i.more r.more rest)
          ∙ (ap (λ k. rounds k g (record s { turns = i.more ++ (r.more ++ rest) })) fuel
          ∙ (i.acts (r.more ++ rest) (suc n) ∙ (ap (λ o. after_round n g o) (r.acts rest) ∙ ap (λ b. if b then Some (say (sync_words (length (entries_of c)) ∷ []) (record r.stage { turns = rest })) else rounds n g (record r.stage { turns = rest })) waits)));
      stands = r.stands;
      piece = i.piece ++ r.piece;
      printed = r.printed ∙ (ap (λ w. w ++ r.piece) i.printed ∙ append_assoc x i.piece r.piece);
      said = r.said ∙ (ap (λ w. w ++ r.piece) i.said ∙ append_assoc s.said i.piece r.piece);
    }

pub sync-played : (g : Game) (a b c : Player) (s : Stage) (at : ℕ) (x y z out : List ℕ) → (i : IsSyncing g a b s x y) → (r : HasRound g b c i.stage at y z) → all_sent r.stage.clients ≡ true → out ≡ z ++ as_text (sync_words at ∷ []) → HasPlayed g Sync a c s x out
sync-played g a b c s at x y z out i r sent printed =
    let all : List Turn = i.more ++ r.more in
    let len : length all ≡ length i.more + length r.more = length-append i.more r.more in
    let enough : i.count + 1 ≤ length all = some-more i.count (length i.more) (length r.more) (length all) i.counted r.some len in
    let words : List (List ℕ) = sync_words (length (entries_of c)) ∷ [] in
    let t : Stage = say words (record r.stage { turns = [] }) in
    record {
      stage = t;
      more = all;
      grown = r.grown ∙ (ap (λ ts. ts ++ r.more) i.grown ∙ append_assoc (turns_of a) i.more r.more);
      acts = λ rest.
          let d : (n : ℕ) × (n + (i.count + 1) ≡ length (all ++ rest)) = difference (i.count + 1) (length (all ++ rest)) (longer (i.count + 1) all rest enough) in
          let fuel : d.0 + (i.count + 1) ≡ suc d.0 + i.count = omega arith in
          ap (λ k. rounds k g (record s { turns = all ++ rest })) (sym d.1 ∙ fuel)
          ∙ (ap (λ ts. rounds (suc d.0 + i.count) g (record s { turns = ts })) (append_assoc i.more r.more rest)
          ∙ (i.acts (r.more ++ rest) (suc d.0) ∙ (ap (λ o. after_round d.0 g o) (r.acts rest) ∙ ap (λ b. if b then Some (say words (record r.stage { turns = rest })) else rounds d.0 g (record r.stage { turns = rest })) sent)));
      stands = record { session = r.stands.session; used = refl; seen = r.stands.seen; marks = r.stands.marks; run = r.stands.run; answered = r.stands.answered; ready = r.stands.ready; fair = r.stands.fair; asked = r.stands.asked; helped = r.stands.helped; whole = r.stands.whole; honest = r.stands.honest; apart = r.stands.apart; mirrored = r.stands.mirrored };
      piece = (i.piece ++ r.piece) ++ as_text words;
      printed = printed ∙ (ap (λ k. z ++ as_text (sync_words k ∷ [])) r.at_is ∙ (ap (λ w. w ++ as_text words) (r.printed ∙ (ap (λ w. w ++ r.piece) i.printed ∙ append_assoc x i.piece r.piece)) ∙ append_assoc x (i.piece ++ r.piece) (as_text words)));
      said = ap (λ w. w ++ as_text words) (r.said ∙ (ap (λ w. w ++ r.piece) i.said ∙ append_assoc s.said i.piece r.piece)) ∙ append_assoc s.said (i.piece ++ r.piece) (as_text words);
    }

-- whether all was sent, of the clients in memory and of those that they stand for
pub sent-known : (g : Game) (p : Player) (s : Stage) (xs : List Client) (b : Bool) → Stands g p s → xs ≡ p.clients.items → ((cs : List Holder) → AreMirrors g.opening xs cs → b ≡ all_sent cs) → all_sent s.clients ≡ b
sent-known g p s xs b st e f = sym (f s.clients (subst (λ ys. AreMirrors g.opening ys s.clients) (sym e) st.mirrored))

-- the same, as it is made in memory
pub round-made : (g : Game) (p a b c : Player) (s : Stage) (ns : List ℕ) (at : ℕ) (h : List Entry) (xs ys : List Client) (x y : List ℕ) → ns ≡ map number_of s.clients → (d : HasDone g (send_each g ns) p a s x y) → at ≡ length (entries_of a) → b ≡ record a { marks = a.marks ++ at ∷ [] } → h ≡ history_of b.session → xs ≡ b.clients.items
    → c.session ≡ b.session → c.marks ≡ b.marks → c.clients.items ≡ ys → ((cs : List Holder) → IsLawful g.opening h → AllByRecursion (IsHonest g.opening h) cs → AreMirrors g.opening xs cs → AreMirrors g.opening ys (receive_all g h cs)) → HasRound g p c s at x y
round-made g p a b c s ns at h xs ys x y en d ea eb eh ex es em ec f =
    let same : h ≡ entries_of a = eh ∙ ap (λ q. history_of q.session) eb in
    let clients : xs ≡ a.clients.items = ex ∙ ap (λ q. q.clients.items) eb in
    let cs : List Holder = d.stage.clients in
    let got : AreMirrors g.opening ys (receive_all g h cs) =
    f cs (subst (IsLawful g.opening) (sym same) (record { notebook = d.stands.whole.notebook; legal = d.stands.whole.legal })) (subst (λ k. AllByRecursion (IsHonest g.opening k) cs) (sym same) d.stands.honest) (subst (λ zs. AreMirrors g.opening zs cs) (sym clients) d.stands.mirrored) in
    round-played g p a c s ns at x y en d ea (es ∙ ap (λ q. q.session) eb) (em ∙ ap (λ q. q.marks) eb) (subst (λ zs. AreMirrors g.opening zs (receive_all g (entries_of a) cs)) (sym ec) (subst (λ k. AreMirrors g.opening ys (receive_all g k cs)) same got))
