use Rattle.std.proofs.Common.{◌≡◌, ◌<◌, slice_set, get_or, ◌++◌, ◌∷◌, [], refl, sym, ap, subst, ◌∙◌, codes, string_bytes, None, Some}
use Rattle.std.specs.Vec.{vec_len}
use Rattle.driver.specs.Clients.{IsLawful}
use Rattle.session_core.specs.Session.{history_of}
use Rattle.world.specs.Waiting.{IsHonest}
use Rattle.driver.specs.Standing.{HasReceivedSome}
use Rattle.transcript.specs.Texts.{as_text}
use Rattle.driver.specs.Lines.{no_client_words}
use Rattle.driver.specs.Clients.{IsAt}
use Rattle.driver.proofs.Placing.{within}
use Rattle.driver.proofs.Still.{stands-placed, recv-nobody}
use Rattle.driver.proofs.Still.{own-honest}
use Rattle.driver.proofs.Looking.{recv-played, stage-lawful}
use Rattle.driver.proofs.player.Player.recv.Goals as goal

pub index_mut-requires : goal.index_mut-requires
index_mut-requires c = subst (λ p. c.in-Some.at < vec_len p.clients) (sym c.in_ok-look-in-Some.ensures.1) (within c.args.client c.deref.result.now _ _ c.in-Some.at c.place_of.result c.place_of.ensures.first c.in-Some.is refl c.deref.ensures.len)

pub returns-in_ok-push_no_client-in-None : goal.returns-in_ok-push_no_client-in-None
returns-in_ok-push_no_client-in-None c = λ g s nm st.
    recv-nobody g c.args.self.now _ s c.args.client c.args.count _ _ st (stands-placed g c.args.self.now s c.args.client c.place_of.result None c.deref.result.now st c.place_of.ensures.first c.deref.ensures.value c.in-None.is) refl
    (c.in_ok-push_no_client-in-None.ensures ∙ ap (λ x. string_bytes c.args.out.now ++ as_text (no_client_words x (codes "recv") ∷ [])) nm)

pub returns-in_ok-receive_own-in-Some : goal.returns-in_ok-receive_own-in-Some
returns-in_ok-receive_own-in-Some c = λ g s nm st.
    let is : IsAt g.opening c.args.self.now.clients.items s.clients c.args.client c.in-Some.at = stands-placed g c.args.self.now s c.args.client c.place_of.result (Some c.in-Some.at) c.deref.result.now st c.place_of.ensures.first c.deref.ensures.value c.in-Some.is in
    let look = c.in_ok-look-in-Some.ensures in
    let eh = c.history-history.ensures.entries ∙ ap (λ p. history_of p.session) look.1 in
    recv-played g c.args.self.now _ s c.args.client c.args.count c.in-Some.at c.receive_own.new.own c.args.name.now _ _ nm st is (ap (λ p. p.session) look.1) (ap (λ p. p.marks) look.1 ∙ ap (λ k. c.args.self.now.marks ++ k ∷ []) look.0)
    (ap (λ p. slice_set p.clients.items c.in-Some.at c.receive_own.new.own) look.1)
    (
    subst (λ h. HasReceivedSome g c.args.count h is.own c.receive_own.new.own c.args.name.now (string_bytes c.args.out.now) (string_bytes c.receive_own.new.out)) eh
    (c.in_ok-receive_own-in-Some.ensures g is.own (subst (IsLawful g.opening) (sym eh) (stage-lawful g c.args.self.now s st)) (subst (λ h. IsHonest g.opening h is.own) (sym eh) (own-honest g c.args.self.now s c.args.client is.own st is.there))
    (is.mirrors c.index_mut.result.now (subst (λ p. c.index_mut.result.now ≡ get_or p.clients.items c.in-Some.at c.index_mut.result.now) look.1 c.index_mut.ensures.value)))
    )
