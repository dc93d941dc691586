use Rattle.std.proofs.Common.{◌++◌, ◌∷◌, [], refl, ap, ◌∙◌, codes, string_bytes, None, Some}
use Rattle.transcript.specs.Texts.{as_text}
use Rattle.driver.specs.Lines.{no_client_words}
use Rattle.driver.specs.Clients.{IsAt}
use Rattle.driver.proofs.Placing.{within}
use Rattle.driver.proofs.Still.{stands-placed, report-nobody, report-played}
use Rattle.driver.proofs.player.Player.post_report.Goals as goal

pub index_mut-requires : goal.index_mut-requires
index_mut-requires c = within c.args.client c.deref.result.now _ _ c.in-Some.at c.place_of.result c.place_of.ensures.first c.in-Some.is refl c.deref.ensures.len

pub returns-in_ok-push_no_client-in-None : goal.returns-in_ok-push_no_client-in-None
returns-in_ok-push_no_client-in-None c = λ g s nm st.
    report-nobody g c.args.self.now _ s c.args.client c.args.cell _ _ st (stands-placed g c.args.self.now s c.args.client c.place_of.result None c.deref.result.now st c.place_of.ensures.first c.deref.ensures.value c.in-None.is) refl
    (c.in_ok-push_no_client-in-None.ensures ∙ ap (λ x. string_bytes c.args.out.now ++ as_text (no_client_words x (codes "post") ∷ [])) nm)

pub returns-in_ok-report_own-in-Some : goal.returns-in_ok-report_own-in-Some
returns-in_ok-report_own-in-Some c = λ g s nm st.
    let is : IsAt g.opening c.args.self.now.clients.items s.clients c.args.client c.in-Some.at = stands-placed g c.args.self.now s c.args.client c.place_of.result (Some c.in-Some.at) c.deref.result.now st c.place_of.ensures.first c.deref.ensures.value c.in-Some.is in
    report-played g c.args.self.now _ s c.args.client c.args.cell c.in-Some.at c.report_own.new.own c.args.name.now _ _ nm st is refl refl refl
    (c.in_ok-report_own-in-Some.ensures g.opening is.own (is.mirrors c.index_mut.result.now c.index_mut.ensures.value))
