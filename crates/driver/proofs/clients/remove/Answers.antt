use Rattle.std.proofs.Common.{refl, sym, ap, subst, ◌∙◌, map, None}
use Rattle.client_sync.specs.Client.{without_client}
use Rattle.client_sync.specs.Stands.{number_in}
use Rattle.driver.specs.Clients.{AreMirrors, IsAt, IsPlace, place_in}
use Rattle.driver.proofs.Placing.{placed, within, mirrored-without}
use Rattle.driver.proofs.clients.remove.Goals as goal

pub remove-requires : goal.remove-requires
remove-requires c = within c.args.number c.deref.result.now _ _ c.in-Some.at c.place_of.result c.place_of.ensures.first c.in-Some.is refl c.deref.ensures.len

pub returns-in-None : goal.returns-in-None
returns-in-None c = λ n0 cs m a.
    let none : IsPlace n0 c.args.clients.now.items cs c.args.number None = subst (IsPlace n0 c.args.clients.now.items cs c.args.number) c.in-None.is (placed n0 c.args.clients.now.items cs c.args.number c.place_of.result m a (c.place_of.ensures.first ∙ ap (λ xs. place_in c.args.number (map number_in xs)) c.deref.ensures.value)) in
    mirrored-without n0 c.args.clients.now.items cs c.args.number m none

pub returns-in-Some : goal.returns-in-Some
returns-in-Some c = λ n0 cs m a.
    let is : IsAt n0 c.args.clients.now.items cs c.args.number c.in-Some.at = subst (IsPlace n0 c.args.clients.now.items cs c.args.number) c.in-Some.is (placed n0 c.args.clients.now.items cs c.args.number c.place_of.result m a (c.place_of.ensures.first ∙ ap (λ xs. place_in c.args.number (map number_in xs)) c.deref.ensures.value)) in
    subst (λ xs. AreMirrors n0 xs (without_client c.args.number cs)) (sym c.remove.ensures.items) is.removed
