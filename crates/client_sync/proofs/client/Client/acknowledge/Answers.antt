use Rattle.std.proofs.Common.{◌≡◌, ◌≢◌, [], ◌∷◌, ◌++◌, sym, ap, ◌∙◌}
use Rattle.delta.specs.Moves.{text_after}
use Rattle.client_sync.specs.Stands.{edit_message}
use Rattle.client_sync.proofs.Editing.{has-steps, no-steps}
use Rattle.client_sync.proofs.Returning.{gone-has, back-has, kept-rest, posted-rest}
use Rattle.client_sync.proofs.Texts.{StandsThere, stands-there, texts-gone, texts-back, fits-there}
use Rattle.client_sync.proofs.client.Client.acknowledge.Goals as goal

pub returns-then-is_empty-clause-posted : goal.returns-then-is_empty-clause-posted
returns-then-is_empty-clause-posted c = λ m h p.
    let out = c.take_out-done.ensures.taken p.front p.back p.here p.parts p.place in
    let none : p.here.buffer ≡ [] = ap (λ u. u.buffer) (sym out.0) ∙ no-steps c.take_out-done.result.buffer c.if-is_empty.ensures in
    gone-has c.args.self.now.pending _ c.args.self.now.outbox _ m c.args.cell c.args.at c.args.rev h p none out.1 (ap (λ x. x.outbox) c.take_out-done.ensures.rest)

pub returns-then-is_empty-clause-texts : goal.returns-then-is_empty-clause-texts
returns-then-is_empty-clause-texts c = λ n m p h e f.
    let out = c.take_out-done.ensures.taken p.front p.back p.here p.parts p.place in
    texts-gone n c.args.self.now.pending _ c.args.cell c.args.at p.here.flight p (stands-there n c.args.self.now.pending c.args.self.now.outbox m c.args.cell c.args.at p h e) out.1

pub returns-then-is_empty-clause-rest : goal.returns-then-is_empty-clause-rest
returns-then-is_empty-clause-rest c = kept-rest c.args.self.now c.take_out-done.new.self c.take_out-done.ensures.rest

pub returns-clause-posted : goal.returns-clause-posted
returns-clause-posted c = λ m h p.
    let out = c.take_out-done.ensures.taken p.front p.back p.here p.parts p.place in
    let some : c.take_out-done.result.buffer ≢ [] = has-steps c.take_out-done.result.buffer c.if-is_empty.ensures in
    let e = c.in_ok-post_edit.ensures.posted in
    back-has c.args.self.now.pending c.take_out-done.new.self.pending _ c.args.self.now.outbox _ m c.args.cell c.args.at c.args.rev c.move_text.new.text c.take_out-done.result.buffer h p (ap (λ u. u.buffer) out.0) some out.1 (ap (λ x. x.pending) e)
    (ap (λ x. x.outbox) e ∙ ap (λ os. os ++ edit_message c.args.cell c.args.rev c.take_out-done.result.buffer ∷ []) (ap (λ x. x.outbox) c.take_out-done.ensures.rest))

pub returns-clause-texts : goal.returns-clause-texts
returns-clause-texts c = λ n m p h e f.
    let out = c.take_out-done.ensures.taken p.front p.back p.here p.parts p.place in
    let s : StandsThere n c.args.self.now.pending c.args.cell c.args.at p = stands-there n c.args.self.now.pending c.args.self.now.outbox m c.args.cell c.args.at p h e in
    let t : c.move_text.new.text ≡ text_after p.here.flight p.here.server = c.in_ok-move_text.ensures (fits-there n c.args.self.now.pending c.args.cell c.args.at p c.take_out-done.result s f out.0) ∙ ap (λ u. text_after u.flight u.server) out.0 in
    texts-back n c.args.self.now.pending c.take_out-done.new.self.pending _ c.args.cell c.args.at p.here.flight c.take_out-done.result.buffer c.move_text.new.text p s f out.1 t (ap (λ x. x.pending) c.in_ok-post_edit.ensures.posted)

pub returns-clause-rest : goal.returns-clause-rest
returns-clause-rest c = posted-rest c.args.self.now c.take_out-done.new.self c.post_edit.new.self _ _ c.take_out-done.ensures.rest c.in_ok-post_edit.ensures.posted
