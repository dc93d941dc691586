use Rattle.std.proofs.Common.{◌≡◌, rules, ap, ◌∙◌, filter, refl}
use Rattle.std.proofs.lemmas.Fn.{filter_same}
use Rattle.lanes.specs.Changes.{is_eval, is_other_eval}
use Rattle.lanes.specs.Places.{IsFirst}
use Rattle.lanes.proofs.Marks.{eval-known, eval-stored}
use Rattle.lanes.proofs.work.Work.store.Goals as goal

pub returns-clause-ran : goal.returns-clause-ran
returns-clause-ran c = eval-known c.args.self.now c.args.eval _ (rw c.as_slice.ensures at c.in-Some.ensures)

pub returns-clause-work : goal.returns-clause-work
returns-clause-work c =
    let t : IsFirst (is_eval c.args.eval) c.args.self.now.running c.in-Some.at = rw c.as_slice.ensures at c.in-Some.ensures in
    let rest : c.retain.new.self ≡ filter (is_other_eval c.args.eval) c.remove-cell.new.self = filter_same _ (is_other_eval c.args.eval) _ (λ x b f' k. search rules) _ _ c.retain.ensures in
    eval-stored c.args.self.now _ c.args.eval c.in-Some.at c.args.shown c.remove-cell.result t c.remove-cell.ensures.value
    (rest ∙ ap (filter (is_other_eval c.args.eval)) c.remove-cell.ensures.rest) c.keep.ensures refl
