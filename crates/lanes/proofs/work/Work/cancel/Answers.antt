use Rattle.std.proofs.Common.{◌≡◌, rules, ap, ◌∙◌, filter}
use Rattle.std.proofs.lemmas.Fn.{filter_same}
use Rattle.lanes.specs.Changes.{remarked, as_cancelled, runs_other}
use Rattle.lanes.proofs.work.Work.cancel.Goals as goal

pub returns : goal.returns
returns c =
    let rest : c.retain.new.self ≡ filter (runs_other c.args.cell) c.args.self.now.running = filter_same _ (runs_other c.args.cell) _ (λ x b f' k. search rules) _ _ c.retain.ensures in
    ap (λ ms. record c.args.self.now { marks = ms; running = c.retain.new.self }) c.break_off.ensures
    ∙ ap (λ rs. record c.args.self.now { marks = remarked c.args.cell as_cancelled c.args.self.now.marks; running = rs }) rest
