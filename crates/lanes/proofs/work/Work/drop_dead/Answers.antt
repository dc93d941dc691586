use Rattle.std.proofs.Common.{◌≡◌, rules, ap, ◌∙◌, filter}
use Rattle.std.proofs.lemmas.Fn.{filter_same}
use Rattle.lanes.specs.Changes.{mark_lives, run_lives}
use Rattle.lanes.proofs.work.Work.drop_dead.Goals as goal

pub returns : goal.returns
returns c =
    let marks : c.retain.new.self ≡ filter (mark_lives c.args.book.now) c.args.self.now.marks = filter_same _ (mark_lives c.args.book.now) _ (λ x b f' k. search rules) _ _ c.retain.ensures in
    let rest : c.retain-2.new.self ≡ filter (run_lives c.args.book.now) c.args.self.now.running = filter_same _ (run_lives c.args.book.now) _ (λ x b f' k. search rules) _ _ c.retain-2.ensures in
    ap (λ ms. record c.args.self.now { marks = ms; running = c.retain-2.new.self }) marks
    ∙ ap (λ rs. record c.args.self.now { marks = filter (mark_lives c.args.book.now) c.args.self.now.marks; running = rs }) rest
