use Rattle.std.proofs.Common.{◌≡◌, rules, ap, ◌∙◌, filter, map}
use Rattle.std.proofs.lemmas.Fn.{filter_same}
use Rattle.lanes.specs.Changes.{moved_mark, is_home}
use Rattle.lanes.proofs.work.Work.drop_moved.Goals as goal

pub returns : goal.returns
returns c =
    let marks : c.abort_moved.new.marks ≡ map (moved_mark c.args.book.now c.args.self.now.running) c.args.self.now.marks =
    c.abort_moved.ensures ∙ ap (λ rs. map (moved_mark c.args.book.now rs) c.args.self.now.marks) c.as_slice.ensures in
    let rest : c.retain.new.self ≡ filter (is_home c.args.book.now) c.args.self.now.running = filter_same _ (is_home c.args.book.now) _ (λ x b f' k. search rules) _ _ c.retain.ensures in
    ap (λ ms. record c.args.self.now { marks = ms; running = c.retain.new.self }) marks
    ∙ ap (λ rs. record c.args.self.now { marks = map (moved_mark c.args.book.now c.args.self.now.running) c.args.self.now.marks; running = rs }) rest
