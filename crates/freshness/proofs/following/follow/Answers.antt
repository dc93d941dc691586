use Rattle.std.proofs.Common.{◌≡◌, rules, ap, ◌∙◌, filter}
use Rattle.std.proofs.lemmas.Fn.{filter_same}
use Rattle.freshness.specs.Following.{code_numbers, mark_lives, with_marks}
use Rattle.freshness.proofs.following.follow.Goals as goal

pub returns-clause-ok : goal.returns-clause-ok
returns-clause-ok c =
    let kept : c.retain.new.self ≡ filter (mark_lives c.args.book.now) c.add_marks.new.marks = filter_same _ (mark_lives c.args.book.now) _ (λ x b f' k. search rules) _ _ c.retain.ensures in
    let cells : c.deref.result.now ≡ code_numbers c.args.book.now = c.deref.ensures.value ∙ (c.in_ok-cells.ensures ∙ ap code_numbers c.parts.ensures.parts) in
    kept ∙ ap (filter (mark_lives c.args.book.now)) (c.in_default.ensures.ok ∙ ap (λ ks. with_marks ks c.args.marks.now) cells)
