use Rattle.std.proofs.Common.{◌+◌, true, false, ◌∷◌, [], ◌++◌, drop, sym, ap, ◌∙◌}
use Rattle.ex_prims.specs.Lists.{has}
use Rattle.ex_prims.proofs.Firsts.{with-new, old-step, new-step, set-more, set-old, set-none, none-seen, all-seen, told}
use Rattle.ex_prims.proofs.comparing.without_repeats.Goals as goal
use Rattle.ex_prims.proofs.comparing.without_repeats.Goals.{then-branch+in_ok-copy-2+in_ok-push, else-branch}

pub loop-item-init : goal.loop-item-init
loop-item-init c = record {
  rest = none-seen c.new-firsts.result.items c.args.items.now c.new-firsts.ensures.items;
  same = set-none c.new-seen.result c.new-firsts.result.items c.new-seen.ensures.empty c.new-firsts.ensures.items;
}

-- a value that the set didn't have is one more, and any other changes nothing
pub loop-item-preserved : goal.loop-item-preserved
loop-item-preserved c =
    let old = c.loop-item.seen in
    let next = c.insert.new.self in
    let seen = c.loop-item.firsts.items in
    let xs = c.args.items.now in
    let i = c.loop-item.item-index in
    let x = c.item-item.result in
    let key = c.in_ok-copy.field-0 in
    let added = c.in_ok-insert.field-0 in
    elim c.if-branch.branch [
      | then-branch+in_ok-copy-2+in_ok-push w ↦ (
          let is-new = told old seen key x added true c.loop-item.invariant.same c.in_ok-copy.ensures c.in_ok-insert.ensures.added w.if-branch.true in
          let e = ap (λ v. v.items) w.firsts-is ∙ (w.in_ok-push.ensures.items ∙ ap (λ v. seen ++ v ∷ []) w.in_ok-copy-2.ensures) in
          record {
            rest = ap (λ ws. with-new ws (drop (i + 1) xs)) e ∙ (new-step xs seen i x c.loop-item-test.true c.item-item.is is-new ∙ c.loop-item.invariant.rest);
            same = λ v. set-more old next seen key x c.in_ok-copy.ensures c.loop-item.invariant.same c.in_ok-insert.ensures.updates v ∙ sym (ap (λ ws. has ws v) e);
          }
          )
      | else-branch w ↦ (
          let is-old = told old seen key x added false c.loop-item.invariant.same c.in_ok-copy.ensures c.in_ok-insert.ensures.added w.if-branch.false in
          let e = ap (λ v. v.items) w.firsts-is in
          record {
            rest = ap (λ ws. with-new ws (drop (i + 1) xs)) e ∙ (old-step xs seen i x c.loop-item-test.true c.item-item.is is-old ∙ c.loop-item.invariant.rest);
            same = λ v. set-old old next seen key x c.in_ok-copy.ensures is-old c.loop-item.invariant.same c.in_ok-insert.ensures.updates v ∙ sym (ap (λ ws. has ws v) e);
          }
          )
    ]

pub returns : goal.returns
returns c = sym (all-seen c.loop-item.firsts.items c.args.items.now c.loop-item.item-index c.loop-item-test.false) ∙ c.loop-item.invariant.rest
