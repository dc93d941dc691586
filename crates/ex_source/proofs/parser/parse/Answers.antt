use Rattle.std.proofs.Common.{◌<◌, ◌-◌, length, arith, subst, sym}
use Rattle.ex_source.specs.Shown.{HasTrees}
use Rattle.ex_source.proofs.Going.{parsed_start, parsed_none, parsed_off, parsed_turn, parsed_end, after_further}
use Rattle.ex_source.proofs.parser.parse.Goals as goal

pub loop-at-init : goal.loop-at-init
loop-at-init c = record {
  free = c.new-2.ensures.items;
  parsed = λ all a. parsed_start _ _ c.args.tokens.now all _ a c.first_at-at.ensures c.new-roots.ensures.items;
}

pub returns-in_default : goal.returns-in_default
returns-in_default c = λ all a.
    let r = rw c.in_default.is at (c.in_ok-end.ensures all a) in
    parsed_none _ _ c.args.tokens.now all _ a (c.loop-at.invariant.parsed all a) c.loop-at-test.true r

pub returns-in_default-after : goal.returns-in_default-after
returns-in_default-after c = λ all a.
    let r = rw c.in-Some.is at (c.in_ok-end.ensures all a) in
    parsed_off _ _ _ _ _ c.args.tokens.now all _ c.in-Some.end c.in-Some.root a (c.loop-at.invariant.parsed all a) c.loop-at-test.true r c.in_default-after.ensures

pub loop-at-smaller : goal.loop-at-smaller
loop-at-smaller c =
    let all = c.requires.0 in
    let a = c.requires.1 in
    let r = rw c.in-Some.is at (c.in_ok-end.ensures all a) in
    let on : c.loop-at.at < c.in-Some-after.next = after_further _ _ _ c.args.tokens.now all _ c.in-Some.end c.in-Some.root _ a c.loop-at-test.true r c.in-Some-after.ensures in
    let lt : c.loop-at.at < length c.args.tokens.now = c.loop-at-test.true in
    let falls : length c.args.tokens.now - c.in-Some-after.next < length c.args.tokens.now - c.loop-at.at = omega (arith, on, lt) in
    falls

pub loop-at-preserved : goal.loop-at-preserved
loop-at-preserved c =
    let first = rw c.in-Some.is at (c.in_ok-end.ensures c.requires.0 c.requires.1) in
    record {
      free = first.free;
      parsed = λ all a.
          let r = rw c.in-Some.is at (c.in_ok-end.ensures all a) in
          parsed_turn _ _ _ _ _ c.args.tokens.now all _ c.in-Some.end c.in-Some.root _ a (c.loop-at.invariant.parsed all a) c.loop-at-test.true r c.in-Some-after.ensures c.in_ok-push.ensures.items;
    }

pub returns : goal.returns
returns c = λ all a.
    let p = c.loop-at.invariant.parsed all a in
    subst (λ v. HasTrees all v) (sym (c.of.ensures p.done p.are)) (parsed_end _ _ c.args.tokens.now all _ a p c.loop-at-test.false)
