use Rattle.std.proofs.Common.{◌<◌, ◌∙◌, arith, length}
use Rattle.std.specs.String.{string_bytes}
use Rattle.ex_lexer.specs.Runs.{Said}
use Rattle.ex_lexer.proofs.Bytes.{is_none}
use Rattle.ex_lexer.proofs.TextRuns.{run_start, run_turn, run_stops, run_ends}
use Rattle.ex_lexer.proofs.texts.read_run.Goals as goal

pub loop-rest-init : goal.loop-rest-init
loop-rest-init c = record { text = c.utf8.text; within = omega arith; goes = run_start c.args.text.now _ c.new-said.ensures.bytes }

pub overflow_sub-run : goal.overflow_sub-run
overflow_sub-run c = c.loop-rest.invariant.within

pub returns-in-Stops : goal.returns-in-Stops
returns-in-Stops c =
    let h = rw c.in-Stops.is at c.in_ok-len.ensures in
    let e = run_stops c.args.text.now c.loop-rest.rest.now (string_bytes c.loop-rest.said) c.in-Stops.stop c.loop-rest.invariant.goes h.1 in
    (c.in_ok-of-in-Stops.ensures ∙ (c.as_str.ensures.value ∙ (h.0 ∙ e.says)), e.takes, e.at)

pub range_from-rest-requires : goal.range_from-rest-requires
range_from-rest-requires c = let h : Said (string_bytes c.loop-rest.said) (string_bytes c.say.new.said) c.loop-rest.rest.now c.in-Goes.len = rw c.in-Goes.is at c.in_ok-len.ensures in λ _. h.boundary

pub loop-rest-smaller : goal.loop-rest-smaller
loop-rest-smaller c =
    let h : Said (string_bytes c.loop-rest.said) (string_bytes c.say.new.said) c.loop-rest.rest.now c.in-Goes.len = rw c.in-Goes.is at c.in_ok-len.ensures in
    let lt : length c.range_from-rest.result.now < length c.loop-rest.rest.now = omega (arith, c.range_from-rest.ensures.len, h.some, h.within) in
    lt

pub loop-rest-preserved : goal.loop-rest-preserved
loop-rest-preserved c =
    let h : Said (string_bytes c.loop-rest.said) (string_bytes c.say.new.said) c.loop-rest.rest.now c.in-Goes.len = rw c.in-Goes.is at c.in_ok-len.ensures in
    let i = c.loop-rest.invariant in
    record {
      text = c.range_from-rest.utf8;
      within = omega (arith, c.range_from-rest.ensures.len, h.within, i.within);
      goes = run_turn c.args.text.now c.loop-rest.rest.now c.range_from-rest.result.now (string_bytes c.loop-rest.said) (string_bytes c.say.new.said) c.in-Goes.len i.within i.goes h c.range_from-rest.ensures.value;
    }

pub returns : goal.returns
returns c =
    let e = run_ends c.args.text.now c.loop-rest.rest.now (string_bytes c.loop-rest.said) (is_none c.loop-rest.rest.now c.loop-rest-test.ensures) c.loop-rest.invariant.goes in
    (c.in_ok-of.ensures ∙ (c.as_str-2.ensures.value ∙ e.says), e.takes, e.at)
