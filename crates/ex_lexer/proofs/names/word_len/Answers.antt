use Rattle.std.proofs.Common.{◌∙◌, arith, sym, subst}
use Rattle.std.specs.Str.{IsCharBoundary}
use Rattle.ex_lexer.proofs.NameRuns.{chars_turn, chars_end, word_len_early, word_len_whole, encodes-push, bytes_fit, all_more, word_boundary}
use Rattle.ex_lexer.proofs.names.word_len.Goals as goal

pub returns-then-not-is_xid_continue-clause-value : goal.returns-then-not-is_xid_continue-clause-value
returns-then-not-is_xid_continue-clause-value c =
    let turn = chars_turn _ c.args.text.now c.utf8.text (cc) c.loop-c.yielded _ c.loop-c.yielded_by _ _ c.in-Some.c c.in-Some.is c.next.ensures.steps in
    let i = c.loop-c.invariant in
    word_len_early c.args.text.now c.loop-c.yielded turn.back c.in-Some.c c.loop-c.len turn.parts i.passes i.takes (sym c.is_xid_continue.ensures.value ∙ c.if-not-is_xid_continue.true)

pub overflow_add-len : goal.overflow_add-len
overflow_add-len c =
    let turn = chars_turn _ c.args.text.now c.utf8.text (cc) c.loop-c.yielded _ c.loop-c.yielded_by _ _ c.in-Some.c c.in-Some.is c.next.ensures.steps in
    omega (arith, bytes_fit c.args.text.now c.loop-c.yielded c.in-Some.c turn.back c.utf8.text turn.parts, c.loop-c.invariant.takes, c.len_utf8-len.ensures.len)

pub loop-c-preserved : goal.loop-c-preserved
loop-c-preserved c = record {
  takes = omega (arith, encodes-push c.loop-c.yielded c.in-Some.c, c.loop-c.invariant.takes, c.len_utf8-len.ensures.len);
  passes = all_more c.loop-c.yielded c.in-Some.c c.loop-c.invariant.passes (sym c.is_xid_continue.ensures.value ∙ c.if-not-is_xid_continue.false);
}

pub returns-clause-value : goal.returns-clause-value
returns-clause-value c =
    let e = chars_end _ c.args.text.now c.utf8.text (cc) c.loop-c.yielded _ c.loop-c.yielded_by _ _ c.in-None.is c.next.ensures.steps in
    word_len_whole c.args.text.now c.loop-c.yielded c.loop-c.len e c.loop-c.invariant.passes c.loop-c.invariant.takes

pub returns-then-not-is_xid_continue-clause-boundary : goal.returns-then-not-is_xid_continue-clause-boundary
returns-then-not-is_xid_continue-clause-boundary c =
    let turn = chars_turn _ c.args.text.now c.utf8.text (cc) c.loop-c.yielded _ c.loop-c.yielded_by _ _ c.in-Some.c c.in-Some.is c.next.ensures.steps in
    let i = c.loop-c.invariant in
    let e = word_len_early c.args.text.now c.loop-c.yielded turn.back c.in-Some.c c.loop-c.len turn.parts i.passes i.takes (sym c.is_xid_continue.ensures.value ∙ c.if-not-is_xid_continue.true) in
    subst (IsCharBoundary c.args.text.now) (sym e) (word_boundary c.args.text.now c.utf8.text)

pub returns-clause-boundary : goal.returns-clause-boundary
returns-clause-boundary c =
    let e = chars_end _ c.args.text.now c.utf8.text (cc) c.loop-c.yielded _ c.loop-c.yielded_by _ _ c.in-None.is c.next.ensures.steps in
    let f = word_len_whole c.args.text.now c.loop-c.yielded c.loop-c.len e c.loop-c.invariant.passes c.loop-c.invariant.takes in
    subst (IsCharBoundary c.args.text.now) (sym f) (word_boundary c.args.text.now c.utf8.text)
