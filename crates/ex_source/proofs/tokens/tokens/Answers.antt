use Rattle.std.proofs.Common.{◌<◌, length, sym, subst, false, arith}
use Rattle.ex_model.specs.Newlines.{Nothing}
use Rattle.ex_source.specs.Settled.{gap_of}
use Rattle.ex_source.proofs.Pieces.{front_sound}
use Rattle.ex_source.proofs.Settling.{Lexed, lexed_start, lexed_turn, lexed_none, lexed_out, front_boundary, is_some, is_none}
use Rattle.ex_source.proofs.tokens.tokens.Goals as goal

pub loop-rest-init : goal.loop-rest-init
loop-rest-init c = record { text = c.utf8.source; lexed = subst (λ xs. Lexed c.args.source.now c.args.source.now xs false Nothing) (sym c.new.ensures.items) (lexed_start c.args.source.now) }

pub returns-in_default : goal.returns-in_default
returns-in_default c =
    let none = rw c.in_default.is at c.in_ok-part.ensures in
    lexed_none c.args.source.now c.loop-rest.rest.now c.loop-rest.settled.tokens.items c.loop-rest.settled.drops (gap_of c.loop-rest.settled.gap) c.loop-rest.invariant.lexed (is_some c.loop-rest.rest.now c.loop-rest-test.ensures) none

pub range_from-rest-requires : goal.range_from-rest-requires
range_from-rest-requires c =
    let f = rw c.in-Some.is at c.in_ok-part.ensures in
    λ _. front_boundary c.loop-rest.rest.now f.0 c.in-Some.len f.2 c.loop-rest.invariant.text

pub loop-rest-smaller : goal.loop-rest-smaller
loop-rest-smaller c =
    let f = rw c.in-Some.is at c.in_ok-part.ensures in
    let s = front_sound c.loop-rest.rest.now f.0 c.in-Some.len f.2 in
    let lt : length c.range_from-rest.result.now < length c.loop-rest.rest.now = omega (arith, c.range_from-rest.ensures.len, s.some) in
    lt

pub loop-rest-preserved : goal.loop-rest-preserved
loop-rest-preserved c =
    let f = rw c.in-Some.is at c.in_ok-part.ensures in
    let l = c.loop-rest.invariant.lexed in
    record {
      text = c.range_from-rest.utf8;
      lexed = lexed_turn _ _ _ _ _ _ _ _ _ f.0 c.in-Some.len l f.2 c.range_from-rest.ensures.value (c.in_ok-add.ensures l.made l.before f.0 f.1 l.shown l.same);
    }

pub returns : goal.returns
returns c =
    lexed_out _ c.loop-rest.rest.now c.loop-rest.settled.tokens.items _ _ _ c.loop-rest.invariant.lexed (is_none c.loop-rest.rest.now c.loop-rest-test.ensures) c.in_ok-separate.ensures
