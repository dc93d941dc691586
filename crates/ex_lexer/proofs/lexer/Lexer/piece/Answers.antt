use Rattle.std.proofs.Common.{◌+◌, arith}
use Rattle.ex_lexer.specs.Settled.{gap_of}
use Rattle.ex_lexer.proofs.Opening as O
use Rattle.ex_lexer.proofs.lexer.Lexer.piece.Goals as goal

pub overflow_add-result : goal.overflow_add-result
overflow_add-result c = omega (arith, O.fails_small c.args.rest.now c.in_ok-len.field-0 c.in-Fails.len c.in-Fails.kind c.in_ok-len.ensures c.in-Fails.is, c.requires.small)

pub take-requires-clause-small : goal.take-requires-clause-small
take-requires-clause-small c = omega (arith, O.takes_within c.args.rest.now c.in_ok-len.field-0 c.in-Takes.part c.in-Takes.len c.utf8.rest c.requires.quote c.requires.some c.in_ok-len.ensures c.in-Takes.is, c.requires.small)

pub returns-in-Fails : goal.returns-in-Fails
returns-in-Fails c = λ holes made before o s. O.piece_refused c.args.rest.now c.in_ok-len.field-0 c.in-Fails.len c.in-Fails.kind (c.args.at + 1) c.args.at made before _ holes _ _ _ c.in_ok-len.ensures c.in-Fails.is

pub returns-in_ok-done-in-Takes : goal.returns-in_ok-done-in-Takes
returns-in_ok-done-in-Takes c = λ holes made before o s. O.piece_taken c.args.rest.now c.in_ok-len.field-0 c.in-Takes.part c.in-Takes.len (c.args.at + 1) c.args.at made before (gap_of c.args.self.now.settled.gap) holes c.take.new.self.settled c.take.new.self.inner c.take.new.self.outer.items c.in_ok-done-in-Takes.done c.in_ok-len.ensures c.in-Takes.is
    (λ q w. c.in_ok-done-in-Takes.ensures holes made before q w o s)
