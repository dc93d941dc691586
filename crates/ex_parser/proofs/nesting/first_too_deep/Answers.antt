use Rattle.std.proofs.Common.{sym, subst}
use Rattle.ex_grammar.specs.Reading.{NestsTooDeep}
use Rattle.ex_grammar.specs.Coded.{IsToken}
use Rattle.ex_parser.proofs.Depths.{nested_start, nested_turn, nested_over, nested_end}
use Rattle.ex_parser.proofs.nesting.first_too_deep.Goals as goal

pub loop-token-init : goal.loop-token-init
loop-token-init c = nested_start c.args.tokens.now c.new.result.items c.new.ensures.items

pub pass-requires-clause-open : goal.pass-requires-clause-open
pass-requires-clause-open c = let n = c.loop-token.invariant in (n.before, n.is_open)

pub pass-requires-clause-small : goal.pass-requires-clause-small
pass-requires-clause-small c = c.loop-token.invariant.small

pub returns-then-levels-gt-LIMIT : goal.returns-then-levels-gt-LIMIT
returns-then-levels-gt-LIMIT c = λ ts h.
    let n = c.loop-token.invariant in
    subst (λ x. NestsTooDeep ts x.from) (sym c.token-item.is)
    (nested_over _ _ _ _ _ _ _ _ c.token-item.result n c.loop-token-test.true (λ t k. c.in_ok-pass.ensures n.before t (subst (λ x. IsToken x.kind t) (sym c.token-item.is) k) n.is_open) ts h c.if-levels-gt-LIMIT.true)

pub loop-token-preserved : goal.loop-token-preserved
loop-token-preserved c =
    let n = c.loop-token.invariant in
    nested_turn _ _ _ _ _ _ _ _ c.token-item.result n c.loop-token-test.true (λ t k. c.in_ok-pass.ensures n.before t (subst (λ x. IsToken x.kind t) (sym c.token-item.is) k) n.is_open) c.requires.0 c.requires.1 c.if-levels-gt-LIMIT.false

pub returns : goal.returns
returns c = nested_end _ _ _ _ _ c.loop-token.invariant c.loop-token-test.false
