use Rattle.std.proofs.Common.{subst}
use Rattle.ex_model.specs.Nests.{open_at}
use Rattle.ex_source.specs.Levels.{IsOpen, shape}
use Rattle.ex_source.proofs.Depths.{nested_start, nested_turn, nested_over, nested_end}
use Rattle.ex_source.proofs.nesting.nests_within.Goals as goal

pub loop-lexeme-init : goal.loop-lexeme-init
loop-lexeme-init c = nested_start c.args.tokens.now c.new.result.items c.new.ensures.items

pub pass-requires-clause-open : goal.pass-requires-clause-open
pass-requires-clause-open c = let n = c.loop-lexeme.invariant in (n.before, n.is_open)

pub pass-requires-clause-small : goal.pass-requires-clause-small
pass-requires-clause-small c = c.loop-lexeme.invariant.small

pub returns-then-levels-gt-MAX_LEVELS : goal.returns-then-levels-gt-MAX_LEVELS
returns-then-levels-gt-MAX_LEVELS c =
    let n = c.loop-lexeme.invariant in
    let o = c.in_ok-pass.ensures n.before n.is_open in
    nested_over _ _ _ _ _ _ _ _ c.lexeme-item.result n c.loop-lexeme-test.true (subst (λ x. IsOpen c.pass.new.self.count c.pass.new.self.inner c.pass.new.self.outer.items (open_at n.before (shape x))) c.lexeme-item.is o) c.if-levels-gt-MAX_LEVELS.true

pub loop-lexeme-preserved : goal.loop-lexeme-preserved
loop-lexeme-preserved c =
    let n = c.loop-lexeme.invariant in
    let o = c.in_ok-pass.ensures n.before n.is_open in
    nested_turn _ _ _ _ _ _ _ _ c.lexeme-item.result n c.loop-lexeme-test.true (subst (λ x. IsOpen c.pass.new.self.count c.pass.new.self.inner c.pass.new.self.outer.items (open_at n.before (shape x))) c.lexeme-item.is o) c.if-levels-gt-MAX_LEVELS.false

pub returns : goal.returns
returns c = nested_end _ _ _ _ _ c.loop-lexeme.invariant c.loop-lexeme-test.false
