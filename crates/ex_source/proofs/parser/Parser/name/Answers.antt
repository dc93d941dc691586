use Rattle.std.proofs.Common.{sym, ◌∙◌}
use Rattle.ex_source.proofs.Stacks.{name_plain, name_matched, name_stuck}
use Rattle.ex_source.proofs.parser.Parser.name.Goals as goal

pub returns-then-not-equals_at : goal.returns-then-not-equals_at
returns-then-not-equals_at c = λ all s rest a h r.
    name_plain _ _ _ _ c.args.tokens.now all rest _ c.args.at s c.args.name c.in_ok-held.ensures h a (sym c.equals_at.ensures.value ∙ c.if-not-equals_at.true) r

pub returns-then-floor-gt0 : goal.returns-then-floor-gt0
returns-then-floor-gt0 c = λ all s rest a h r.
    name_stuck c.args.self.now.nodes.items c.args.self.now.stack.items c.args.tokens.now all rest c.args.at c.floor.result s c.args.name a (sym c.equals_at.ensures.value ∙ c.if-not-equals_at.false) r (c.floor.ensures _ s h) c.if-floor-gt0.true

pub returns : goal.returns
returns c = λ all s rest a h r.
    name_matched _ _ _ _ c.args.tokens.now all rest _ c.args.at c.floor.result s c.args.name c.in_ok-wanted.ensures h a (sym c.equals_at.ensures.value ∙ c.if-not-equals_at.false) r (c.floor.ensures _ s h) c.if-floor-gt0.false
