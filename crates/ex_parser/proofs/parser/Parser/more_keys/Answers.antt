use Rattle.std.proofs.Common.{◌∙◌, ap, [], ◌∷◌, ◌++◌}
use Rattle.ex_parser.proofs.KeyTurns.{key_more}
use Rattle.ex_parser.proofs.parser.Parser.more_keys.Goals as goal

pub returns : goal.returns
returns c =
    let k = key_more c.args.self.now.nodes.items c.add.new.self.nodes.items c.add-2.new.self.nodes.items c.args.self.now.stack.items c.add.new.self.stack.items c.add-2.new.self.stack.items c.args.key c.push-2.new.self c.new-pair.result.items c.args.keys.items c.push-3.new.self.items c.args.value c.in_ok-atom.atom c.in_ok-tuple.tuple
    c.in_ok-atom.ensures c.new-pair.ensures.items (c.in_ok-push-2.ensures.items ∙ ap (λ v. v ++ c.args.value ∷ []) c.in_ok-push.ensures.items) c.in_ok-tuple.ensures c.in_ok-push-3.ensures.items in
    (k.grows, k.stack, k.behind)
