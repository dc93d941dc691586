use Rattle.script.specs.Words.{first_word, after_word}
use Rattle.script.proofs.Following.{numbered-next}
use Rattle.script.proofs.Posting.{postable-next}
use Rattle.script.proofs.script.Script.with.Goals as goal

pub invariant_of-result : goal.invariant_of-result
invariant_of-result c =
    (numbered-next c.self.inside.content c.in_ok-content.content (first_word c.args.text.now) (after_word c.args.text.now) c.self.invariant.0 c.in_ok-content.ensures, postable-next c.self.inside.content c.in_ok-content.content (first_word c.args.text.now) (after_word c.args.text.now) c.self.invariant.1 c.in_ok-content.ensures)
