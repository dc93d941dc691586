use Rattle.revisions.proofs.Answering.{refused-new, refused-old, refused-moved, moved-so}
use Rattle.revisions.proofs.source_log.SourceLog.moved.Goals as goal

pub returns-then-base-self : goal.returns-then-base-self
returns-then-base-self c = λ s h. refused-new s c.args.base c.args.delta.now c.args.self.now h c.if-base-self.true

pub returns-then-base-self-2 : goal.returns-then-base-self-2
returns-then-base-self-2 c = λ s h. refused-old s c.args.base c.args.delta.now c.args.self.now h c.if-base-self.false c.if-base-self-2.true

pub returns-in-Err : goal.returns-in-Err
returns-in-Err c = λ s h. refused-moved s c.args.base c.args.delta.now c.args.self.now c.in-Err.fault h c.if-base-self.false c.if-base-self-2.false c.in-Err.ensures

pub returns-in-Ok : goal.returns-in-Ok
returns-in-Ok c = λ s h. moved-so s c.args.base c.args.delta.now c.args.self.now c.in-Ok.moved h c.if-base-self.false c.if-base-self-2.false c.in-Ok.ensures
