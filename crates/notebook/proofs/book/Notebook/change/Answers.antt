use Rattle.std.proofs.Common.{subst}
use Rattle.notebook.specs.declared.parts.Parts.{Parts}
use Rattle.notebook.specs.Change.{IsAnswered}
use Rattle.notebook.proofs.Keeping.{answered-keeps, answered-made, answered-cause, answered-refused}
use Rattle.notebook.proofs.book.Notebook.change.Goals as goal

pub invariant_of-self : goal.invariant_of-self
invariant_of-self c = answered-keeps _ _ c.args.asked c.make.result c.self.invariant c.make.ensures

pub returns : goal.returns
returns c =
    let a : IsAnswered c.args.self.now c.args.asked c.make.new.parts c.make.result =
    subst (λ (n : Parts). IsAnswered n c.args.asked c.make.new.parts c.make.result) c.self.view_is c.make.ensures in
    record {
      made = answered-made c.args.self.now c.make.new.parts c.args.asked c.make.result a;
      cause = answered-cause c.args.self.now c.make.new.parts c.args.asked c.make.result a;
      refused = answered-refused c.args.self.now c.make.new.parts c.args.asked c.make.result a;
    }
