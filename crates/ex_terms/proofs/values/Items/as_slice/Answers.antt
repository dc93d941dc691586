use Rattle.std.proofs.Common.{◌≡◌, rules}
use Rattle.ex_terms.specs.Seen.{terms_of}
use Rattle.ex_terms.proofs.Trees.{made-of}
use Rattle.ex_terms.proofs.values.Items.as_slice.Goals as goal

pub returns-clause-values : goal.returns-clause-values
returns-clause-values c =
    let values : terms_of c.as_slice.result.now ≡ c.args.self.now = search rules in
    made-of c.as_slice.result.now c.args.self.now values
