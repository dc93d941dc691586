-- What stands in a tuple or a list has fewer values than the whole.
use Rattle.std.specs.Prelude.{◌≤◌, max, List, [], ◌∷◌}
use Rattle.std.proofs.Common.{arith}
use denote.Param.Weighed.{most}
use Rattle.ex_terms.specs.declared.values.Value.{Value}
use Rattle.ex_terms.specs.declared.values.Value.TheVariants.{Int, Atom, Str, Tuple, List as Listed}
use Rattle.ex_terms.specs.declared.values.Items.TheDeep.{deep-Value}
use Rattle.ex_terms.specs.Terms.{count, counts}
use Rattle.ex_terms.specs.Seen.{term_of, terms_of}

deep_le-count : (v : Value) → deep-Value v ≤ count (term_of v)
deep_le-count (Int z) = omega arith
deep_le-count (Atom t) = omega arith
deep_le-count (Str t) = omega arith
deep_le-count (Tuple ts) = omega arith
deep_le-count (Listed ts) = omega arith

pub most_le-counts : (vs : List Value) → max (most deep-Value vs) 0 ≤ counts (terms_of vs)
most_le-counts [] = omega arith
most_le-counts (v ∷ vs) = omega (arith, deep_le-count v, most_le-counts vs)
