-- Items that a tuple and a list share.
use Rattle.std.proofs.Common.{◌≡◌, sym, ap, ◌∙◌}
use Rattle.ex_terms.specs.declared.values.Value.{Value}
use Rattle.ex_terms.specs.declared.values.Value.TheVariants.{Tuple, List as Listed}
use Rattle.ex_terms.specs.Terms.{Terms}
use Rattle.ex_terms.proofs.Trees.{are-seen}
use Rattle.ex_prims.specs.Answers.{Gives, list, tuple, of_list, of_tuple}

pub to-tuple : (v : Value) (ts us : Terms) → v ≡ Listed ts → us ≡ ts → of_list v (λ xs. Gives (tuple xs)) ≡ Gives (Tuple us)
to-tuple v ts us is same = ap (λ w. of_list w (λ xs. Gives (tuple xs))) is ∙ ap (λ zs. Gives (Tuple zs)) (are-seen ts ∙ sym same)

pub to-list : (v : Value) (ts us : Terms) → v ≡ Tuple ts → us ≡ ts → of_tuple v (λ xs. Gives (list xs)) ≡ Gives (Listed us)
to-list v ts us is same = ap (λ w. of_tuple w (λ xs. Gives (list xs))) is ∙ ap (λ zs. Gives (Listed zs)) (are-seen ts ∙ sym same)
