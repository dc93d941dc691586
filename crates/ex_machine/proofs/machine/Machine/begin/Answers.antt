use Rattle.std.proofs.Common.{◌∙◌, ap, subst, ◌++◌, ◌∷◌, []}
use Rattle.ex_model.specs.Meaning.{seen}
use Rattle.ex_machine.specs.Futures.{Sees, spot_of}
use Rattle.ex_machine.specs.declared.machine.Frame.TheVariants.{Bound}
use Rattle.ex_machine.proofs.Turns.{begins_variable, begins_match, begins_operator}
use Rattle.ex_machine.proofs.machine.Machine.begin.Goals as goal

pub returns-in_ok-next-in-Lookup-clause-future : goal.returns-in_ok-next-in-Lookup-clause-future
returns-in_ok-next-in-Lookup-clause-future c = λ nodes t rests sees are.
    begins_variable nodes c.args.base.now _ _ _ c.in-Lookup.name _ t rests (subst (λ n. Sees nodes n t) c.in-Lookup.is sees) are
    (c.in_ok-next-in-Lookup.ensures ∙ ap (λ o. spot_of c.in-Lookup.name o) (c.seen.ensures ∙ ap (λ x. seen c.args.base.now c.args.self.now.made x) c.as_str.ensures))

pub returns-in_ok-next-in-Bind-clause-future : goal.returns-in_ok-next-in-Bind-clause-future
returns-in_ok-next-in-Bind-clause-future c = λ nodes t rests sees are.
    begins_match nodes c.args.base.now _ _ _ _ _ _ _ rests are c.in-Bind.name c.in-Bind.part t (subst (λ n. Sees nodes n t) c.in-Bind.is sees)
    (let e = c.in_ok-next-in-Bind.ensures in (e.0, e.1 ∙ ap (λ x. c.args.self.now.frames.items ++ Bound x ∷ []) c.in_ok-copy-in-Bind.ensures, e.2, e.3))

pub returns-in_ok-next-in-Apply-clause-future : goal.returns-in_ok-next-in-Apply-clause-future
returns-in_ok-next-in-Apply-clause-future c = λ nodes t rests sees are.
    begins_operator nodes c.args.base.now _ _ _ _ _ _ _ rests are c.in-Apply.operator c.in-Apply.first c.in-Apply.second t (subst (λ n. Sees nodes n t) c.in-Apply.is sees) c.in_ok-next-in-Apply.ensures
