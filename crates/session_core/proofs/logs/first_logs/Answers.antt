use Rattle.std.proofs.Common.{◌++◌, ◌∷◌, [], sym, subst, ap, ◌∙◌, take}
use Rattle.std.specs.List.{AllByRecursion, flat_map}
use Rattle.std.proofs.lemmas.List.{take_all}
use Rattle.notebook.specs.Book.{cells_of}
use Rattle.session_ops.specs.State.{opening}
use Rattle.session_core.specs.Logs.{LineUp, BeginsIn}
use Rattle.session_core.proofs.LogLaws.{all-in-section, flat-next}
use Rattle.session_core.proofs.logs.first_logs.Goals as goal

pub loop-section-init : goal.loop-section-init
loop-section-init c = λ a. c.in_ok-push_log.ensures c.args.book.now [] a.0 (subst (LineUp (opening c.args.book.now) []) (sym c.new-logs.ensures.items) tt)

pub loop-section-preserved : goal.loop-section-preserved
loop-section-preserved c = λ a.
    let n = c.args.book.now in
    let i = c.loop-section.section-index in
    let s = c.section-item.result in
    let ss = c.as_slice-section-items.result.now in
    let same = c.as_slice-section-items.ensures in
    let all = subst (λ xs. AllByRecursion (BeginsIn n) (flat_map cells_of xs)) (sym same) a.1 in
    let more = c.in_ok-push_logs.ensures n (n.setup ∷ flat_map cells_of (take i ss)) (subst (AllByRecursion (BeginsIn n)) (sym c.as_slice.ensures) (all-in-section (BeginsIn n) ss i s all c.loop-section-test.true c.section-item.is)) (c.loop-section.invariant a) in
    subst (λ ys. LineUp (opening n) (n.setup ∷ ys) c.push_logs.new.logs.items) (ap (λ cs. flat_map cells_of (take i ss) ++ cs) c.as_slice.ensures ∙ sym (flat-next ss i s c.loop-section-test.true c.section-item.is)) more

pub returns : goal.returns
returns c = λ a.
    let n = c.args.book.now in
    let ss = c.as_slice-section-items.result.now in
    subst (λ ys. LineUp (opening n) (n.setup ∷ flat_map cells_of ys) c.loop-section.logs.items) (take_all c.loop-section.section-index ss c.loop-section-test.false ∙ c.as_slice-section-items.ensures) (c.loop-section.invariant a)
