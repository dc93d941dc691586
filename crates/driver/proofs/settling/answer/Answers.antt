use Rattle.std.proofs.Common.{refl, sym, subst}
use Rattle.std.specs.Str.{encode_utf8_all}
use Rattle.ex_model.specs.Along.{MeansInCell}
use Rattle.session_ops.specs.declared.entry.Call.TheVariants.{Respond}
use Rattle.session_core.proofs.Calls.{answered-over}
use Rattle.driver.proofs.settling.answer.Goals as goal

pub respond-requires : goal.respond-requires
respond-requires c =
    let job = c.args.job in
    let means : MeansInCell (encode_utf8_all job.source) job.base c.in_ok-ran.ran = subst (λ s. MeansInCell s job.base c.in_ok-ran.ran) c.as_str.ensures.bytes c.in_ok-ran.ensures in
    (job, c.requires, refl, subst (MeansInCell (encode_utf8_all job.source) job.base) (sym c.in_ok-given.ensures) means)

pub returns : goal.returns
returns c = λ n0 is. (
  c.in_ok-given.given.shown,
  (
    c.respond.result,
    answered-over n0 c.args.by (Respond c.args.job.eval c.in_ok-given.given.shown) c.args.session.now c.respond.new.self c.respond.result is c.respond.ensures.ok,
  ),
)
