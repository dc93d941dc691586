use Rattle.std.proofs.Common.{[], ◌∷◌, subst, ◌∙◌, inl, inr, refl}
use Rattle.driver.specs.Around.{output, AreWritten, AreCut}
use Rattle.driver.proofs.AnswerLaws.{on-ok, on-err-of}
use Rattle.driver.proofs.Played.{written-one, cut-one}
use Rattle.driver.proofs.play.write_notices.Goals as goal

pub returns-in-Ok-clause-written : goal.returns-in-Ok-clause-written
returns-in-Ok-clause-written g c =
    let before = (output g.K.Sink.writes g.K.Sink.faults g.K.Sink.written c.args.sink.now) in
    let after = (output g.K.Sink.writes g.K.Sink.faults g.K.Sink.written c.write_piece.new.sink) in
    on-ok c.write_piece.result (λ w. subst (λ t. AreWritten (t ∷ []) before after) (c.as_str.ensures.value ∙ c.in-Ok.ensures) (written-one c.as_str.result.now before after w c.write_piece.ensures.asked)) c.write_piece.ensures.written

pub returns-in-Ok-clause-cut : goal.returns-in-Ok-clause-cut
returns-in-Ok-clause-cut g c = λ e.
    let before = (output g.K.Sink.writes g.K.Sink.faults g.K.Sink.written c.args.sink.now) in
    let after = (output g.K.Sink.writes g.K.Sink.faults g.K.Sink.written c.write_piece.new.sink) in
    subst (λ t. AreCut (t ∷ []) before after) (c.as_str.ensures.value ∙ c.in-Ok.ensures) (cut-one c.as_str.result.now before after (on-err-of c.write_piece.result e c.write_piece.ensures.cut) c.write_piece.ensures.asked)

pub returns-in-Ok-clause-stopped : goal.returns-in-Ok-clause-stopped
returns-in-Ok-clause-stopped g c = λ e.
    let before = (output g.K.Sink.writes g.K.Sink.faults g.K.Sink.written c.args.sink.now) in
    let after = (output g.K.Sink.writes g.K.Sink.faults g.K.Sink.written c.write_piece.new.sink) in
    inr (subst (λ t. AreCut (t ∷ []) before after) (c.as_str.ensures.value ∙ c.in-Ok.ensures) (cut-one c.as_str.result.now before after (on-err-of c.write_piece.result e c.write_piece.ensures.cut) c.write_piece.ensures.asked))

pub returns-in-Err-clause-stopped : goal.returns-in-Err-clause-stopped
returns-in-Err-clause-stopped g c = λ e. inl refl
