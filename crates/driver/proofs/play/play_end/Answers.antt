use Rattle.std.proofs.Common.{[], ◌∷◌, subst, ◌∙◌, inl, inr, refl}
use Rattle.driver.specs.Around.{output, AreWritten, AreCut}
use Rattle.driver.proofs.AnswerLaws.{on-ok, on-err-of}
use Rattle.driver.proofs.Played.{written-one, cut-one}
use Rattle.driver.proofs.play.play_end.Goals as goal

-- what the end prints was written
pub returns-in-Ok-clause-played : goal.returns-in-Ok-clause-played
returns-in-Ok-clause-played g c = λ n0 is.
    let end = c.in-Ok.ensures n0 is in
    let before = (output g.K.Sink.writes g.K.Sink.faults g.K.Sink.written c.args.sink.now) in
    let after = (output g.K.Sink.writes g.K.Sink.faults g.K.Sink.written c.write_piece.new.sink) in
    on-ok c.write_piece.result (λ w. record { ended = end.0; written = subst (λ t. AreWritten (t ∷ []) before after) (c.as_str.ensures.value ∙ end.1) (written-one c.as_str.result.now before after w c.write_piece.ensures.asked) }) c.write_piece.ensures.written

-- or just a front of it
pub returns-in-Ok-clause-failed : goal.returns-in-Ok-clause-failed
returns-in-Ok-clause-failed g c = λ n0 is e.
    let end = c.in-Ok.ensures n0 is in
    let before = (output g.K.Sink.writes g.K.Sink.faults g.K.Sink.written c.args.sink.now) in
    let after = (output g.K.Sink.writes g.K.Sink.faults g.K.Sink.written c.write_piece.new.sink) in
    record { ended = end.0; written = subst (λ t. AreCut (t ∷ []) before after) (c.as_str.ensures.value ∙ end.1) (cut-one c.as_str.result.now before after (on-err-of c.write_piece.result e c.write_piece.ensures.cut) c.write_piece.ensures.asked) }

-- there was no memory to write it
pub returns-in-Ok-clause-stopped : goal.returns-in-Ok-clause-stopped
returns-in-Ok-clause-stopped g c = λ n0 is e.
    let end = c.in-Ok.ensures n0 is in
    let before = (output g.K.Sink.writes g.K.Sink.faults g.K.Sink.written c.args.sink.now) in
    let after = (output g.K.Sink.writes g.K.Sink.faults g.K.Sink.written c.write_piece.new.sink) in
    inr (record { ended = end.0; written = subst (λ t. AreCut (t ∷ []) before after) (c.as_str.ensures.value ∙ end.1) (cut-one c.as_str.result.now before after (on-err-of c.write_piece.result e c.write_piece.ensures.cut) c.write_piece.ensures.asked) })

-- or to say it
pub returns-in-Err-clause-stopped : goal.returns-in-Err-clause-stopped
returns-in-Err-clause-stopped g c = λ n0 is e. inl refl
