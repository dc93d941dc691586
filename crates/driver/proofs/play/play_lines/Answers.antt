use Rattle.std.proofs.Common.{arith, string_bytes, subst, [], ◌∷◌}
use Rattle.driver.specs.Around.{output, AreWritten, AreCut}
use Rattle.driver.proofs.Played.{have-none, have-more, have-all, have-failed, have-stopped, written-one, cut-one}
use Rattle.driver.proofs.play.play_lines.Goals as goal

pub loop-line-init : goal.loop-line-init
loop-line-init g c = record { way = λ n0 s st. have-none _ c.args.lines.now c.args.player.now s (output g.K.Sink.writes g.K.Sink.faults g.K.Sink.written c.args.sink.now) st; counts = omega arith }

pub returns-clause-played : goal.returns-clause-played
returns-clause-played g c = λ n0 s st.
    have-all _ c.args.lines.now c.loop-line.line-index c.args.player.now c.loop-line.player s (output g.K.Sink.writes g.K.Sink.faults g.K.Sink.written c.args.sink.now) (output g.K.Sink.writes g.K.Sink.faults g.K.Sink.written c.loop-line.sink) (omega (arith, c.loop-line-test.false)) (c.loop-line.invariant.way n0 s st)

pub loop-line-preserved : goal.loop-line-preserved
loop-line-preserved g c = record {
  way = λ n0 s st.
      let first = (output g.K.Sink.writes g.K.Sink.faults g.K.Sink.written c.args.sink.now) in
      let before = (output g.K.Sink.writes g.K.Sink.faults g.K.Sink.written c.loop-line.sink) in
      let after = (output g.K.Sink.writes g.K.Sink.faults g.K.Sink.written c.write_piece.new.sink) in
      have-more _ c.args.lines.now c.loop-line.line-index c.line-item.result c.args.player.now c.loop-line.player c.line_text.new.player s first before after (string_bytes c.in_ok-piece.piece) c.loop-line-test.true c.line-item.is (c.loop-line.invariant.way n0 s st)
      (λ t k. c.in_ok-piece.ensures.played n0 t k) (subst (λ x. AreWritten (x ∷ []) before after) c.as_str.ensures.value (written-one c.as_str.result.now before after c.in-Ok.ensures.written c.write_piece.ensures.asked));
  counts = omega (arith, c.loop-line.invariant.counts, c.write_piece.ensures.counts);
}

-- just a front of the line's piece was written
pub returns-in-Err-clause-failed : goal.returns-in-Err-clause-failed
returns-in-Err-clause-failed g c = λ n0 s st e.
    let first = (output g.K.Sink.writes g.K.Sink.faults g.K.Sink.written c.args.sink.now) in
    let before = (output g.K.Sink.writes g.K.Sink.faults g.K.Sink.written c.loop-line.sink) in
    let after = (output g.K.Sink.writes g.K.Sink.faults g.K.Sink.written c.write_piece.new.sink) in
    have-failed _ c.args.lines.now c.loop-line.line-index c.line-item.result c.args.player.now c.loop-line.player c.line_text.new.player s first before after (string_bytes c.in_ok-piece.piece) c.loop-line-test.true c.line-item.is (c.loop-line.invariant.way n0 s st)
    (λ t k. c.in_ok-piece.ensures.played n0 t k) (subst (λ x. AreCut (x ∷ []) before after) c.as_str.ensures.value (cut-one c.as_str.result.now before after c.in-Err.ensures.cut c.write_piece.ensures.asked))

-- there was no memory to write it
pub returns-in-Err-clause-stopped : goal.returns-in-Err-clause-stopped
returns-in-Err-clause-stopped g c = λ n0 s st e.
    let first = (output g.K.Sink.writes g.K.Sink.faults g.K.Sink.written c.args.sink.now) in
    let before = (output g.K.Sink.writes g.K.Sink.faults g.K.Sink.written c.loop-line.sink) in
    let after = (output g.K.Sink.writes g.K.Sink.faults g.K.Sink.written c.write_piece.new.sink) in
    record {
      last = c.line_text.new.player;
      broken = have-failed _ c.args.lines.now c.loop-line.line-index c.line-item.result c.args.player.now c.loop-line.player c.line_text.new.player s first before after (string_bytes c.in_ok-piece.piece) c.loop-line-test.true c.line-item.is (c.loop-line.invariant.way n0 s st)
          (λ t k. c.in_ok-piece.ensures.played n0 t k) (subst (λ x. AreCut (x ∷ []) before after) c.as_str.ensures.value (cut-one c.as_str.result.now before after c.in-Err.ensures.cut c.write_piece.ensures.asked));
    }

-- there was no memory to say it
pub returns-in_err-piece-clause-stopped : goal.returns-in_err-piece-clause-stopped
returns-in_err-piece-clause-stopped g c = λ n0 s st e.
    let first = (output g.K.Sink.writes g.K.Sink.faults g.K.Sink.written c.args.sink.now) in
    let now = (output g.K.Sink.writes g.K.Sink.faults g.K.Sink.written c.loop-line.sink) in
    have-stopped _ c.args.lines.now c.loop-line.line-index c.args.player.now c.loop-line.player s first now (c.loop-line.invariant.way n0 s st)
