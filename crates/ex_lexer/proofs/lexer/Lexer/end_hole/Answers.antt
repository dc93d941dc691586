use Rattle.std.proofs.Common.{◌+◌, [], sym, subst}
use Rattle.ex_grammar.specs.Tokens.{HoleEnds}
use Rattle.ex_grammar.specs.Coded.{is_hole_ends}
use Rattle.ex_lexer.specs.Machine.{stop_by, outer, opening_of}
use Rattle.ex_lexer.specs.Settled.{gap_of, IsSettled}
use Rattle.ex_lexer.specs.Open.{IsDone}
use Rattle.ex_lexer.proofs.Opening as O
use Rattle.ex_lexer.proofs.lexer.Lexer.end_hole.Goals as goal

pub returns : goal.returns
returns c = λ holes made before r o s e f g.
    let a = c.in_ok-put.ensures made before (HoleEnds c.args.said) is_hole_ends s in
    let l = c.leave_hole-opening.ensures.opened c.args.at holes o in
    let q = c.leave_hole-opening.ensures.settled in
    let d = c.in_ok-done.ensures (c.args.at + 1) (outer holes) a.made' a.before' (O.open_more c.args.at _ _ (outer holes) l.1) (subst (λ v. IsSettled v.tokens.items v.drops a.made' a.before') (sym q) a.settled) in
    let d1 = subst (λ v. IsDone (c.args.at + 1) a.made' a.before' (gap_of v.gap) (stop_by c.args.stop (outer holes) c.leave_hole-opening.result (c.args.at + (1 + c.args.len)) (1 + c.args.len) []) c.stop.new.self.settled c.stop.new.self.inner c.stop.new.self.outer.items c.in_ok-done.done) q d in
    let d2 = subst (λ v. IsDone (c.args.at + 1) a.made' a.before' (gap_of c.put.new.self.gap) (stop_by c.args.stop (outer holes) v (c.args.at + (1 + c.args.len)) (1 + c.args.len) []) c.stop.new.self.settled c.stop.new.self.inner c.stop.new.self.outer.items c.in_ok-done.done) l.0 d1 in
    O.text_done (c.args.at + 1) (opening_of holes) c.args.at c.args.len c.args.said c.args.stop r made before (gap_of c.args.self.now.settled.gap) (outer holes) HoleEnds c.stop.new.self.settled c.stop.new.self.inner c.stop.new.self.outer.items c.in_ok-done.done e f g
    (O.stop_after (c.args.at + 1) (opening_of holes) (c.args.at + (1 + c.args.len)) (1 + c.args.len) made before (gap_of c.args.self.now.settled.gap) _ (outer holes) c.args.stop _ _ _ c.stop.new.self.settled c.stop.new.self.inner c.stop.new.self.outer.items c.in_ok-done.done a d2)
