use Rattle.std.proofs.Common.{◌≡◌, ◌∙◌, ◌+◌, ◌==◌, false, sym, ap, subst}
use Rattle.ex_grammar.specs.Texts.{first_is}
use Rattle.ex_lexer.specs.Machine.{ends_hole}
use Rattle.ex_lexer.specs.Settled.{gap_of}
use Rattle.ex_lexer.specs.Open.{IsDone}
use Rattle.ex_lexer.proofs.Opening as O
use Rattle.ex_lexer.proofs.lexer.Lexer.step.Goals as goal

pub returns : goal.returns
returns c = λ holes made before o s.
    let q : first_is (λ b. b == 34) c.args.rest.now ≡ false = ap (first_is (λ b. b == 34)) (sym c.as_bytes-bytes.ensures.value) ∙ (sym c.begins_with.ensures ∙ c.if-begins_with.false) in
    let k : first_is (λ b. ends_hole b holes) c.args.rest.now ≡ false = ap (first_is (λ b. ends_hole b holes)) (sym c.as_bytes-bytes.ensures.value) ∙ (sym (c.closes_hole.ensures.value c.args.at holes o) ∙ c.if-closes_hole.false) in
    subst (λ v. IsDone (c.args.at + 1) made before (gap_of c.args.self.now.settled.gap) v c.piece.new.self.settled c.piece.new.self.inner c.piece.new.self.outer.items c.in_ok-done-3.done) (sym (O.step_piece holes c.args.at c.args.rest.now c.requires.some q k)) (c.in_ok-done-3.ensures holes made before o s)
