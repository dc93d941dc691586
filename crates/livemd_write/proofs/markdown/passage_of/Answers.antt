use Rattle.std.proofs.Common.{◌≡◌, List, ℕ, lit<, map, subst}
use Rattle.std.specs.List.{slice_split}
use Rattle.std.proofs.lemmas.Iterator.Splits.{YieldsList-from_str_split}
use Rattle.std.proofs.lemmas.Iterator.Consumers.{YieldsList-end}
use Rattle.blanks.specs.Blanks.{drop_end, is_cr}
use Rattle.livemd_lines.specs.Lines.{is_lf}
use Rattle.livemd_write.specs.Passages.{IsPassage}
use Rattle.livemd_write.specs.Texts.{texts}
use Rattle.livemd_write.proofs.Passaging.{passage_turn}
use Rattle.livemd_write.proofs.markdown.passage_of.Goals as goal

pub loop-piece-preserved : goal.loop-piece-preserved
loop-piece-preserved c = passage_turn c.loop-piece.yielded c.in-Some.piece _ (c.in_ok-take.ensures.ok _ c.loop-piece.invariant)

pub returns : goal.returns
returns c =
    let all : texts c.loop-piece.yielded ≡ slice_split is_lf c.args.text.now = (YieldsList-end (YieldsList-from_str_split 10 c.args.text.now (lit< tt) (cc) (cc) (cc)) c.loop-piece.yielded _ c.loop-piece.yielded_by _ _ c.in-None.is c.next.ensures.steps).0 in
    subst (λ (ls : List (List ℕ)). IsPassage (map (drop_end is_cr) ls) c.loop-piece.passage) all c.loop-piece.invariant
