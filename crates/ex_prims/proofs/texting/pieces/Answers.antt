use Rattle.std.proofs.Common.{◌∙◌, ap, rules}
use Rattle.ex_terms.specs.declared.values.Value.TheVariants.{List as Listed}
use Rattle.ex_terms.specs.Seen.{terms_of}
use Rattle.ex_prims.proofs.TextPieces.{piece-cut, piece-last, shorter}
use Rattle.ex_prims.proofs.texting.pieces.Goals as goal

pub loop-piece-preserved : goal.loop-piece-preserved
loop-piece-preserved c =
    let h = c.in-Some.ensures.cases in
    (search rules, piece-cut c.args.mark.now c.loop-piece.rest.now c.in-Some.piece.now c.in-Some.after.now h.0 h.1 c.loop-piece.pieces.items c.push_text.new.values.items _ c.requires h.2 h.3 h.4 c.in_ok-push_text.ensures c.loop-piece.invariant.1)

pub loop-piece-smaller : goal.loop-piece-smaller
loop-piece-smaller c =
    let h = c.in-Some.ensures.cases in
    shorter c.args.mark.now c.loop-piece.rest.now c.in-Some.after.now h.0 h.1 c.requires h.5 h.2.1.ends h.7

pub returns : goal.returns
returns c = ap Listed (c.in_ok-of.ensures ∙ ap terms_of (piece-last c.args.mark.now c.loop-piece.rest.now c.loop-piece.pieces.items c.push_text-2.new.values.items _ c.requires c.in_default.ensures.cases c.in_ok-push_text-2.ensures c.loop-piece.invariant.1))
