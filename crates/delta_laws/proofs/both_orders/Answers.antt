use Rattle.std.proofs.Common.{◌∙◌, sym, false}
use Rattle.delta_laws.proofs.Laws.{moved_law}
use Rattle.delta_laws.proofs.both_orders.Goals as goal

pub returns : goal.returns
returns c =
    let law = moved_law false c.args.a.now c.args.b.now c.args.text.now c.requires.a_fits c.requires.b_fits in
    record {
      one = c.in_ok-one.ensures;
      other = c.in_ok-other.ensures;
      same = c.in_ok-one.ensures ∙ (law.one_text ∙ sym c.in_ok-other.ensures);
      moved = law;
    }
