use Rattle.std.proofs.Common.{sym, ap, ◌∙◌, string_bytes}
use Rattle.ex_terms.specs.declared.values.Value.TheVariants.{Str}
use Rattle.ex_prims.specs.Answers.{Gives}
use Rattle.ex_prims.proofs.TextJoining.{joined-more, joined-all}
use Rattle.ex_prims.proofs.texting.joined.Goals as goal

pub loop-item-preserved : goal.loop-item-preserved
loop-item-preserved c = joined-more c.args.items.now c.loop-item.item-index c.item-item.result c.loop-item.is_first (string_bytes c.loop-item.out) (string_bytes c.push_next.new.out) c.args.between.now c.as_str.result.now _ c.loop-item-test.true c.item-item.is (cc (c.in_ok-text.ensures, c.in-Some.is, c.as_str.ensures)) c.in_ok-push_next-in-Some.ensures c.loop-item.invariant

pub returns : goal.returns
returns c = joined-all c.args.items.now c.loop-item.item-index c.loop-item.is_first (string_bytes c.loop-item.out) c.args.between.now _ c.loop-item-test.false c.loop-item.invariant ∙ ap (λ l. Gives (Str l)) (sym (c.in_ok-of.ensures ∙ c.as_str-2.ensures.value))
