use Rattle.std.proofs.Common.{◌++◌, ◌∙◌, map, string_bytes, sym, ap, arith}
use Rattle.std.proofs.lemmas.List.{append-nil, drop_all}
use Rattle.transcript.specs.Texts.{as_text}
use Rattle.driver.specs.Lines.{notice_line}
use Rattle.driver.proofs.Played.{notices-more}
use Rattle.driver.proofs.play.notices_text.Goals as goal

pub loop-notice-preserved : goal.loop-notice-preserved
loop-notice-preserved c = notices-more c.args.notices.now c.loop-notice.notice-index _ (string_bytes c.loop-notice.out) _ c.loop-notice-test.true c.in_ok-push_notice.ensures ∙ c.loop-notice.invariant

pub returns : goal.returns
returns c =
    sym (append-nil (string_bytes c.loop-notice.out)) ∙ (ap (λ ns. string_bytes c.loop-notice.out ++ as_text (map notice_line ns)) (sym (drop_all c.loop-notice.notice-index c.args.notices.now (omega (arith, c.loop-notice-test.false)))) ∙ c.loop-notice.invariant)
