use Rattle.std.proofs.Common.{drop}
use Rattle.std.proofs.lemmas.Result.{IfOk-weaker}
use Rattle.ex_parser.specs.declared.parser.Pending.TheVariants as F
use Rattle.ex_parser.specs.Follow.{follow}
use Rattle.ex_parser.specs.Shown.{tokens_of}
use Rattle.ex_parser.proofs.StepTurns.{at_frame, frame_means}
use Rattle.ex_parser.proofs.parser.Parser.end_by.Goals as goal

pub returns-in-Operand : goal.returns-in-Operand
returns-in-Operand c =
    let all = tokens_of c.args.tokens.now in
    let ts = drop c.args.at all in
    IfOk-weaker c.apply.result _ _ (λ m t. λ f j s v k i. let h = frame_means (F.Operand c.in-Operand.op c.in-Operand.left) c.in-Operand.is j in at_frame _ s v ts h.1 (t h.0 h.2 all s v k i)) c.apply.ensures

pub returns-in-Matched : goal.returns-in-Matched
returns-in-Matched c =
    let all = tokens_of c.args.tokens.now in
    let ts = drop c.args.at all in
    IfOk-weaker c.bind.result _ _ (λ m t. λ f j s v k i. let h = frame_means (F.Matched c.in-Matched.pattern) c.in-Matched.is j in at_frame _ s v ts h.1 (t h.0 h.2 all s v k i)) c.bind.ensures

pub returns-in-Prefixed : goal.returns-in-Prefixed
returns-in-Prefixed c =
    let all = tokens_of c.args.tokens.now in
    let ts = drop c.args.at all in
    IfOk-weaker c.prefix.result _ _ (λ m t. λ f j s v k i. let h = frame_means (F.Prefixed c.in-Prefixed.prefix) c.in-Prefixed.is j in at_frame _ s v ts h (t all s v k i)) c.prefix.ensures

pub returns-in-Parens : goal.returns-in-Parens
returns-in-Parens c = λ f j s v k i.
    let all = tokens_of c.args.tokens.now in
    let ts = drop c.args.at all in
    at_frame _ s v ts (frame_means F.Parens c.in-Parens.is j) (c.close_parens.ensures _ _ all s v (follow ts) k i c.follow_at-follow.ensures)

pub returns-in-Items : goal.returns-in-Items
returns-in-Items c =
    let all = tokens_of c.args.tokens.now in
    let ts = drop c.args.at all in
    IfOk-weaker c.item.result _ _ (λ m t. λ f j s v k i. let h = frame_means (F.Items c.in-Items.enclosure c.in-Items.items) c.in-Items.is j in at_frame _ s v ts h.2 (t h.0 h.1 h.3 h.4 h.5 all s v (follow ts) k i c.follow_at-follow.ensures)) c.item.ensures

pub returns-in-Keyed : goal.returns-in-Keyed
returns-in-Keyed c =
    let all = tokens_of c.args.tokens.now in
    let ts = drop c.args.at all in
    IfOk-weaker c.keyed.result _ _ (λ m t. λ f j s v k i. let h = frame_means (F.Keyed c.in-Keyed.enclosure c.in-Keyed.items c.in-Keyed.keys c.in-Keyed.key) c.in-Keyed.is j in at_frame _ s v ts h.3 (t h.0 h.1 h.2 h.4 h.5 h.6 s v (follow ts) k i c.follow_at-follow.ensures)) c.keyed.ensures

pub returns-in-Tail : goal.returns-in-Tail
returns-in-Tail c =
    let all = tokens_of c.args.tokens.now in
    let ts = drop c.args.at all in
    IfOk-weaker c.tail.result _ _ (λ m t. λ f j s v k i. let h = frame_means (F.Tail c.in-Tail.items) c.in-Tail.is j in at_frame _ s v ts h.1 (t h.0 h.2 all s v (follow ts) k i c.follow_at-follow.ensures)) c.tail.ensures

pub returns-in-Hole : goal.returns-in-Hole
returns-in-Hole c =
    let all = tokens_of c.args.tokens.now in
    let ts = drop c.args.at all in
    IfOk-weaker c.hole.result _ _ (λ m t. λ f j s v k i. let h = frame_means (F.Hole c.in-Hole.says c.in-Hole.holes) c.in-Hole.is j in at_frame _ s v ts h.1 (t h.0 h.2 s v k i)) c.hole.ensures

pub returns-in-If : goal.returns-in-If
returns-in-If c =
    let all = tokens_of c.args.tokens.now in
    let ts = drop c.args.at all in
    IfOk-weaker c.condition.result _ _ (λ m t. λ f j s v k i. let h = frame_means F.If c.in-If.is j in at_frame _ s v ts h (t all s v (follow ts) k i c.follow_at-follow.ensures)) c.condition.ensures

pub returns-in-Do : goal.returns-in-Do
returns-in-Do c =
    let all = tokens_of c.args.tokens.now in
    let ts = drop c.args.at all in
    IfOk-weaker c.do_if.result _ _ (λ m t. λ f j s v k i. let h = frame_means (F.Do c.in-Do.condition) c.in-Do.is j in at_frame _ s v ts h.1 (t h.0 h.2 all s v (follow ts) k i c.follow_at-follow.ensures)) c.do_if.ensures

pub returns-in-ElseDo : goal.returns-in-ElseDo
returns-in-ElseDo c =
    let all = tokens_of c.args.tokens.now in
    let ts = drop c.args.at all in
    IfOk-weaker c.do_else.result _ _ (λ m t. λ f j s v k i. let h = frame_means (F.ElseDo c.in-ElseDo.condition c.in-ElseDo.body) c.in-ElseDo.is j in at_frame _ s v ts h.2 (t h.0 h.1 h.3 h.4 all s v k i)) c.do_else.ensures

pub returns-in-Body : goal.returns-in-Body
returns-in-Body c =
    let all = tokens_of c.args.tokens.now in
    let ts = drop c.args.at all in
    IfOk-weaker c.body.result _ _ (λ m t. λ f j s v k i. let h = frame_means (F.Body c.in-Body.block c.in-Body.body) c.in-Body.is j in at_frame _ s v ts h.2 (t h.0 h.1 h.3 h.4 all s v (follow ts) k i c.follow_at-follow.ensures)) c.body.ensures

pub returns-in-Case : goal.returns-in-Case
returns-in-Case c =
    let all = tokens_of c.args.tokens.now in
    let ts = drop c.args.at all in
    IfOk-weaker c.subject.result _ _ (λ m t. λ f j s v k i. let h = frame_means F.Case c.in-Case.is j in at_frame _ s v ts h (t all s v (follow ts) k i c.follow_at-follow.ensures)) c.subject.ensures

pub returns-in-FirstPattern : goal.returns-in-FirstPattern
returns-in-FirstPattern c =
    let all = tokens_of c.args.tokens.now in
    let ts = drop c.args.at all in
    IfOk-weaker c.first_pattern.result _ _ (λ m t. λ f j s v k i. let h = frame_means (F.FirstPattern c.in-FirstPattern.subject) c.in-FirstPattern.is j in at_frame _ s v ts h.1 (t h.0 h.2 all s v (follow ts) k i c.follow_at-follow.ensures)) c.first_pattern.ensures

pub returns-in-FirstCondition : goal.returns-in-FirstCondition
returns-in-FirstCondition c =
    let all = tokens_of c.args.tokens.now in
    let ts = drop c.args.at all in
    IfOk-weaker c.first_condition.result _ _ (λ m t. λ f j s v k i. let h = frame_means F.FirstCondition c.in-FirstCondition.is j in at_frame _ s v ts h (t all s v (follow ts) k i c.follow_at-follow.ensures)) c.first_condition.ensures

pub returns-in-ForPattern : goal.returns-in-ForPattern
returns-in-ForPattern c =
    let all = tokens_of c.args.tokens.now in
    let ts = drop c.args.at all in
    IfOk-weaker c.for_pattern.result _ _ (λ m t. λ f j s v k i. let h = frame_means F.ForPattern c.in-ForPattern.is j in at_frame _ s v ts h (t all s v (follow ts) k i c.follow_at-follow.ensures)) c.for_pattern.ensures

pub returns-in-ForSource : goal.returns-in-ForSource
returns-in-ForSource c =
    let all = tokens_of c.args.tokens.now in
    let ts = drop c.args.at all in
    IfOk-weaker c.for_source.result _ _ (λ m t. λ f j s v k i. let h = frame_means (F.ForSource c.in-ForSource.pattern) c.in-ForSource.is j in at_frame _ s v ts h.1 (t h.0 h.2 all s v (follow ts) k i c.follow_at-follow.ensures)) c.for_source.ensures

pub returns-in-Part : goal.returns-in-Part
returns-in-Part c =
    let all = tokens_of c.args.tokens.now in
    let ts = drop c.args.at all in
    IfOk-weaker c.part.result _ _ (λ m t. λ f j s v k i. let h = frame_means (F.Part c.in-Part.head) c.in-Part.is j in at_frame _ s v ts h.1 (t h.0 h.2 all s v (follow ts) k i c.follow_at-follow.ensures)) c.part.ensures

pub returns-in-PartSource : goal.returns-in-PartSource
returns-in-PartSource c =
    let all = tokens_of c.args.tokens.now in
    let ts = drop c.args.at all in
    IfOk-weaker c.part_source.result _ _ (λ m t. λ f j s v k i. let h = frame_means (F.PartSource c.in-PartSource.head c.in-PartSource.pattern) c.in-PartSource.is j in at_frame _ s v ts h.2 (t h.0 h.1 h.3 h.4 all s v (follow ts) k i c.follow_at-follow.ensures)) c.part_source.ensures

pub returns-in-ForDo : goal.returns-in-ForDo
returns-in-ForDo c =
    let all = tokens_of c.args.tokens.now in
    let ts = drop c.args.at all in
    IfOk-weaker c.do_for.result _ _ (λ m t. λ f j s v k i. let h = frame_means (F.ForDo c.in-ForDo.head) c.in-ForDo.is j in at_frame _ s v ts h.1 (t h.0 h.2 all s v k i)) c.do_for.ensures
