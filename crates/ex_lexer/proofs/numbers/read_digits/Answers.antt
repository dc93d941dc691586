use Rattle.std.proofs.Common.{◌∙◌, ◌++◌, ◌+◌, ◌==◌, ◌&&◌, ◌||◌, arith, sym, subst, ap, get_or}
use Rattle.ex_lexer.specs.Runs.{Counts, digit_in}
use Rattle.ex_grammar.specs.Texts.{first_is}
use Rattle.ex_grammar.specs.Names.{is_digit}
use Rattle.ex_lexer.proofs.Bytes.{rest_from}
use Rattle.ex_lexer.proofs.NumberRuns.{digits_turn, digits_stop, digits_end}
use Rattle.ex_lexer.proofs.numbers.read_digits.Goals as goal

pub loop-len-preserved : goal.loop-len-preserved
loop-len-preserved c =
    let i = c.loop-len.invariant in
    let b = get_or c.args.bytes.now c.loop-len.len 0 in
    (i.0 ++ digit_in b, omega arith, digits_turn c.args.bytes.now c.loop-len.len i.0 c.loop-len-test.true i.2 (ap (λ w. is_digit b || (b == 95 && first_is is_digit w)) (sym (rest_from c.args.bytes.now (c.loop-len.len + 1))) ∙ (sym c.goes_on.ensures ∙ c.if-goes_on.true)), c.grown-value.ensures i.0 i.3)

pub returns-else-goes_on-clause-len : goal.returns-else-goes_on-clause-len
returns-else-goes_on-clause-len c =
    let i = c.loop-len.invariant in
    sym (ap (λ p. p.0) (digits_stop c.args.bytes.now c.loop-len.len i.0 c.loop-len-test.true i.2 (ap (λ w. is_digit (get_or c.args.bytes.now c.loop-len.len 0) || (get_or c.args.bytes.now c.loop-len.len 0 == 95 && first_is is_digit w)) (sym (rest_from c.args.bytes.now (c.loop-len.len + 1))) ∙ (sym c.goes_on.ensures ∙ c.if-goes_on.false))))

pub returns-else-goes_on-clause-value : goal.returns-else-goes_on-clause-value
returns-else-goes_on-clause-value c =
    let i = c.loop-len.invariant in
    subst (λ p. Counts c.loop-len.value p.1) (sym (digits_stop c.args.bytes.now c.loop-len.len i.0 c.loop-len-test.true i.2 (ap (λ w. is_digit (get_or c.args.bytes.now c.loop-len.len 0) || (get_or c.args.bytes.now c.loop-len.len 0 == 95 && first_is is_digit w)) (sym (rest_from c.args.bytes.now (c.loop-len.len + 1))) ∙ (sym c.goes_on.ensures ∙ c.if-goes_on.false)))) i.3

pub returns-after-loop-len-clause-len : goal.returns-after-loop-len-clause-len
returns-after-loop-len-clause-len c = let i = c.loop-len.invariant in sym (ap (λ p. p.0) (digits_end c.args.bytes.now c.loop-len.len i.0 c.loop-len-test.false i.2))

pub returns-after-loop-len-clause-value : goal.returns-after-loop-len-clause-value
returns-after-loop-len-clause-value c = let i = c.loop-len.invariant in subst (λ p. Counts c.loop-len.value p.1) (sym (digits_end c.args.bytes.now c.loop-len.len i.0 c.loop-len-test.false i.2)) i.3
