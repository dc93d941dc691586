use Rattle.std.proofs.Common.{sym, subst}
use Rattle.ex_source.specs.Lexemes.{AreLexemes}
use Rattle.ex_source.proofs.Readings.{unread_tokens, not_within, read_or_not}
use Rattle.ex_source.proofs.reading.read.Goals as goal

pub returns-in_default : goal.returns-in_default
returns-in_default c = let h = rw c.in_default.is at c.in_ok-tokens.ensures in unread_tokens c.args.source.now h

pub returns-then-not-within : goal.returns-then-not-within
returns-then-not-within c =
    let h = rw c.in-Some.is at c.in_ok-tokens.ensures in
    let shown = subst (λ v. AreLexemes v h.tokens) (sym c.as_slice.ensures.value) h.shown in
    not_within c.args.source.now _ h c.in_ok-within.within (c.in_ok-within.ensures h.tokens shown) c.if-not-within.true

pub returns : goal.returns
returns c =
    let h = rw c.in-Some.is at c.in_ok-tokens.ensures in
    let shown = subst (λ v. AreLexemes v h.tokens) (sym c.as_slice.ensures.value) h.shown in
    let shown' = subst (λ v. AreLexemes v h.tokens) (sym c.as_slice-2.ensures.value) h.shown in
    read_or_not c.args.source.now _ h c.in_ok-within.within (c.in_ok-within.ensures h.tokens shown) c.if-not-within.false c.in_ok-read.read (c.in_ok-read.ensures h.tokens shown')
