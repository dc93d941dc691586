use Rattle.std.proofs.Common.{◌≡◌, ◌∙◌, ◌++◌, ap, sym, refl, subst, take}
use native.Mathlib.Nat.{sub-zero}
use Rattle.std.specs.String.{string_bytes}
use Rattle.std.specs.Str.{IsCharBoundary}
use Rattle.ex_lexer.specs.Runs.{plain_len}
use Rattle.ex_lexer.proofs.TextRuns.{said_plain, plain_boundary, none_left, quote_at, hole_at}
use Rattle.ex_lexer.proofs.texts.say.Goals as goal

pub range-requires-clause-end_boundary : goal.range-requires-clause-end_boundary
range-requires-clause-end_boundary c =
    let e : c.plain_len-len.result ≡ plain_len c.args.rest.now = c.plain_len-len.ensures ∙ ap plain_len c.as_bytes-bytes.ensures.value in
    subst (λ n. IsCharBoundary c.args.rest.now n) (sym e) (plain_boundary c.args.rest.now c.utf8.rest)

pub returns-then-len-gt0 : goal.returns-then-len-gt0
returns-then-len-gt0 c =
    let e : c.plain_len-len.result ≡ plain_len c.args.rest.now = c.plain_len-len.ensures ∙ ap plain_len c.as_bytes-bytes.ensures.value in
    let r : c.range.result.now ≡ take c.plain_len-len.result c.args.rest.now = rw sub-zero at c.range.ensures.value in
    said_plain (string_bytes c.args.said.now) (string_bytes c.push_str.new.self) c.args.rest.now c.plain_len-len.result c.utf8.rest e c.if-len-gt0.true (c.in_ok-push_str.ensures.bytes ∙ ap (λ w. string_bytes c.args.said.now ++ w) r)

pub returns-in_default : goal.returns-in_default
returns-in_default c = (refl, none_left c.as_bytes-bytes.result.now c.args.rest.now c.as_bytes-bytes.ensures.value c.in_default.len_below)

pub returns-then-first-eq34 : goal.returns-then-first-eq34
returns-then-first-eq34 c = (refl, quote_at c.as_bytes-bytes.result.now c.args.rest.now c.as_bytes-bytes.ensures.value c.in-len1-up.len_at_least c.if-first-eq34.true)

pub returns : goal.returns
returns c = (refl, hole_at c.as_bytes-bytes.result.now c.args.rest.now c.plain_len-len.result c.as_bytes-bytes.ensures.value c.in-len1-up.len_at_least c.plain_len-len.ensures c.if-len-gt0.false c.if-first-eq34.false c.if-first-eq92.false)
