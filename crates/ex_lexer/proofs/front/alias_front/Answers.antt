use Rattle.std.proofs.Common.{◌≡◌, ◌∙◌, ap, sym, subst, take}
use native.Mathlib.Nat.{sub-zero}
use Rattle.std.specs.List.{prefix_len}
use Rattle.std.specs.Str.{IsCharBoundary}
use Rattle.ex_grammar.specs.Names.{is_alias_byte}
use Rattle.ex_lexer.proofs.FrontCode as X
use Rattle.ex_lexer.proofs.front.alias_front.Goals as goal

pub range-requires-clause-end_boundary : goal.range-requires-clause-end_boundary
range-requires-clause-end_boundary c =
    let e = c.alias_len-len.ensures ∙ ap (prefix_len is_alias_byte) c.as_bytes.ensures.value in
    subst (IsCharBoundary c.args.rest.now) (sym e) (X.alias_edge c.args.rest.now c.utf8.rest)

pub returns : goal.returns
returns c =
    let e = c.alias_len-len.ensures ∙ ap (prefix_len is_alias_byte) c.as_bytes.ensures.value in
    let r : c.range.result.now ≡ take c.alias_len-len.result c.args.rest.now = rw sub-zero at c.range.ensures.value in
    X.alias_front c.in_ok-alias.alias c.args.rest.now c.alias_len-len.result e (c.in_ok-alias.ensures ∙ r)
