use Rattle.std.proofs.Common.{◌∙◌, ap, sym, subst}
use Rattle.std.specs.List.{prefix_len}
use Rattle.std.specs.Str.{IsCharBoundary}
use Rattle.ex_grammar.specs.Names.{is_alias_byte}
use Rattle.ex_lexer.proofs.FrontCode as X
use Rattle.ex_lexer.proofs.front.atom_front.Goals as goal

pub range_from-requires : goal.range_from-requires
range_from-requires c = λ _. X.quote_edge c.args.rest.now c.as_bytes-bytes.result.now c.as_bytes-bytes.ensures.value (sym c.begins_with.ensures ∙ c.if-begins_with.true) c.utf8.rest

pub atom-requires : goal.atom-requires
atom-requires c =
    let e = c.alias_len.ensures ∙ ap (prefix_len is_alias_byte) c.as_bytes-bytes.ensures.value in
    record { boundary = subst (IsCharBoundary c.args.rest.now) (sym e) (X.alias_edge c.args.rest.now c.utf8.rest) }

pub returns : goal.returns
returns c = X.no_atom c.args.rest.now c.as_bytes-bytes.result.now c.as_bytes-bytes.ensures.value (sym c.begins_with.ensures ∙ c.if-begins_with.false) (sym c.capital_first.ensures ∙ c.if-capital_first.false) (sym c.name_first.ensures ∙ c.if-name_first.false)
