use Rattle.std.proofs.Common.{◌∙◌, ap, sym, lit<, get_or}
use Rattle.std.specs.List.{prefix_len}
use Rattle.ex_grammar.specs.Lexing.{is_in_line}
use Rattle.ex_lexer.proofs.FrontCode as X
use Rattle.ex_lexer.proofs.front.read_front.Goals as goal

pub returns-in_default : goal.returns-in_default
returns-in_default c = X.nothing_at c.args.rest.now c.as_bytes-bytes.result.now c.as_bytes-bytes.ensures.value c.in_default.len_below

pub range_from-requires : goal.range_from-requires
range_from-requires c =
    let e = X.colon_byte (get_or c.as_bytes-bytes.result.now 0 0) c.name_first.result (sym c.class_of.ensures ∙ c.in-Colon.is) in
    λ _. X.first_edge c.args.rest.now c.as_bytes-bytes.result.now 58 c.as_bytes-bytes.ensures.value c.in-len1-up.len_at_least e (lit< tt) c.utf8.rest

pub returns-in-Blank : goal.returns-in-Blank
returns-in-Blank c = X.blank_at c.args.rest.now c.class_of.result c.in-Blank.is (X.front_at c.args.rest.now c.as_bytes-bytes.result.now c.class_of.result c.name_first.result c.as_bytes-bytes.ensures.value c.in-len1-up.len_at_least c.name_first.ensures c.class_of.ensures)

pub returns-in-Hash : goal.returns-in-Hash
returns-in-Hash c = X.hash_at c.args.rest.now c.class_of.result c.line_len.result (c.line_len.ensures ∙ ap (prefix_len is_in_line) c.as_bytes-bytes.ensures.value) c.in-Hash.is (X.front_at c.args.rest.now c.as_bytes-bytes.result.now c.class_of.result c.name_first.result c.as_bytes-bytes.ensures.value c.in-len1-up.len_at_least c.name_first.ensures c.class_of.ensures)

pub returns-in-Feed : goal.returns-in-Feed
returns-in-Feed c = X.feed_at c.args.rest.now c.class_of.result c.in-Feed.is (X.front_at c.args.rest.now c.as_bytes-bytes.result.now c.class_of.result c.name_first.result c.as_bytes-bytes.ensures.value c.in-len1-up.len_at_least c.name_first.ensures c.class_of.ensures)

pub returns-in-Semicolon : goal.returns-in-Semicolon
returns-in-Semicolon c = X.semicolon_at c.args.rest.now c.class_of.result c.in-Semicolon.is (X.front_at c.args.rest.now c.as_bytes-bytes.result.now c.class_of.result c.name_first.result c.as_bytes-bytes.ensures.value c.in-len1-up.len_at_least c.name_first.ensures c.class_of.ensures)
