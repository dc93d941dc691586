use Rattle.std.proofs.Common.{◌≡◌, ◌∙◌, ap, Some, take, drop, length, ◌-◌}
use Rattle.std.specs.List.{prefix_len}
use Rattle.ex_model.specs.Lexing as L
use Rattle.ex_source.specs.declared.front.Kind.TheVariants as K
use Rattle.ex_source.specs.Lexemes.{is_blank, is_comment, is_newline, is_semicolon}
use Rattle.ex_source.proofs.Fronts.{front_at, found_at}
use Rattle.ex_source.proofs.front.front.Goals as goal

pub returns-in-Blank : goal.returns-in-Blank
returns-in-Blank c =
    let e = front_at c.args.rest.now c.as_bytes-bytes.result.now K.Blank c.as_bytes-bytes.ensures.value c.in-len1-up.len_at_least c.in-Blank.ensures in
    (L.Blank, is_blank, e)

pub returns-in-Feed : goal.returns-in-Feed
returns-in-Feed c =
    let e = front_at c.args.rest.now c.as_bytes-bytes.result.now K.Feed c.as_bytes-bytes.ensures.value c.in-len1-up.len_at_least c.in-Feed.ensures in
    (L.Newline, is_newline, e)

pub returns-in-Semicolon : goal.returns-in-Semicolon
returns-in-Semicolon c =
    let e = front_at c.args.rest.now c.as_bytes-bytes.result.now K.Semicolon c.as_bytes-bytes.ensures.value c.in-len1-up.len_at_least c.in-Semicolon.ensures in
    (L.Semicolon, is_semicolon, e)

pub returns-in-Hash : goal.returns-in-Hash
returns-in-Hash c =
    let e = front_at c.args.rest.now c.as_bytes-bytes.result.now K.Hash c.as_bytes-bytes.ensures.value c.in-len1-up.len_at_least c.in-Hash.ensures in
    let len : prefix_len L.is_in_line c.args.rest.now ≡ c.line_len.result = cc in
    (L.Comment, is_comment, e ∙ ap (λ n. Some (L.Comment, n)) len)

pub returns-in-Return : goal.returns-in-Return
returns-in-Return c =
    let e = front_at c.args.rest.now c.as_bytes-bytes.result.now K.Return c.as_bytes-bytes.ensures.value c.in-len1-up.len_at_least c.in-Return.ensures in
    found_at _ _ _ e (c.return_front.ensures c.args.rest.now)

pub returns-in-Mark : goal.returns-in-Mark
returns-in-Mark c =
    let e = front_at c.args.rest.now c.as_bytes-bytes.result.now (K.Mark c.in-Mark.mark) c.as_bytes-bytes.ensures.value c.in-len1-up.len_at_least c.in-Mark.ensures in
    found_at _ _ _ e (c.mark_front.ensures c.args.rest.now)

pub returns-in_ok-found-in-Word : goal.returns-in_ok-found-in-Word
returns-in_ok-found-in-Word c =
    let e = front_at c.args.rest.now c.as_bytes-bytes.result.now K.Word c.as_bytes-bytes.ensures.value c.in-len1-up.len_at_least c.in-Word.ensures in
    found_at _ _ _ e (c.in_ok-found-in-Word.ensures (take (length c.as_bytes-bytes.result.now - 1) (drop 1 c.as_bytes-bytes.result.now)))
