use Rattle.std.proofs.Common.{rules, ◌≡◌, [], ◌∷◌, string_bytes, slice_index_or, ap, ◌∙◌, codes}
use Rattle.driver.proofs.AnswerLaws.{two}
use Rattle.driver.proofs.top.format_word.Goals as goal

pub returns-in-len2 : goal.returns-in-len2
returns-in-len2 c =
    let a : string_bytes (slice_index_or c.args.words.now 0 c.mode-item.result) ≡ codes "format" = search rules in
    let b : string_bytes (slice_index_or c.args.words.now 1 c.book-item.result) ≡ c.as_str-in-len2.result.now = search rules in
    two string_bytes c.mode-item.result c.book-item.result c.args.words.now c.in-len2.len_at_least c.in-len2.len_below
    ∙ (ap (λ x. x ∷ string_bytes (slice_index_or c.args.words.now 1 c.book-item.result) ∷ []) a
    ∙ ap (λ x. codes "format" ∷ x ∷ []) b)
