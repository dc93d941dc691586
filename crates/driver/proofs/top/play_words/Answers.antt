use Rattle.std.proofs.Common.{rules, ◌≡◌, [], ◌∷◌, string_bytes, slice_index_or, ap, ◌∙◌, codes}
use Rattle.driver.proofs.AnswerLaws.{three}
use Rattle.driver.proofs.top.play_words.Goals as goal

pub returns-in-len3-clause-some : goal.returns-in-len3-clause-some
returns-in-len3-clause-some c =
    let a : string_bytes (slice_index_or c.args.words.now 0 c.mode-item.result) ≡ codes "play" = search rules in
    let b : string_bytes (slice_index_or c.args.words.now 1 c.book-item.result) ≡ c.as_str-in-len3.result.now = search rules in
    let d : string_bytes (slice_index_or c.args.words.now 2 c.script-item.result) ≡ c.as_str-in-len3-2.result.now = search rules in
    three string_bytes c.mode-item.result c.book-item.result c.script-item.result c.args.words.now c.in-len3.len_at_least c.in-len3.len_below
    ∙ (ap (λ x. x ∷ string_bytes (slice_index_or c.args.words.now 1 c.book-item.result) ∷ string_bytes (slice_index_or c.args.words.now 2 c.script-item.result) ∷ []) a
    ∙ (ap (λ x. codes "play" ∷ x ∷ string_bytes (slice_index_or c.args.words.now 2 c.script-item.result) ∷ []) b ∙ ap (λ x. codes "play" ∷ c.as_str-in-len3.result.now ∷ x ∷ []) d))
