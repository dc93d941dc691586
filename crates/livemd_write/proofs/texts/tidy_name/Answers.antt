use Rattle.std.proofs.Common.{map, ap, ◌∙◌}
use Rattle.std.specs.Prelude.{encode_utf8_all}
use Rattle.std.specs.String.{string_bytes}
use Rattle.blanks.specs.Blanks.{drop_end, drop_front, is_space}
use Rattle.livemd_format.specs.Tidy.{clean, tidy_name}
use Rattle.livemd_write.specs.Texts.{space_for}
use Rattle.livemd_write.proofs.Pieces.{name_made, text_made, weaker}
use Rattle.livemd_write.proofs.texts.tidy_name.Goals as goal

pub returns-clause-tidy : goal.returns-clause-tidy
returns-clause-tidy c =
    weaker
    _
    _
    _
    (text_made
    tidy_name
    c.args.text.now
    c.trim_spaces.result.now
    (name_made
    (encode_utf8_all c.args.text.now)
    (string_bytes c.in_ok-text.text)
    (string_bytes c.in_ok-text-2.text)
    (string_bytes c.in_ok-text-3.text)
    c.trim_spaces.result.now
    (c.in_ok-text.ensures ∙ ap clean c.as_str.ensures.bytes)
    (c.in_ok-text-2.ensures ∙ ap (map (space_for 10)) c.as_str-2.ensures.value)
    (c.in_ok-text-3.ensures ∙ ap (map (space_for 13)) c.as_str-3.ensures.value)
    (c.trim_spaces.ensures ∙ ap (λ w. drop_end is_space (drop_front is_space w)) c.as_str-4.ensures.value)))
    c.of.ensures
