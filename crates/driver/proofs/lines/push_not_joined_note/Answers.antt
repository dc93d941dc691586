use Rattle.std.proofs.Common.{◌++◌, ap, ◌∙◌, append_assoc, string_bytes, codes}
use Rattle.driver.proofs.lines.push_not_joined_note.Goals as goal

pub returns : goal.returns
returns c =
    c.in_ok-push_plain.ensures
    ∙ (ap (λ x. x ++ codes ": refused NotJoined") c.in_ok-push_word_of.ensures
    ∙ (append_assoc (string_bytes c.args.out.now) (c.args.name.now ++ (codes " " ++ c.args.word.now)) (codes ": refused NotJoined") ∙ ap (λ x. string_bytes c.args.out.now ++ x) (append_assoc c.args.name.now (codes " " ++ c.args.word.now) (codes ": refused NotJoined"))))
