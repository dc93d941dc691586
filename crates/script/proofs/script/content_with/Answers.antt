use Rattle.std.proofs.Common.{◌≡◌}
use Rattle.std.specs.Str.{chars}
use Rattle.script.specs.Words.{first_word, after_word}
use Rattle.script.specs.Line.{client_of}
use Rattle.script.specs.Next.{IsNextLine, names_with}
use Rattle.script.proofs.Following.{next-made}
use Rattle.script.proofs.script.content_with.Goals as goal

pub returns : goal.returns
returns c =
    let is : IsNextLine c.args.content.names (first_word c.args.text.now) (after_word c.args.text.now) c.in-Some.line = rw (c.in-Some.is, c.as_slice.ensures, c.split_word.ensures.word, c.split_word.ensures.rest) at c.in_ok-line.ensures in
    let named : c.in_ok-names.names ≡ names_with c.args.content.names (client_of c.in-Some.line) (chars (first_word (after_word c.args.text.now))) = rw (c.client.ensures, c.split_word.ensures.rest) at c.in_ok-names.ensures in
    next-made c.args.content _ (first_word c.args.text.now) (after_word c.args.text.now) c.in-Some.line is c.in_ok-push.ensures.ok named
