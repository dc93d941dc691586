use Rattle.std.proofs.Common.{◌≡◌, [], ◌++◌, ap, ◌∙◌, subst}
use Rattle.std.specs.Prelude.{string_bytes}
use Rattle.std.proofs.lemmas.Str.{IsUtf8-string_bytes}
use Rattle.notebook.specs.declared.parts.Parts.{Parts}
use Rattle.notebook.specs.Rules.{IsNotebook}
use Rattle.livemd_format.specs.Reads.{Reads}
use Rattle.livemd_format.specs.RoundTrip.{AreTexts, IsPlain}
use Rattle.livemd_format.specs.Tidy.{tidied}
use Rattle.livemd_format.specs.Write.{blocks, text_of}
use Rattle.livemd_format.proofs.Accepting.{read_is_accepted}
use Rattle.livemd_write.specs.Pages.{blocks_text}
use Rattle.livemd_write.specs.Told.{told}
use Rattle.livemd_write.proofs.Blocks.{page_text}
use Rattle.livemd_write.proofs.Telling.{read_back}
use Rattle.livemd_write.proofs.Tidying.{keeps_rules}
use Rattle.livemd_write.proofs.writer.text.Goals as goal

pub returns : goal.returns
returns c =
    let text : string_bytes c.without_feed.result ≡ text_of (tidied c.args.book.now) = c.without_feed.ensures _ (c.in_ok-push_tidied.ensures.ok ∙ (ap (λ w. w ++ blocks_text (blocks (tidied c.parts.result.now))) c.new-out.ensures.bytes ∙ page_text (tidied c.parts.result.now))) ∙ ap (λ (n : Parts). text_of (tidied n)) c.parts.ensures.parts in
    let rules : IsNotebook c.args.book.now = subst (λ (n : Parts). IsNotebook n) c.parts.ensures.parts c.parts.ensures.rules in
    let reads : IsPlain c.args.book.now → Reads (string_bytes c.without_feed.result) (tidied c.args.book.now) [] =
    read_back c.args.book.now (string_bytes c.without_feed.result) text rules (subst (λ (n : Parts). AreTexts (told n)) c.parts.ensures.parts c.in_ok-push_tidied.ensures.characters) in
    record {
      text = text;
      reads_back = reads;
      accepted = λ plain small. read_is_accepted (string_bytes c.without_feed.result) (tidied c.args.book.now) [] (record { small = small; text = IsUtf8-string_bytes c.without_feed.result }) (keeps_rules c.args.book.now rules) (reads plain);
    }
