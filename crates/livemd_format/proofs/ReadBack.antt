-- What is written is read as the tidy notebook, without notices.
use Rattle.std.proofs.Common.{◌≡◌, [], sym, ap, ◌∙◌}
use Rattle.notebook.specs.declared.parts.Parts.{Parts}
use Rattle.notebook.specs.Rules.{IsNotebook}
use Rattle.livemd_format.specs.Made.{notebook_of, notices_of}
use Rattle.livemd_format.specs.Reads.{Reads, items_of}
use Rattle.livemd_format.specs.RoundTrip.{AreTexts, IsPlain, ReadsBack}
use Rattle.livemd_format.specs.Tidy.{tidied}
use Rattle.livemd_format.specs.Write.{text_of}
use Rattle.livemd_format.proofs.BookLines.{book_items_of}
use Rattle.livemd_format.proofs.Books.{book_gives, book_items}
use Rattle.livemd_format.proofs.Drafting.{book_notebook, book_notices}
use Rattle.livemd_format.proofs.Tidiness.{IsTidyBook}
use Rattle.livemd_format.proofs.TidyBooks.{tidied_is_tidy}

-- a notebook in tidy form is read as it was written
pub reads_tidy : (n : Parts) → IsTidyBook n → Reads (text_of n) n []
reads_tidy n h =
    let g = book_gives n h in
    let is : items_of (text_of n) ≡ book_items n g.0 = book_items_of n h ∙ g.1 in
    record { notebook = book_notebook n g.0 h ∙ ap notebook_of (sym is); notes = book_notices n g.0 h ∙ ap notices_of (sym is) }

pub reads-back : (n : Parts) → IsNotebook n → AreTexts n → IsPlain n → ReadsBack n
reads-back n r h p = reads_tidy (tidied n) (tidied_is_tidy n r h p)
