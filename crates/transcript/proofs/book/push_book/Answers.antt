use Rattle.std.proofs.Common.{◌≡◌, ◌++◌, ℕ, List, codes, map, subst, sym, ◌∙◌, ap, string_bytes}
use Rattle.std.proofs.lemmas.Result.{on_ok_weaker}
use Rattle.std.specs.List.{flat_map}
use Rattle.json.specs.Print.{quoted}
use Rattle.notebook.specs.declared.parts.Parts.{Parts}
use Rattle.notebook.specs.declared.parts.Section.{Section}
use Rattle.notebook.specs.Book.{cells_of}
use Rattle.notebook.specs.Rules.{cell_number, AreDistinct}
use Rattle.transcript.specs.Texts.{rev_in, section_lines, book_lines, ended_line, as_text}
use Rattle.transcript.proofs.Revisions.{sections_distinct, book_put}
use Rattle.transcript.proofs.book.push_book.Goals as goal

pub push_sections-requires : goal.push_sections-requires
push_sections-requires c =
    subst (λ (ss : List Section). AreDistinct (map cell_number (flat_map cells_of ss))) (sym c.as_slice.ensures)
    (sections_distinct c.parts-parts.result.now c.parts-parts.ensures.rules)

pub returns : goal.returns
returns c =
    let before : List ℕ = string_bytes c.args.out.now in
    let out : List ℕ = string_bytes c.push_sections.new.out in
    let revs : List (ℕ × ℕ) = c.args.revs.now in
    let left : List (ℕ × ℕ) = c.take_rev-rev.result.1.now in
    let named = c.in_ok-push_title.ensures ∙ ap (λ (t : List ℕ). before ++ ended_line (codes "notebook " ++ quoted t)) c.as_str.ensures.bytes in
    let printed = λ (put : out ≡ string_bytes c.push_setup.new.out ++ as_text (section_lines (rev_in left) c.as_slice.result.now)).
    subst (λ (n : Parts). out ≡ before ++ as_text (book_lines (rev_in revs) n)) c.parts-parts.ensures.parts
    (book_put c.parts-parts.result.now revs left before _ _ out _ c.parts-parts.ensures.rules c.take_rev-rev.ensures.rev c.take_rev-rev.ensures.left named c.in_ok-push_setup.ensures
    (put ∙ ap (λ (ss : List Section). string_bytes c.push_setup.new.out ++ as_text (section_lines (rev_in left) ss)) c.as_slice.ensures)) in
    on_ok_weaker c.push_sections.result printed c.push_sections.ensures
