use Rattle.std.proofs.Common.{◌≡◌, ◌++◌, length, ap, ◌∙◌, codes, string_bytes}
use Rattle.transcript.specs.Texts.{as_text, book_lines, rev_in}
use Rattle.session_core.specs.Session.{history_of}
use Rattle.session_core.proofs.Calls.{snapshot-over, told-over}
use Rattle.driver.proofs.Settled.{states-printed}
use Rattle.driver.proofs.Played.{end-printed}
use Rattle.driver.proofs.play.end_of.Goals as goal

pub returns : goal.returns
returns c = λ n0 is.
    let s = c.args.player.now.session in
    end-printed n0 c.args.player.now c.in_ok-snapshot.snapshot (string_bytes c.push_plain.new.out) (string_bytes c.push_book.new.out) (string_bytes c.push_statuses.new.out) (snapshot-over n0 s (length (history_of s)) c.in_ok-snapshot.snapshot is c.in_ok-snapshot.ensures)
    (c.in_ok-push_plain.ensures ∙ ap (λ x. x ++ codes "end\n") c.new-out.ensures.bytes)
    (c.in_ok-push_book.ensures
    ∙ (ap (λ b. string_bytes c.push_plain.new.out ++ as_text (book_lines (rev_in c.revs.result.now) b)) c.book.ensures
    ∙ ap (λ rs. string_bytes c.push_plain.new.out ++ as_text (book_lines (rev_in rs) c.in_ok-snapshot.snapshot.book)) c.revs.ensures.revs))
    (states-printed n0 s c.parts.result.now _ _ is (c.parts.ensures.parts ∙ told-over (λ x. c.book-2.result.now ≡ x.book) n0 s is c.book-2.ensures) c.in_ok-push_statuses.ensures)
