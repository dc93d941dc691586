use Rattle.std.proofs.Common.{drop, string_bytes}
use Rattle.transcript.proofs.Revisions.{SectionsStand}
use Rattle.transcript.proofs.book.push_sections.Given as goal

abbrev pub invariant-loop-section : goal.invariant-loop-section
invariant-loop-section l = SectionsStand l.sections (drop l.section-index l.sections) l.revs l.left (string_bytes l.fn.out) (string_bytes l.out)
