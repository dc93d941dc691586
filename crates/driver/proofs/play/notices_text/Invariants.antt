use Rattle.std.proofs.Common.{◌≡◌, ◌++◌, map, drop, string_bytes}
use Rattle.transcript.specs.Texts.{as_text}
use Rattle.driver.specs.Lines.{notice_line}
use Rattle.driver.proofs.play.notices_text.Given as goal

-- what is printed so far and the notices that are left are all
abbrev pub invariant-loop-notice : goal.invariant-loop-notice
invariant-loop-notice l = string_bytes l.out ++ as_text (map notice_line (drop l.notice-index l.notices)) ≡ as_text (map notice_line l.notices)
