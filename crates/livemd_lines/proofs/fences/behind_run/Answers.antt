use Rattle.std.proofs.Common.{◌≡◌, ◌+◌, ◌<◌, ℕ, List, length, subst, ap, ◌∙◌, lit<}
use Rattle.std.specs.Str.Pattern.{FindsCharPrefix, IsTrimStartMatches}
use Rattle.livemd_lines.specs.declared.fences.Mark.{Mark}
use Rattle.livemd_lines.specs.declared.fences.Mark.TheVariants.{Backtick, Tilde}
use Rattle.livemd_lines.specs.Kinds.{after_run, byte_of, is_byte, run}
use Rattle.blanks.proofs.Fronts.{front_and_rest}
use Rattle.blanks.proofs.Trims.{trim_start-is}
use Rattle.livemd_lines.proofs.fences.behind_run.Goals as goal

small : (mark : Mark) → byte_of mark < 128
small Backtick = lit< tt
small Tilde = lit< tt

behind : (mark : Mark) (character : ℕ) (text rest : List ℕ) → character ≡ byte_of mark → IsTrimStartMatches (FindsCharPrefix character) text rest → rest ≡ after_run (byte_of mark) text
behind mark character text rest e h = trim_start-is (byte_of mark) text rest (small mark) (subst (λ c. IsTrimStartMatches (FindsCharPrefix c) text rest) e h)

pub returns-clause-rest : goal.returns-clause-rest
returns-clause-rest c = behind c.args.mark _ _ _ c.character.ensures c.trim_start_matches.ensures.matches

pub returns-clause-count : goal.returns-clause-count
returns-clause-count c =
    ap (λ w. run (byte_of c.args.mark) c.args.text.now + length w) (behind c.args.mark _ _ _ c.character.ensures c.trim_start_matches.ensures.matches)
    ∙ front_and_rest (is_byte (byte_of c.args.mark)) c.args.text.now
