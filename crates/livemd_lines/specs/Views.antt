-- The lines that the code's lines stand for.
use Rattle.std.specs.Prelude.{List, map}
use Rattle.livemd_lines.specs.declared.kinds.LineKind.{LineKind}
use Rattle.livemd_lines.specs.declared.kinds.LineKind.TheVariants as line
use Rattle.livemd_lines.specs.declared.kinds.Line.{Line}
use Rattle.livemd_lines.specs.Kinds.{Kind, Opens, Inside, Closes, Meta, Heading1, Heading2, Plain, Kinded}

-- a kind
abbrev pub kind_view : LineKind → Kind
kind_view (line.Opens fence info) = Opens fence info.now
kind_view line.Inside = Inside
kind_view line.Closes = Closes
kind_view (line.Metadata meaning) = Meta meaning
kind_view (line.Heading1 name) = Heading1 name.now
kind_view (line.Heading2 name) = Heading2 name.now
kind_view line.Text = Plain

-- a line with its kind, and all of them
abbrev pub line_view : Line → Kinded
line_view l = record { kind = kind_view l.kind; text = l.text.now }

abbrev pub lines_view : List Line → List Kinded
lines_view ls = map line_view ls
