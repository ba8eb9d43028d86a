-- A line as it is kept: with what it says, if it says something.
use Rattle.std.specs.Prelude.{[], Option, Some, None}
use Rattle.rt_text.specs.Line.{SourceLine}

-- the line that says this
abbrev pub line_saying : Option SourceLine → SourceLine
line_saying None = record { labels = []; statement = None }
line_saying (Some line) = line
