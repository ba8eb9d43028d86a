use Rattle.rt_text.proofs.Common.{◌≡◌, length, text_lines}
use Rattle.rt_text.specs.Reading.{reads}
use Rattle.rt_text.proofs.parsing.parse.Given as goal

-- the lines that are left, read behind those so far, are the lines of the text
abbrev pub invariant-loop-reader : goal.invariant-loop-reader
invariant-loop-reader l = text_lines l.text ≡ reads l.reader l.lines.items

abbrev pub decreases-loop-reader : goal.decreases-loop-reader
decreases-loop-reader l = length l.reader.lines
