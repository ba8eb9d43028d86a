use Rattle.std.proofs.Common.{rules, false}
use Rattle.std.proofs.lemmas.Fmt.{hex_byte}
use Rattle.rt_fault_lines.proofs.shown.shown.LetterDisplay.fmt.Goals as goal

pub returns-then-not-letter-clause-writes : goal.returns-then-not-letter-clause-writes
returns-then-not-letter-clause-writes g c = search (rules, hex_byte false)
