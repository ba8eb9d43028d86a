use Rattle.std.proofs.Common.{◌≡◌, ◌+◌, ◌≤◌, length}
use Rattle.rt_set.specs.SetFile.{set_lines}
use Rattle.rt_set.specs.SetLines.{read_from, finished, set_of}
use Rattle.rt_set.specs.Working.Drafts.{draft_of}
use Rattle.rt_set.proofs.reading.read_lines.Given as goal

-- the lines that are left, read behind those so far, are the lines of the text
abbrev pub invariant-loop-rest : goal.invariant-loop-rest
invariant-loop-rest l = record {
  counted : l.number + length l.rest ≤ length l.text + 1;
  same : set_of l.text ≡ finished (l.number + length (set_lines l.rest)) (read_from l.number (draft_of l.draft) (set_lines l.rest));
}

abbrev pub decreases-loop-rest : goal.decreases-loop-rest
decreases-loop-rest l = length l.rest
