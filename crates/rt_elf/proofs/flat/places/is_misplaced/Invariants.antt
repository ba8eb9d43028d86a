use Rattle.rt_elf.proofs.Common.{◌≡◌, ◌||◌, ◌&&◌, not, true, false, length, name_lines, is_misplaced}
use Rattle.rt_elf.specs.flat.Misplaced.{some_lie}
use Rattle.rt_elf.proofs.flat.places.is_misplaced.Given as goal

-- no symbol so far lies inside
abbrev pub invariant-loop-rest : goal.invariant-loop-rest
invariant-loop-rest l = is_misplaced l.size l.text ≡ ((l.is_outside || some_lie l.size false (name_lines l.rest)) && not (some_lie l.size true (name_lines l.rest)))

abbrev pub decreases-loop-rest : goal.decreases-loop-rest
decreases-loop-rest l = length l.rest
