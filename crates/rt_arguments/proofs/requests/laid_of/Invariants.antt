use Rattle.std.proofs.Common.{map, take}
use Rattle.std.specs.List.{AllZip, filter}
use Rattle.rt_arguments.specs.Words.{Lays}
use Rattle.rt_arguments.specs.Options.{lays_any}
use Rattle.rt_arguments.proofs.requests.laid_of.Given as goal

abbrev pub invariant-loop-word : goal.invariant-loop-word
invariant-loop-word l = AllZip Lays (filter lays_any (map (λ w. w.now) (take l.word-index l.word-items))) l.laid.items
