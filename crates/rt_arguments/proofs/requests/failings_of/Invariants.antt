use Rattle.std.proofs.Common.{◌≡◌, map, take}
use Rattle.rt_arguments.specs.Options as options
use Rattle.rt_arguments.proofs.requests.failings_of.Given as goal

abbrev pub invariant-loop-word : goal.invariant-loop-word
invariant-loop-word l = l.fail_on.items ≡ options.failings_of (map (λ w. w.now) (take l.word-index l.word-items))
