use Rattle.rt_profile.proofs.Common.{◌≡◌, ℕ, ◌+◌, ◌*◌, ◌≤◌, None, List, ◌++◌, length, executed, kept_at}
use Rattle.rt_profile.specs.CallgrindText.{cost_lines}
use Rattle.rt_profile.proofs.callgrind.offer_addresses.Given as goal

abbrev pub invariant-addresses : goal.invariant-addresses
invariant-addresses g l = record {
  told : (done : List ℕ) × g.O.Out.offers l.initial.out done l.out × (length done + 2048 * length l.walk ≤ 2048 * 262145)
      × (done ++ cost_lines l.task.labels (kept_at l.task) l.before l.walk ≡ cost_lines l.task.labels (kept_at l.task) None (executed l.task));
}

abbrev pub decreases-addresses : goal.decreases-addresses
decreases-addresses g l = length l.walk
