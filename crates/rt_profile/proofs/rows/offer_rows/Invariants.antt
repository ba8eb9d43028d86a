use Rattle.rt_profile.proofs.Common.{◌≡◌, ℕ, ◌+◌, ◌*◌, ◌≤◌, List, ◌++◌, length, map, flat_map, firsts, row_text, kept_row, kept_lines}
use Rattle.rt_profile.proofs.rows.offer_rows.Given as goal

abbrev pub invariant-rows : goal.invariant-rows
invariant-rows g l = record {
  told : (done : List ℕ) × g.O.Out.offers l.initial.out done l.out × (length done + 2048 * length l.walk ≤ 2048 * 262145)
      × (done ++ flat_map row_text (map (kept_row l.number l.task) (firsts l.task.labels l.before l.walk)) ≡ kept_lines l.number l.task);
}

abbrev pub decreases-rows : goal.decreases-rows
decreases-rows g l = length l.walk
