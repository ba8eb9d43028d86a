use Rattle.rt_profile.proofs.Common.{◌≡◌, ℕ, ◌*◌, ◌≤◌, List, ◌++◌, length, drop, flat_map, tick_limit, need_text, kept_needs_from, kept_need_lines}
use Rattle.rt_profile.proofs.needs_text.offer_needs.Given as goal

abbrev pub invariant-loop-bracket : goal.invariant-loop-bracket
invariant-loop-bracket g l = record {
  sum : l.within ≤ tick_limit * l.bracket;
  told : (done : List ℕ) × g.O.Out.offers l.initial.out done l.out × (length done ≤ 160 * l.bracket)
      × (done ++ flat_map need_text (kept_needs_from l.number l.bracket l.within (drop l.bracket l.needs.counts)) ≡ kept_need_lines l.number l.needs);
}
