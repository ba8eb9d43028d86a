use Rattle.rt_profile.proofs.Common.{length, ◌-◌, ◌≡◌, ℕ, ◌<◌, ◌≤◌, get_or}
use Rattle.rt_profile.proofs.walk.first_with_ticks.Given as goal

abbrev pub invariant-words : goal.invariant-words
invariant-words l = record {
  from : l.at ≤ l.word;
  within : l.word ≤ length l.words;
  none : (k : ℕ) → l.at ≤ k → k < l.word → get_or l.words k 0 ≡ 0;
}

abbrev pub decreases-words : goal.decreases-words
decreases-words l = length l.words - l.word
