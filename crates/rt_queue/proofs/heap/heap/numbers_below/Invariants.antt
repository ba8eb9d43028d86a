use Rattle.rt_queue.proofs.Common.{◌≡◌, ℕ, ◌<◌, length, get_or}
use Rattle.rt_queue.proofs.heap.heap.numbers_below.Given as goal

-- the numbers so far are those below the next one
abbrev pub invariant-loop-number : goal.invariant-loop-number
invariant-loop-number l = record {
  count : length l.numbers.items ≡ l.number;
  each : (k : ℕ) → k < l.number → get_or l.numbers.items k 0 ≡ k;
}
