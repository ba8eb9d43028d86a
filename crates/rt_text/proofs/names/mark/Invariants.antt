use Rattle.rt_text.proofs.Common.{◌≡◌, ◌<◌, ◌^◌, drop}
use Rattle.rt_text.specs.Working.Rows.{mark_sum}
use Rattle.rt_text.proofs.names.mark.Given as goal

-- the bytes that are left go on from the sum of those before
abbrev pub invariant-loop-byte : goal.invariant-loop-byte
invariant-loop-byte l = record {
  goes_on : mark_sum l.sum (drop l.byte-index l.name) ≡ mark_sum 0 l.name;
  small : l.sum < 2 ^ 32;
}
