use Rattle.std.proofs.Common.{◌≡◌, ◌≤◌, ◌-◌, false, length, take}
use Rattle.std.specs.Io.KnownBytes.{Appends}
use Rattle.rt_sink.proofs.sink.put_bytes.Given as goal

abbrev pub invariant-loop-done : goal.invariant-loop-done
invariant-loop-done g l = record {
  bound : l.done ≤ length l.bytes;
  is_open : (g.S.Sink.seen l.sink).failed ≡ false;
  took : Appends (g.S.Sink.seen l.initial.sink).contents (g.S.Sink.seen l.sink).contents (take l.done l.bytes);
}

abbrev pub decreases-loop-done : goal.decreases-loop-done
decreases-loop-done g l = length l.bytes - l.done
