use Rattle.rt_packet.proofs.Common.{◌≡◌, ◌%◌, take}
use Rattle.std.specs.Prelude.{sum}
use Rattle.rt_packet.proofs.encoding.checksum.Given as goal

abbrev pub invariant-loop-byte : goal.invariant-loop-byte
invariant-loop-byte l = l.total ≡ sum (take l.byte-index l.bytes) % 256
