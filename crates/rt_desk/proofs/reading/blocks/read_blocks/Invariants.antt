use Rattle.std.specs.Prelude.{◌<◌, ◌≤◌, length}
use Rattle.std.specs.Io.KnownBytes.{Consumes}
use Rattle.rt_desk.proofs.Common.{block_size}
use Rattle.rt_desk.proofs.reading.blocks.read_blocks.Given as goal

abbrev pub invariant-loop : goal.invariant-loop
invariant-loop g l = record {
  room : 0 < length l.block;
  later : block_size ≤ l.next;
  read : Consumes (g.F.Read.remaining l.fn.file) (g.F.Read.remaining l.file) l.bytes.items;
}
