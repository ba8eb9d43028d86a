use Rattle.rt_trace.proofs.Common.{◌≡◌, ◌+◌, length, take, length-take-le, arith, Placed}
use Rattle.std.proofs.Common.{take-take}
use Rattle.std.proofs.lemmas.Simd.{take_more_put_chunk, length-put_chunk}
use Rattle.rt_trace.proofs.Places.{Placed-front}
use Rattle.rt_trace.proofs.placing.place_front.Goals as goal

pub returns : goal.returns
returns g c =
    let text = c.args.text.now in
    let front = take g.row.N text in
    let long : length front ≡ g.row.N = length-take-le g.row.N text c.requires.long in
    let whole : Placed c.args.bytes.now _ c.args.at front (c.args.at + g.row.N) = record {
      bytes = take_more_put_chunk c.args.at c.args.bytes.now front _ (omega arith) c.requires.room;
      moved = omega arith;
      same = length-put_chunk c.args.at c.args.bytes.now front;
    } in
    let count = Placed-front c.args.count (omega arith) (omega arith) whole in
    rw (take-take c.args.count g.row.N text c.requires.count) at count
