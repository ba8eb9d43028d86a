use Rattle.rt_perform.proofs.Common.{map}
use Rattle.std.specs.Option.{option_map}
use Rattle.rt_set.specs.Packing.{pack_entry}
use Rattle.rt_perform.proofs.LineLemmas.{unread_at}
use Rattle.rt_perform.proofs.packing.read_tasks.Goals as goal

pub returns-in-Err : goal.returns-in-Err
returns-in-Err g c =
    unread_at (g.D.Desk.files c.args.desk.now) (option_map (λ p. p.now) c.args.made) c.args.lines.now c.loop-line.line-index _
    (map pack_entry c.loop-line.tasks.items) c.in-Err.fault c.loop-line-test.true (c.loop-line.invariant.lines, c.loop-line.invariant.read) c.in-Err.ensures.unread
