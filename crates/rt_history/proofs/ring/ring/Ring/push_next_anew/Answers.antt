use Rattle.circular_buffer.specs.Buffer.{keep_last}
use Rattle.rt_history.proofs.Common.{Attempt, Next}
use Rattle.rt_history.specs.declared.record.Entry.TheVariants.{Busy}
use Rattle.rt_history.proofs.ring.PushedLemmas.{pushed-busy, held-with-room, held-twice}
use Rattle.rt_history.proofs.ring.ring.Ring.push_next_anew.Goals as goal

pub returns-clause-exact : goal.returns-clause-exact
returns-clause-exact c =
    let rec : Attempt = record { task = c.args.task; pc = c.args.pc; word = c.args.word; outcome = Next } in
    let n = c.self.inside.capacity in
    let items = c.self.inside.entries.items in
    rw (rw (c.truncate_front.ensures, c.next_at.ensures) at c.push_back.ensures.items)
    (held-with-room n c.self.inside.entries.capacity (keep_last n items) _ (Busy c.args.t rec) c.args.self.now c.self.invariant.0 c.self.invariant.1
    (held-twice n items c.args.self.now c.self.view_is) (pushed-busy (keep_last n items) c.args.t rec))
