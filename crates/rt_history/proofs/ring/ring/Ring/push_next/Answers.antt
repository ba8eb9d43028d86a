use Rattle.rt_history.proofs.Common.{sym, false, ◌≡◌, Attempt, Next}
use Rattle.std.proofs.Common.{Result, Ok, Err}
use Rattle.std.specs.Prelude.{OnOk, is_err}
use Rattle.rt_history.specs.declared.record.Entry.TheVariants.{Busy}
use Rattle.rt_history.proofs.ring.PushedLemmas.{pushed-busy, held}
use Rattle.rt_history.proofs.ring.ring.Ring.push_next.Goals as goal

taken : {T E P : Type 0} (r : Result T E) → is_err r ≡ false → OnOk r P → P
taken (Ok x) is p = p
taken (Err x) is p = absurd cc

pub returns-else-is_err-clause-exact : goal.returns-else-is_err-clause-exact
returns-else-is_err-clause-exact c =
    let rec : Attempt = record { task = c.args.task; pc = c.args.pc; word = c.args.word; outcome = Next } in
    let items = c.self.inside.entries.items in
    let new = taken c.try_push_back.result (sym c.if-is_err.ensures.value) c.try_push_back.ensures.ok in
    rw (rw c.next_at.ensures at new)
    (held c.self.inside.capacity items _ (Busy c.args.t rec) c.args.self.now c.self.invariant.0 c.self.view_is (pushed-busy items c.args.t rec))
