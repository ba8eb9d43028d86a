use Rattle.rt_accounts.proofs.Common.{ℕ, sym, subst, ◌∙◌}
use Rattle.std.proofs.Common.{zero-add}
use Rattle.rt_sink.specs.Sink.{TookFirst}
use Rattle.rt_accounts.proofs.list_jobs.end_lines.Goals as goal

pub returns-in-Ok-clause-ends : goal.returns-in-Ok-clause-ends
returns-in-Ok-clause-ends g c = λ set stands told named.
    let on = c.offer_lines.ensures.offers set stands told named in
    let offered = rw c.requires.unwritten at on.offered in
    (on.more, on.grown, c.end.ensures c.args.lines.now.writer.sink.now on.more c.requires.is_open offered)

pub returns-in-Err-clause-ends : goal.returns-in-Err-clause-ends
returns-in-Err-clause-ends g c = λ set stands told named.
    let on = c.offer_lines.ensures.offers set stands told named in
    let new = c.offer_lines.new.lines.writer in
    let offered = rw c.requires.unwritten at on.offered in
    let stop = offered.stopped c.requires.is_open (c.in-Err.ensures.stops set stands told named) in (
      on.more,
      on.grown,
      subst (λ (n : ℕ). TookFirst g.S.Sink.seen c.args.lines.now.writer.sink.now on.more n new.sink.now) (sym (stop.1 ∙ zero-add stop.0)) stop.2,
    )
