use Rattle.rt_remote.proofs.Common.{Option, sym, ap, subst, ◌∙◌, option_map}
use Rattle.rt_history.specs.declared.record.Entry.{Entry}
use Rattle.rt_history.specs.declared.record.Record.TheVariants as records
use Rattle.rt_core.specs.declared.view.Next.{Next}
use Rattle.rt_walk.specs.declared.events.Happening.{Happening}
use Rattle.rt_walk.specs.Position.{stand_of}
use Rattle.rt_walk.specs.Met.{ahead_at, Meets}
use Rattle.rt_remote.specs.stops.Ahead.{happened}
use Rattle.rt_remote.specs.stops.Backward.{behind_back}
use Rattle.rt_remote.proofs.stops.asked.event_behind.Goals as goal

pub returns-in-Run : goal.returns-in-Run
returns-in-Run g c = λ m _.
    let way = c.args.way.now in
    let after = stand_of c.args.place.now in
    subst (λ (e : Entry). Meets (behind_back way) m e after c.happened-in-Run.result) (sym c.in-Idle.is)
    (λ before.
    ap (λ (next : Next). ahead_at (λ task pc k. behind_back way before records.Idle after) after.machine next) (sym c.next.ensures ∙ c.in-Run.is)
    ∙ ap (λ (o : Option Happening). option_map happened o) (c.happens_idle.ensures before) ∙ sym c.happened-in-Run.ensures)

pub returns-in-Busy : goal.returns-in-Busy
returns-in-Busy g c = λ m noted.
    subst (λ (e : Entry). Meets (behind_back c.args.way.now) m e (stand_of c.args.place.now) c.happened.result) (sym c.in-Busy.is)
    (ap (λ (o : Option Happening). option_map happened o) (c.happens_behind.ensures m noted) ∙ sym c.happened.ensures)
