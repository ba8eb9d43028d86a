use Rattle.std.proofs.Common.{Ok, sym, ap, subst, ◌∙◌}
use Rattle.rt_image.specs.SystemFile.{task_set}
use Rattle.rt_command.specs.declared.command.Command.{Command}
use Rattle.rt_walk.specs.Position.{stand_of}
use Rattle.rt_debug.specs.declared.reply.reply.Stopped.{Stopped}
use Rattle.rt_debug.specs.StopSlots.{meets_of}
use Rattle.rt_debug.specs.Stopping.{stopping}
use Rattle.rt_debug.specs.FirstStop.{stands_at}
use Rattle.rt_debug.specs.Looking.{tick_reply}
use Rattle.rt_debug.specs.Session.{Continues, Executes}
use Rattle.rt_debug.proofs.session.Session.act.Goals as goal

pub returns-in-Continue-clause-executes : goal.returns-in-Continue-clause-executes
returns-in-Continue-clause-executes g c =
    let meets = meets_of (λ b. (goal.Stop-dyn g (b.vtable, b.value)).meets b.value) in
    let old = c.args.self.now in
    let stops = stopping old.stops.slots.items old.events in
    let shown = c.seek-met.new.walk.shown.machine in
    let went = subst (λ slots. Continues (stands_at meets (stopping slots old.events) (stand_of old.walk.shown)) old.walk c.in-Continue.n c.seek-met.result c.seek-met.new.walk) c.mark_anew.ensures c.seek-met.ensures in
    subst (λ (command : Command). Executes meets (task_set old.system.now) old.walk stops command (Ok c.told-in-Continue.result) c.seek-met.new.walk (stopping c.mark_anew.new.self.slots.items old.events)) (sym c.in-Continue.is)
    (c.seek-met.result, went, ap (λ slots. stopping slots old.events) c.mark_anew.ensures, ap Ok (c.told-in-Continue.ensures ∙ ap (λ (s : Stopped). tick_reply s shown) c.unwrap_or.ensures))
