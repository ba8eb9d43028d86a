use Rattle.std.proofs.Common.{ℕ, Option, sym, subst, ◌∙◌}
use Rattle.std.specs.Option.{option_map}
use Rattle.rt_walk.specs.Position.{stand_of}
use Rattle.rt_debug.specs.declared.reply.reply.Stopped.TheVariants.{At}
use Rattle.rt_debug.specs.FirstStop.{stands_at}
use Rattle.rt_debug.specs.StopSlots.{meets_of}
use Rattle.rt_debug.specs.Stopping.{stopping}
use Rattle.rt_debug.specs.Session.{Continues}
use Rattle.rt_debug.proofs.WatchLemmas.{continues_alone}
use Rattle.rt_debug.proofs.session.seek.Goals as goal

pub returns-in-Some : goal.returns-in-Some
returns-in-Some g c =
    let meets = meets_of (λ b. (goal.Stop-dyn g (b.vtable, b.value)).meets b.value) in
    let slots = c.args.stops.now.slots.items in
    let events = c.args.events.now in
    subst (λ (found : Option ℕ). Continues (stands_at meets (stopping slots events) (stand_of c.args.walk.now.shown)) c.args.walk.now c.args.n (option_map At found) c.seek_stop.new.walk) c.in-Some.is
    (continues_alone meets slots events (sym c.is_any.ensures ∙ c.if-is_any.false) c.args.walk.now c.seek_stop.new.walk c.args.n c.seek_stop.result c.seek_stop.ensures)

pub returns-in-None : goal.returns-in-None
returns-in-None g c =
    let meets = meets_of (λ b. (goal.Stop-dyn g (b.vtable, b.value)).meets b.value) in
    let slots = c.args.stops.now.slots.items in
    let events = c.args.events.now in
    subst (λ (found : Option ℕ). Continues (stands_at meets (stopping slots events) (stand_of c.args.walk.now.shown)) c.args.walk.now c.args.n (option_map At found) c.seek_stop.new.walk) c.in-None.is
    (continues_alone meets slots events (sym c.is_any.ensures ∙ c.if-is_any.false) c.args.walk.now c.seek_stop.new.walk c.args.n c.seek_stop.result c.seek_stop.ensures)
