use Rattle.rt_programs.proofs.Common.{◌≡◌, ◌^◌, ◌-◌, ◌+◌, ℕ, List, length, min, sym, ap, subst, ◌∙◌, arith, task_set, MachineState, tasks-count, ends-written, SpellsSet, sizes_fit, own-state}
use Rattle.std.proofs.Common.{max}
use Rattle.rt_effects.specs.TraceText.{TaskWords, trace_text}
use Rattle.rt_effects.proofs.WordLemmas.{words-count}
use Rattle.rt_programs.specs.Asked.{IsThere}
use Rattle.rt_programs.specs.Tracing.{TraceMeans}
use Rattle.rt_programs.proofs.TraceLemmas.{same-window}
use Rattle.rt_programs.proofs.trace_ticks.trace.Goals as goal

pub open_set-requires-clause-sizes : goal.open_set-requires-clause-sizes
open_set-requires-clause-sizes g c = sizes_fit c.in_ok-system.system.version c.in_ok-system.system.tasks.items c.in_ok-system.ensures.found.0.tasks_fit

pub write_ticks-requires-clause-count : goal.write_ticks-requires-clause-count
write_ticks-requires-clause-count g c =
    let set = task_set c.in_ok-system.system in
    let begun = c.go_to.ensures.stands set (own-state set 0 c.in_ok-opened.opened.machine c.in_ok-opened.ensures.stands) in
    ap (λ (ws : List TaskWords). length ws) c.in_ok-teller.ensures ∙ words-count set
    ∙ sym (ap (λ (m : MachineState). length m.tasks) begun ∙ tasks-count set c.min-begin.result)

pub write_ticks-requires-clause-before : goal.write_ticks-requires-clause-before
write_ticks-requires-clause-before g c =
    omega (arith, c.go_to.ensures.arrives, c.min-begin.ensures, c.min-end.ensures, c.saturating_add.ensures)

pub returns : goal.returns
returns g c =
    let set = task_set c.in_ok-system.system in
    let o = c.in_ok-opened.ensures in
    let m = c.go_to.new.machine in
    let begun = own-state set c.min-begin.result m (c.go_to.ensures.stands set (own-state set 0 c.in_ok-opened.opened.machine o.stands)) in
    let spells : SpellsSet c.args.bytes.now set = record { valid = c.in_ok-system.ensures.found.0; bytes = c.in_ok-system.ensures.found.1 } in
    let there = subst (λ (k : ℕ). IsThere k c.args.task) (c.count.ensures ∙ sym o.many) c.in_ok-check_task.ensures.there in
    let at : m.tick ≡ min c.args.from (2 ^ 40) = c.go_to.ensures.arrives ∙ c.min-begin.ensures in
    let ends : c.min-end.result ≡ max (min (min (c.args.from + c.args.n) (2 ^ 64 - 1)) (2 ^ 40)) m.tick = omega (arith, c.min-end.ensures, c.saturating_add.ensures, at) in
    let is = same-window set c.args.task c.args.from c.args.n m.tick c.min-end.result at ends in
    ends-written g.S.Sink.seen (TraceMeans c.args.bytes.now c.args.admission c.args.from c.args.n c.args.task) c.args.out.now c.write_ticks.new.out (trace_text set m.tick (c.min-end.result - m.tick) c.args.task)
    c.write_ticks.result c.answer.result c.answer.ensures (set, spells, o.loads, there, is)
    (c.write_ticks.ensures.counts set c.in_ok-teller.ensures begun)
