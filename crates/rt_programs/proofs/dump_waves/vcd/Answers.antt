use Rattle.rt_programs.proofs.Common.{◌≡◌, ◌-◌, ◌^◌, ℕ, List, length, min, refl, sym, ap, ◌∙◌, arith, length-map, Task, set_task, set_tasks, task_set, ends-written, sizes_fit}
use Rattle.rt_waves.specs.WavesText.{waves_text}
use Rattle.rt_programs.specs.Waving.{WavesMean}
use Rattle.rt_programs.proofs.dump_waves.vcd.Goals as goal

pub open_set-requires-clause-sizes : goal.open_set-requires-clause-sizes
open_set-requires-clause-sizes g c = sizes_fit c.in_ok-system.system.version c.in_ok-system.system.tasks.items c.in_ok-system.ensures.found.0.tasks_fit

pub write_waves-requires-clause-count : goal.write_waves-requires-clause-count
write_waves-requires-clause-count g c =
    omega (arith, length-map c.in_ok-system.system.tasks.items set_task, c.in_ok-waves.ensures.count, c.deref-3.ensures.len, c.in_ok-opened.ensures.many)

pub returns : goal.returns
returns g c =
    let set = task_set c.in_ok-system.system in
    let o = c.in_ok-opened.ensures in
    let first = c.min-first.result in
    let few = c.min.result in
    let items : c.deref-3.result.now ≡ c.in_ok-system.system.tasks.items = c.deref-3.ensures.value in
    let count : length set.tasks ≡ length c.in_ok-waves.waves.tasks =
    omega (arith, length-map c.in_ok-system.system.tasks.items set_task, c.in_ok-waves.ensures.count, ap (λ (ts : List Task). length ts) items) in
    let stands = c.in_ok-waves.ensures.stands set (ap set_tasks (sym items)) in
    let begun : waves_text c.args.scale set first few ≡ waves_text c.args.scale set (min c.args.from (2 ^ 40)) few = ap (λ (t : ℕ). waves_text c.args.scale set t few) c.min-first.ensures in
    let ends : few ≡ min c.args.n (2 ^ 40 - min c.args.from (2 ^ 40)) = c.min.ensures ∙ ap (λ (t : ℕ). min c.args.n (2 ^ 40 - t)) c.min-first.ensures in
    let is = begun ∙ ap (λ (k : ℕ). waves_text c.args.scale set (min c.args.from (2 ^ 40)) k) ends in
    ends-written g.S.Sink.seen (WavesMean c.args.bytes.now c.args.admission c.args.from c.args.n c.args.scale) c.args.out.now c.write_waves.new.out (waves_text c.args.scale set first few)
    c.write_waves.result c.answer.result c.answer.ensures (set, record { valid = c.in_ok-system.ensures.found.0; bytes = c.in_ok-system.ensures.found.1 }, o.loads, is)
    (c.write_waves.ensures.told set first few refl count c.in_ok-names.ensures o.stands stands)
