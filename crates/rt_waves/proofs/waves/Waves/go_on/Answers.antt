use Rattle.rt_waves.proofs.Common.{◌≡◌, ◌+◌, ◌<◌, ℕ, List, length, slice_get, slice_set, Option, Some, refl, sym, ap, subst, ◌∙◌, arith, option_map_or, slice_get_read, tick_limit, TaskStanding, WavesState, gone_on, gone_at, length-set}
use Rattle.std.proofs.lemmas.List.Elements.{All-get_or}
use Rattle.std.proofs.lemmas.List.{get_or-set_same}
use Rattle.rt_waves.specs.Working.Going.{IsGoing}
use Rattle.rt_waves.proofs.SoundLemmas.{Bounded, sound-gone}
use Rattle.rt_waves.proofs.NewLemmas.{gone-bounded}
use Rattle.rt_waves.proofs.waves.Waves.go_on.Goals as goal

pub invariant_of-self : goal.invariant_of-self
invariant_of-self c =
    let t = c.self.inside.clock in
    let xs = c.self.inside.tasks.items in
    let i = c.args.attempt.now.task in
    let x = c.index_mut-task.result.now in
    let tasks : length xs ≡ length c.args.self.now.tasks = ap (λ (w : WavesState). length w.tasks) c.self.view_is in
    let tick : t ≡ c.args.self.now.tick = ap (λ (w : WavesState). w.tick) c.self.view_is in
    let below : i < length xs = omega (arith, c.requires.task) in
    let early : t < tick_limit = omega (arith, c.requires.limit) in
    let bounded : Bounded t x = subst (Bounded t) (sym c.index_mut-task.ensures.value) (All-get_or (Bounded t) xs i x below c.self.invariant.0.tasks) in
    let after : Bounded (t + 1) c.go_on.new.self = subst (Bounded (t + 1)) (sym c.go_on.ensures) (gone-bounded t c.args.attempt.now.outcome c.args.place x bounded) in
    let sound = sound-gone t c.self.inside.next_wake c.wake_tick.result _ c.self.inside.unsettled _ c.self.inside.last xs i c.go_on.new.self c.self.invariant.0 early below after
    c.wake_tick.ensures c.min-self-inside.ensures c.are_unsettled-self-inside.ensures in (
      sound,
      λ k is.
          let going = c.going_if-self-inside.ensures k is in
          let on = c.goes_on-is_going.ensures in
          let begun = on.begun going.0 in
          record {
            begun = omega (arith, begun);
            busy = on.busy going.0;
            calm = on.calm going.0;
            ran = ap (λ (n : ℕ). Some n) going.1;
            task = λ y there.
                let found : Some c.go_on.new.self ≡ Some y = sym (slice_get_read (slice_set xs i c.go_on.new.self) _ i _ refl (omega (arith, below, length-set xs i c.go_on.new.self)) (sym (get_or-set_same xs i c.go_on.new.self _ below))) ∙ ap (slice_get (slice_set xs i c.go_on.new.self)) going.1 ∙ there in
                let same : c.go_on.new.self ≡ y = cc in
                subst IsGoing same (on.going going.0);
          },
    )

pub returns : goal.returns
returns c =
    let t = c.self.inside.clock in
    let xs = c.self.inside.tasks.items in
    let i = c.args.attempt.now.task in
    let x = c.index_mut-task.result.now in
    let tasks : length xs ≡ length c.args.self.now.tasks = ap (λ (w : WavesState). length w.tasks) c.self.view_is in
    let below : i < length xs = omega (arith, c.requires.task) in
    let there : slice_get xs i ≡ Some x = slice_get_read xs (length xs) i x refl below c.index_mut-task.ensures.value in
    let new : WavesState = record { from = c.self.inside.from; tick = t + 1; idle = c.self.inside.idle; tasks = slice_set xs i c.go_on.new.self } in
    let P : WavesState → Type 0 = λ w. new ≡ record { from = w.from; tick = w.tick + 1; idle = w.idle; tasks = gone_at w.tick c.args.attempt.now c.args.place w.tasks } in
    subst P c.self.view_is
    (ap (λ (ys : List TaskStanding). record { from = c.self.inside.from; tick = t + 1; idle = c.self.inside.idle; tasks = ys })
    (ap (slice_set xs i) c.go_on.ensures
    ∙ sym (ap (λ (f : Option TaskStanding). option_map_or (λ y. slice_set xs i (gone_on t c.args.attempt.now.outcome c.args.place y)) f xs) there)))
