use Rattle.rt_waves.proofs.Common.{◌≡◌, ◌<◌, ℕ, List, length, Option, Some, All, slice_get, sym, ap, subst, ◌∙◌, arith, TaskStanding, WavesState, visited_all, WakesFrom, IsSoundWaves}
use Rattle.std.proofs.Common.{rules, IfSome, leb}
use Rattle.std.proofs.lemmas.Bool.{leb-false}
use Rattle.std.proofs.lemmas.List.{with_items_is, places}
use Rattle.rt_waves.specs.Working.Visiting.{runs, Stays}
use Rattle.rt_waves.proofs.SoundLemmas.{stays-but, sound-visited}
use Rattle.rt_waves.proofs.waves.Waves.put_tasks.Goals as goal

pub visit_due-self-inside-requires-clause-quiet : goal.visit_due-self-inside-requires-clause-quiet
visit_due-self-inside-requires-clause-quiet c = λ part. λ i x there not_last not_now.
    let t = c.self.inside.clock in
    let r = c.args.moment.now.of in
    let at : c.args.moment.now.tick ≡ t = c.requires.now ∙ ap (λ (w : WavesState). w.tick) (sym c.self.view_is) in
    let calm = c.may_all_change-is_all.ensures part in
    let early : t < c.self.inside.next_wake = leb-false c.self.inside.next_wake t calm.1 in
    let here = subst (λ (ys : List TaskStanding). slice_get ys i ≡ Some x) c.deref_mut.ensures.value there in
    subst (λ (u : ℕ). Stays u r i x) (sym at)
    (stays-but t c.self.inside.next_wake c.self.inside.unsettled c.self.inside.last r c.self.inside.tasks.items c.self.invariant.0 calm.0 early i x here not_last not_now)

pub invariant_of-self : goal.invariant_of-self
invariant_of-self c =
    let t = c.self.inside.clock in
    let r = c.args.moment.now.of in
    let xs = c.self.inside.tasks.items in
    let v = c.visit_due-self-inside in
    let at : c.args.moment.now.tick ≡ t = c.requires.now ∙ ap (λ (w : WavesState). w.tick) (sym c.self.view_is) in
    let e : v.new.tasks ≡ visited_all t r xs =
    v.ensures.visited ∙ ap (λ (u : ℕ). visited_all u r c.deref_mut.result.now) at ∙ ap (visited_all t r) c.deref_mut.ensures.value in
    let tasks : length c.args.self.now.tasks ≡ length xs = ap (λ (w : WavesState). length w.tasks) (sym c.self.view_is) in
    let below : (i : ℕ) → runs r ≡ Some i → i < length xs = λ i is. let b : i < length c.args.self.now.tasks = subst (λ (o : Option ℕ). IfSome o (λ k. k < length c.args.self.now.tasks)) is c.requires.runs in omega (arith, b, tasks) in
    let sound = sound-visited t c.self.inside.next_wake v.result c.self.inside.unsettled c.self.inside.last r xs (leb c.self.inside.next_wake t) c.self.invariant.0
    (subst (All (WakesFrom v.result)) e v.ensures.wakes) (λ is. leb-false c.self.inside.next_wake t is) below in
    rw (with_items_is c.self.inside.tasks v.new.tasks (search (rules, places))) (
      subst (λ (ys : List TaskStanding). IsSoundWaves t v.result (leb c.self.inside.next_wake t) c.running-self-inside.result ys) (sym e)
          (subst (λ (o : Option ℕ). IsSoundWaves t v.result (leb c.self.inside.next_wake t) o (visited_all t r xs)) (sym c.running-self-inside.ensures) sound),
      λ i is. absurd cc,
    )
