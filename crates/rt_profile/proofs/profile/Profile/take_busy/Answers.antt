use Rattle.rt_profile.proofs.Common.{◌≡◌, ◌+◌, ◌<◌, List, length, slice_set, sym, ap, subst, ◌∙◌, arith, tick_limit, ProfileState, TaskCounts, counted_at}
use Rattle.rt_profile.proofs.SoundLemmas.{sound_more, counted_at-is}
use Rattle.rt_profile.proofs.profile.Profile.take_busy.Goals as goal

pub invariant_of-self : goal.invariant_of-self
invariant_of-self c =
    let xs = c.self.inside.tasks.items in
    let r = c.args.attempt.now in
    let tick : c.self.inside.clock ≡ c.args.self.now.tick = ap (λ (p : ProfileState). p.tick) c.self.view_is in
    let tasks : length xs ≡ length c.args.self.now.tasks = ap (λ (p : ProfileState). length p.tasks) c.self.view_is in
    let below : r.task < length xs = omega (arith, c.requires.task) in
    let early : c.self.inside.clock < tick_limit = omega (arith, c.requires.limit) in
    rw c.take.ensures (sound_more c.self.inside.clock c.self.inside.idle r.task r xs c.index_mut.result.now c.self.invariant early below c.index_mut.ensures.value)

pub returns : goal.returns
returns c =
    let xs = c.self.inside.tasks.items in
    let r = c.args.attempt.now in
    let t = c.self.inside.clock in
    let tasks : length xs ≡ length c.args.self.now.tasks = ap (λ (p : ProfileState). length p.tasks) c.self.view_is in
    let below : r.task < length xs = omega (arith, c.requires.task) in
    let new : ProfileState = record { tick = t + 1; idle = c.self.inside.idle; tasks = slice_set xs r.task c.take.new.self } in
    let P : ProfileState → Type 0 = λ p. new ≡ record { tick = p.tick + 1; idle = p.idle; tasks = counted_at r p.tasks r.task } in
    subst P c.self.view_is
    (ap (λ (ys : List TaskCounts). record { tick = t + 1; idle = c.self.inside.idle; tasks = ys })
    (ap (slice_set xs r.task) c.take.ensures ∙ sym (counted_at-is r.task r xs c.index_mut.result.now below c.index_mut.ensures.value)))
