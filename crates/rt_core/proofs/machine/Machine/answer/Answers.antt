use Rattle.rt_core.proofs.Common.{◌≡◌, ◌+◌, ◌≤◌, ℕ, true, List, Option, map, slice_get, slice_set, Some, refl, sym, ap, subst, ◌∙◌, arith, IsLeast, a0, reserves, after, TaskState, deadline, MachineState, reserved_of, grants, ran_at, wake_at}
use Rattle.rt_admit.specs.Reservation.{is_granted}
use Rattle.rt_history.proofs.Granting.{grant-of}
use Rattle.rt_core.proofs.MachineLemmas.{IsTask, slice_get-at, below_of, can_run, tied-set}
use Rattle.rt_core.proofs.ReserveLemmas.{timers-stay, asking-left, answered-of, answered-record, answered-tasks}
use Rattle.rt_core.proofs.machine.Machine.answer.Goals as goal

pub answer-requires-clause-room : goal.answer-requires-clause-room
answer-requires-clause-room g c =
    let xs = c.self.inside.tasks.items in
    let x = c.index_mut-task.result.now in
    let m : MachineState = record { hyper = c.self.inside.hyper; tick = c.self.inside.clock; tasks = xs } in
    let tasks : xs ≡ c.args.self.now.tasks = ap (λ (m : MachineState). m.tasks) c.self.view_is in
    let least : IsLeast (map deadline xs) (Some c.args.least) = rw tasks c.requires.named in
    let at : IsTask xs c.args.least.1 x = record { below = below_of deadline xs c.args.least.1 c.args.least.0 least.0; here = c.index_mut-task.ensures.value } in
    let there : slice_get xs c.args.least.1 ≡ Some x = slice_get-at xs c.args.least.1 x at in
    (can_run m c.args.least x at least c.self.invariant.sound c.self.invariant.limit).room

pub answer-requires-clause-takeable : goal.answer-requires-clause-takeable
answer-requires-clause-takeable g c = λ granted.
    let xs = c.self.inside.tasks.items in
    let x = c.index_mut-task.result.now in
    let m : MachineState = record { hyper = c.self.inside.hyper; tick = c.self.inside.clock; tasks = xs } in
    let tasks : xs ≡ c.args.self.now.tasks = ap (λ (m : MachineState). m.tasks) c.self.view_is in
    let least : IsLeast (map deadline xs) (Some c.args.least) = rw tasks c.requires.named in
    let at : IsTask xs c.args.least.1 x = record { below = below_of deadline xs c.args.least.1 c.args.least.0 least.0; here = c.index_mut-task.ensures.value } in
    let there : slice_get xs c.args.least.1 ≡ Some x = slice_get-at xs c.args.least.1 x at in
    let about = c.requires.asked x (ap (λ (ys : List TaskState). slice_get ys c.args.least.1) (sym tasks) ∙ there) in
    let by : grants m c.args.least.1 c.args.budget ≡ true =
    ap (λ (ys : List TaskState). is_granted c.self.inside.hyper (map reserved_of ys) c.args.least.1 c.args.budget) (sym c.deref.ensures.value) ∙ sym c.may_reserve-granted.ensures ∙ granted in
    let grant = grant-of m c.args.least.1 c.args.budget x there by in
    subst (λ (b : ℕ). (1 ≤ b) × (b ≤ x.serving.account.p)) about.0 (grant.positive, grant.within)

pub rekey-requires : goal.rekey-requires
rekey-requires g c =
    let xs = c.self.inside.tasks.items in
    let tasks : xs ≡ c.args.self.now.tasks = ap (λ (m : MachineState). m.tasks) c.self.view_is in
    let least : IsLeast (map deadline xs) (Some c.args.least) = rw tasks c.requires.named in
    subst (λ (keys : List (Option ℕ)). IsLeast keys (Some c.args.least)) (sym c.self.invariant.ready) least

pub invariant_of-self : goal.invariant_of-self
invariant_of-self g c =
    let xs = c.self.inside.tasks.items in
    let x = c.index_mut-task.result.now in
    let m : MachineState = record { hyper = c.self.inside.hyper; tick = c.self.inside.clock; tasks = xs } in
    let tasks : xs ≡ c.args.self.now.tasks = ap (λ (m : MachineState). m.tasks) c.self.view_is in
    let least : IsLeast (map deadline xs) (Some c.args.least) = rw tasks c.requires.named in
    let at : IsTask xs c.args.least.1 x = record { below = below_of deadline xs c.args.least.1 c.args.least.0 least.0; here = c.index_mut-task.ensures.value } in
    let there : slice_get xs c.args.least.1 ≡ Some x = slice_get-at xs c.args.least.1 x at in
    let about = c.requires.asked x (ap (λ (ys : List TaskState). slice_get ys c.args.least.1) (sym tasks) ∙ there) in
    let by : c.may_reserve-granted.result ≡ true → grants m c.args.least.1 c.args.budget ≡ true =
    λ granted. ap (λ (ys : List TaskState). is_granted c.self.inside.hyper (map reserved_of ys) c.args.least.1 c.args.budget) (sym c.deref.ensures.value) ∙ sym c.may_reserve-granted.ensures ∙ granted in
    let fits : c.may_reserve-granted.result ≡ true → (1 ≤ a0 x.program) × (a0 x.program ≤ x.serving.account.p) =
    λ granted.
    let grant = grant-of m c.args.least.1 c.args.budget x there (by granted) in
    subst (λ (b : ℕ). (1 ≤ b) × (b ≤ x.serving.account.p)) about.0 (grant.positive, grant.within) in
    let z = c.answer.new.self in
    let it = answered-of c.args.t c.may_reserve-granted.result x z about.1 fits c.answer.ensures.serving in
    let tick : c.self.inside.clock ≡ c.args.t + 1 = ap (λ (m : MachineState). m.tick) c.self.view_is ∙ c.requires.begun in
    let active = (can_run m c.args.least x at least c.self.invariant.sound c.self.invariant.limit).named.active in
    let ready : (g.Q.MinQueue.keys c.rekey.new.ready) ≡ slice_set (g.Q.MinQueue.keys c.self.inside.ready) c.args.least.1 (deadline z) =
    c.rekey.ensures ∙ ap (slice_set (g.Q.MinQueue.keys c.self.inside.ready) c.args.least.1) (ap Some c.deadline-deadline.ensures ∙ sym it.deadline_is) in
    let asleep : (g.Q.MinQueue.keys c.self.inside.timers) ≡ slice_set (g.Q.MinQueue.keys c.self.inside.timers) c.args.least.1 (wake_at z) =
    timers-stay (g.Q.MinQueue.keys c.self.inside.timers) xs c.args.least.1 x z c.self.invariant.asleep there (it.awake ∙ rw active refl) in
    tied-set (g.Q.MinQueue.keys c.self.inside.ready) (g.Q.MinQueue.keys c.self.inside.timers) (g.Q.MinQueue.keys c.rekey.new.ready) (g.Q.MinQueue.keys c.self.inside.timers) c.self.inside.hyper c.self.inside.clock c.self.inside.clock xs c.args.least.1 z c.self.invariant (omega arith) c.self.invariant.limit (rw tick it.sound) ready asleep

pub returns : goal.returns
returns g c = λ old pc word asking.
    let xs = c.self.inside.tasks.items in
    let x = c.index_mut-task.result.now in
    let m : MachineState = record { hyper = c.self.inside.hyper; tick = c.self.inside.clock; tasks = xs } in
    let tasks : xs ≡ c.args.self.now.tasks = ap (λ (m : MachineState). m.tasks) c.self.view_is in
    let least : IsLeast (map deadline xs) (Some c.args.least) = rw tasks c.requires.named in
    let at : IsTask xs c.args.least.1 x = record { below = below_of deadline xs c.args.least.1 c.args.least.0 least.0; here = c.index_mut-task.ensures.value } in
    let there : slice_get xs c.args.least.1 ≡ Some x = slice_get-at xs c.args.least.1 x at in
    let mid = c.args.self.now in
    let z = c.answer.new.self in
    let b = c.may_reserve-granted.result in
    let granted : b ≡ grants mid c.args.least.1 c.args.budget =
    c.may_reserve-granted.ensures ∙ ap (λ (ys : List TaskState). is_granted c.self.inside.hyper (map reserved_of ys) c.args.least.1 c.args.budget) c.deref.ensures.value
    ∙ ap (λ (n : MachineState). grants n c.args.least.1 c.args.budget) c.self.view_is in
    let left : slice_get mid.tasks c.args.least.1 ≡ Some asking.left = asking-left c.args.least.1 pc word c.args.budget old mid asking in
    let is : Some asking.left ≡ Some x = sym left ∙ ap (λ (ys : List TaskState). slice_get ys c.args.least.1) (sym tasks) ∙ there in
    let same : asking.left ≡ x = cc in
    let tick : mid.tick ≡ old.tick + 1 = ap (λ (n : MachineState). n.tick) asking.state in
    let at_tick : c.args.t ≡ old.tick = omega (arith, tick, c.requires.begun) in
    let hyper : mid.hyper ≡ old.hyper = ap (λ (n : MachineState). n.hyper) asking.state in
    let program : z.program ≡ (reserves b asking.left.program).program = c.answer.ensures.program ∙ ap (λ (y : TaskState). (reserves b y.program).program) (sym same) in
    let serving : z.serving ≡ after old.tick (reserves b asking.left.program).outcome asking.left.serving.account =
    c.answer.ensures.serving ∙ ap (λ (y : TaskState). after c.args.t (reserves b y.program).outcome y.serving.account) (sym same)
    ∙ ap (λ (u : ℕ). after u (reserves b asking.left.program).outcome asking.left.serving.account) at_tick in
    let all : slice_set xs c.args.least.1 z ≡ ran_at old =
    ap (λ (ys : List TaskState). slice_set ys c.args.least.1 z) tasks ∙ answered-tasks c.args.least.1 pc word c.args.budget b z old mid asking granted program serving in
    let at_hyper : c.self.inside.hyper ≡ old.hyper = ap (λ (n : MachineState). n.hyper) c.self.view_is ∙ hyper in
    let clock : c.self.inside.clock ≡ old.tick + 1 = ap (λ (n : MachineState). n.tick) c.self.view_is ∙ tick in
    (answered-record c.args.least.1 pc word c.args.budget b old mid asking granted, c.wake_all.ensures ∙ rw (at_hyper, clock, all) refl)
