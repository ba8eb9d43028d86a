use Rattle.rt_laws.proofs.Common.{◌≡◌, ℕ, ◌-◌, ◌≤◌, List, All, map, Option, Some, None, refl, subst, sym, ap, ◌∙◌, arith, Params, IsOverloaded, total_weight, Account, Fits, TaskSet, task_params, busy_at, after_ticks, busy_servers, past, HasRoom}
use Rattle.std.proofs.Common.{IsSome, IfSome, IfNone}
use Rattle.rt_laws.proofs.BusyRuns.{one_exceeds}
use Rattle.rt_laws.specs.declared.breach.exceeding.Breach.{Breach}
use Rattle.rt_laws.specs.breach.Breach.{IsFirstBreach}
use Rattle.rt_laws.specs.breach.Working.Exceeding.{IsFirstExceeding}
use Rattle.rt_laws.proofs.breach.Rooms.{all-room}
use Rattle.rt_laws.proofs.breach.Skips.{skipped}
use Rattle.rt_laws.proofs.breach.FirstBreach.{first-breach}
use Rattle.rt_laws.proofs.breach.breaching.breach.Goals as goal

-- what is found of the servers after the hyperperiod, where not all fit
some-of : (r : Option Breach) (P : Type 0) → IfNone r P → (P → ⊥) → IsSome r
some-of None P h never = absurd (never h)
some-of (Some b) P h never = refl

first-of : (r : Option Breach) (h : ℕ) (tasks : List Params) → IfSome r (IsFirstExceeding h (busy_servers tasks h))
    → IfSome r (λ b. (set : TaskSet) → set.hyper ≡ h → task_params set.tasks ≡ tasks → IsFirstBreach (busy_at set h) b)
first-of None h tasks found = tt
first-of (Some b) h tasks found =
    λ set hyper same. first-breach set h b (subst (λ (ts : List Params). IsFirstExceeding h (busy_servers ts h) b) (sym same) found)

-- what was run is where the servers stand after the hyperperiod
reached : (h e w : ℕ) (tasks : List Params) (placed ran : List Account) → IsOverloaded h tasks → total_weight e tasks ≤ h → w ≡ total_weight e tasks
    → placed ≡ map (past e) tasks → ran ≡ after_ticks (h - w) placed → ran ≡ busy_servers tasks h
reached h e w tasks placed ran over within spent at is =
    is ∙ ap (after_ticks (h - w)) at ∙ ap (λ x. after_ticks (h - x) (map (past e) tasks)) spent ∙ skipped h e tasks over within

pub run-requires-clause-room : goal.run-requires-clause-room
run-requires-clause-room c =
    let over : IsOverloaded c.args.hyper c.args.params.now = c.is_overloaded.ensures.0 c.if-not-is_overloaded.false in
    let h = c.args.hyper in
    let e = c.passed_tick-passed.result in
    let n = h - c.spent_up_to.result in
    subst (All (HasRoom n)) (sym c.place_all.ensures)
    (all-room n h e c.args.params.now over c.passed_tick-passed.ensures.within (omega arith))

pub returns-clause-refused : goal.returns-clause-refused
returns-clause-refused c =
    let h = c.args.hyper in
    let tasks = c.args.params.now in
    let over : IsOverloaded h tasks = c.is_overloaded.ensures.0 c.if-not-is_overloaded.false in
    let ran = reached h c.passed_tick-passed.result c.spent_up_to.result tasks c.place_all.new.servers c.run.new.servers over c.passed_tick-passed.ensures.spent
    c.spent_up_to.ensures c.place_all.ensures c.run.ensures in (
      λ is. over,
      λ is. some-of c.first_breach.result (All (Fits h) c.run.new.servers) c.first_breach.ensures.none
          (λ fits. one_exceeds h tasks over (subst (All (Fits h)) ran fits)),
    )

pub returns-clause-first : goal.returns-clause-first
returns-clause-first c =
    let h = c.args.hyper in
    let tasks = c.args.params.now in
    let over : IsOverloaded h tasks = c.is_overloaded.ensures.0 c.if-not-is_overloaded.false in
    let ran = reached h c.passed_tick-passed.result c.spent_up_to.result tasks c.place_all.new.servers c.run.new.servers over c.passed_tick-passed.ensures.spent
    c.spent_up_to.ensures c.place_all.ensures c.run.ensures in
    first-of c.first_breach.result h tasks
    (subst (λ (accounts : List Account). IfSome c.first_breach.result (IsFirstExceeding h accounts)) ran c.first_breach.ensures.first)
