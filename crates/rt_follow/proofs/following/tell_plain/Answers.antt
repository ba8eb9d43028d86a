use Rattle.std.proofs.Common.{◌≡◌, ◌+◌, ◌-◌, ◌≤◌, ℕ, Result, Ok, Err, OnErr, subst, ◌∙◌, arith}
use Rattle.rt_image.specs.SystemFile.{TaskSet}
use Rattle.rt_history.specs.Plain.{IsPlain, ArePlain}
use Rattle.rt_history.specs.Legal.{record_at, state_at}
use Rattle.rt_follow.proofs.following.tell_plain.Goals as goal

-- those behind the first so many are plain too
plain-later : (set : TaskSet) (t i n done k : ℕ) → ArePlain set t i n → done + k ≤ n → ArePlain set (t + done) i k
plain-later set t i n done k plain within = λ j below.
    let at : t + (done + j) ≡ t + done + j = omega arith in
    subst (λ (u : ℕ). IsPlain i (record_at (state_at set u))) at (plain (done + j) (omega (arith, below, within)))

pub steps-preserved : goal.steps-preserved
steps-preserved g c =
    let before = c.steps.invariant in
    let done = c.steps.done in
    let k = c.in_ok-done.field-0 in
    let added = c.in_ok-done.ensures in
    let within : done + k ≤ c.args.n = omega (arith, added.within, before.within) in
    record {
      within = within;
      in_step = added.in_step c.requires.takes;
      clock = omega (arith, added.clock c.requires.takes, before.clock);
      count = added.count ∙ before.count;
      kept = added.kept ∙ before.kept;
      told = λ first set t told plain.
          let at : t + done + k ≡ t + (done + k) = omega arith in
          subst (λ (u : ℕ). g.L.Listener.told first c.add_plain.new.self set u) at
          (added.told c.requires.takes first set (t + done) (before.told first set t told plain) (plain-later set t c.args.task c.args.n done k plain within));
    }

-- a fact of each result is one of each failure
on_err : {T E : Type 0} (r : Result T E) (P : Type 0) → P → OnErr r P
on_err (Ok x) P holds = tt
on_err (Err e) P holds = holds

pub returns-in_err-done-clause-stopped : goal.returns-in_err-done-clause-stopped
returns-in_err-done-clause-stopped g c =
    on_err c.from_residual.result _ (λ first set t told plain.
    let before = c.steps.invariant in
    let n = c.args.n in
    let done = c.steps.done in
    let all : done + (n - done) ≡ n = omega (arith, before.within) in
    let left : done + (n - done) ≤ n = omega (arith, all) in
    let at : t + done + (n - done) ≡ t + n = omega (arith, all) in
    subst (λ (u : ℕ). g.L.Listener.stopped first c.add_plain.new.self set u) at
    (c.in_err-done.ensures.stopped c.requires.takes first set (t + done) (before.told first set t told plain) (plain-later set t c.args.task n done (n - done) plain left)))
