-- The first task that doesn't fit in the history in which each task is always busy, by its servers.
use Rattle.rt_laws.proofs.Common.{ℕ, sym, ap, ◌∙◌, TaskSet, task_params, Serving, all_at_once, busy, busy_at, busy_servers}
use Rattle.rt_laws.proofs.BusyTasks.{stands, task-of, account-of, fits-of}
use Rattle.rt_laws.specs.declared.breach.exceeding.Breach.{Breach}
use Rattle.rt_laws.specs.breach.Breach.{IsFirstBreach}
use Rattle.rt_laws.specs.breach.Working.Exceeding.{IsFirstExceeding}

pub first-breach : (set : TaskSet) (n : ℕ) (b : Breach) → IsFirstExceeding n (busy_servers (task_params set.tasks) n) b → IsFirstBreach (busy_at set n) b
unfolding busy_at
first-breach set n b it =
    let accounts = busy_servers (task_params set.tasks) n in
    let ss = (all_at_once set).tasks in
    let now = stands set n in
    let x = task-of n 0 b.task (busy set n) ss accounts it.account now it.there in
    record {
      task = x.0;
      there = x.1;
      active = ap (λ (v : Serving). v.mode) x.2;
      c = it.c ∙ sym (ap (λ (v : Serving). v.account.c) x.2);
      d = it.d ∙ sym (ap (λ (v : Serving). v.account.d) x.2);
      exceeds = it.exceeds;
      first = λ i y below there.
          let a = account-of n 0 i (busy set n) ss accounts y now there in
          fits-of n y a.0 a.2 (it.first i a.0 below a.1);
    }
