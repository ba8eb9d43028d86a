-- The names that three or more files of these proofs cite, passed on from one place. Declares nothing.
pub use Rattle.std.proofs.Common.{◌≡◌, ℕ, zero, suc, ◌+◌, ◌-◌, ◌*◌, ◌/◌, ◌==◌, ◌<◌, ◌≤◌, max, inl, inr, refl, arith, Bool, true, false, List, [], ◌∷◌, map, length, slice_get, slice_set, All, Option, Some, ap, subst, ◌∙◌, None, sym, ◌++◌, length-append, ◌&&◌, nat_le, nat_lt, take, cond, append-nil, append_assoc, ◌⊎◌, get_or}
pub use Rattle.rt_admit.specs.Admission.{IsEligible, IsOverloaded}
pub use Rattle.rt_admit.specs.Weight.{total_weight, weight_of}
pub use Rattle.rt_admit.specs.declared.params.Params.{Params}
pub use Rattle.rt_history.proofs.JobLaws.{release-slept, ticks-more}
pub use Rattle.rt_history.proofs.NamedLaws.{named_cases}
pub use Rattle.rt_history.proofs.ServingLaws.{serving_after-append, due_cases, charged_cases}
pub use Rattle.rt_history.proofs.Steps.{state-of, tick_is, eligible-task}
pub use Rattle.rt_history.specs.Admitted.{task_params, IsAdmittedSet}
pub use Rattle.rt_history.specs.Busy.{all_at_once}
unfoldable pub use Rattle.rt_history.specs.Busy.{busy, busy_at}
pub use Rattle.rt_history.specs.Calls.{Told}
unfoldable pub use Rattle.rt_history.specs.Calls.{attempt_at}
pub use Rattle.rt_history.specs.Fit.{TaskFits, AllFit}
pub use Rattle.rt_history.specs.Job.{Job, ends_job, Release, release_of, account_after, is_fresh, job_of, jobs_after, jobs}
pub use Rattle.rt_history.specs.Legal.{record_at, attempt_of}
unfoldable pub use Rattle.rt_history.specs.Legal.{legal, state_at}
pub use Rattle.rt_history.specs.MachineState.{MachineState}
pub use Rattle.rt_history.specs.Named.{named, deadline_in}
pub use Rattle.rt_history.specs.OwnPart.{TaskState, own, serving_after, task_state, granted_by}
pub use Rattle.rt_history.specs.Program.{Program, first_program, origin, Origin, loaded}
pub use Rattle.rt_history.specs.Reservations.{grants}
pub use Rattle.rt_history.specs.Serving.{Serving, first_serving, due, after, due_in, mode_after, charged}
pub use Rattle.rt_history.specs.declared.mode.Mode.{Mode}
pub use Rattle.rt_history.specs.declared.mode.Mode.TheVariants.{Active, Asleep, Ended, Faulted}
pub use Rattle.rt_history.specs.declared.record.AttemptOutcome.{AttemptOutcome}
pub use Rattle.rt_history.specs.declared.record.AttemptOutcome.TheVariants.{Next, End, Write, WriteRefused, Sleep, Yield, Now, Reserve, ReserveRefused, Fault}
pub use Rattle.rt_history.specs.declared.record.Record.{Record}
pub use Rattle.rt_history.specs.declared.record.Record.TheVariants.{Idle, Busy}
pub use Rattle.rt_image.specs.SystemFile.{SetTask, TaskSet}
pub use Rattle.rt_laws.specs.Alone.{attempted}
pub use Rattle.rt_laws.specs.Certified.{outcome_of, GoesOn, Keeps, IsCertified, IsInTime}
pub use Rattle.rt_laws.specs.OpenJob.{open_after, open_job}
pub use Rattle.rt_laws.specs.Periodic.{first_jobs}
pub use Rattle.rt_laws.specs.Working.BusyServers.{awake, deadline, next_server, after_tick, busy_servers}
unfoldable pub use Rattle.rt_laws.specs.Working.BusyServers.{after_ticks}
pub use Rattle.rt_laws.specs.breach.Working.Budget.{spent_times, past}
pub use Rattle.rt_laws.specs.breach.Working.Room.{HasRoom}
pub use Rattle.rt_queue.specs.Keys.{key_at}
pub use Rattle.rt_queue.specs.Least.{least_from, IsLeast}
pub use Rattle.rt_server.specs.Account.{Account, coming}
pub use Rattle.rt_server.specs.Arrival.{wakes_fresh, refreshed, woken}
pub use Rattle.rt_server.specs.Fit.{Fits}
pub use Rattle.rt_server.specs.Recharge.{spent}
pub use Rattle.rt_server.specs.Reserve.{reserved}
pub use Rattle.std.proofs.Math.Nat.{mul-le-mul_right, mul-le-mul_left, mul-div-le}
pub use Rattle.std.proofs.lemmas.Bool.{cases_lt, cond_both, leb-true, leb-false, ltb-false, and_from, cond-true, le-leb}
pub use Rattle.std.proofs.lemmas.Bool.Decides.{nat_tests}
pub use Rattle.std.proofs.lemmas.List.Elements.{All-nil, All-cons, All-head, All-tail}
pub use Rattle.std.proofs.lemmas.List.Sums.{sum_by-cons}
pub use Rattle.std.specs.List.{IsFirstBest}
pub use Rattle.std.specs.Option.{option_map_or}
