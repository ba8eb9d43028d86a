-- What keeps a plan, by computing.
use Rattle.std.proofs.Common.{ℕ, zero, suc, ◌*◌, ◌≤◌, arith}
use Rattle.rt_isa.specs.Table.{ins, row_of}
use Rattle.rt_isa.specs.Bits.{signed}
use Rattle.rt_exec.specs.mem.Access.{load, store, number, put}
use Rattle.rt_exec.specs.Attempt.{fetched, attempt}
use Rattle.rt_exec.specs.Effect.{effect}
use Rattle.rt_history.specs.Calls.{attempt_at}
use Rattle.rt_history.specs.Program.{loaded}
use Rattle.rt_history.specs.Job.{response}
use Rattle.rt_laws.specs.Certified.{Keeps, IsCertified}
use Rattle.rt_laws.specs.Long.{IsWithin}
use Rattle.rt_rows.specs.Certifying.{ending, writing_then_ending, refused_then_ending, yielding, job_of_four}

pub with_an_end : IsCertified ending 2 10 0 5
unfolding ins row_of signed load store number put fetched attempt effect attempt_at
with_an_end = (2, (omega arith, (omega arith, tt)))

pub with_a_write : IsCertified writing_then_ending 5 10 0 5
unfolding ins row_of signed load store number put fetched attempt effect attempt_at
with_a_write = (5, (omega arith, (omega arith, (omega arith, (omega arith, (omega arith, tt))))))

pub with_a_refused_write : IsCertified refused_then_ending 5 10 0 5
unfolding ins row_of signed load store number put fetched attempt effect attempt_at
with_a_refused_write = (5, (omega arith, (omega arith, (omega arith, (omega arith, (omega arith, tt))))))

yields : (k : ℕ) → Keeps 5 10 k 1 0 0 (loaded yielding) → ⊥
unfolding ins row_of signed load store number put fetched attempt effect attempt_at
yields zero keeps = keeps
yields (suc zero) keeps = keeps.1
yields (suc (suc k)) keeps = keeps.1.1

pub not_with_a_yield : IsCertified yielding 5 10 0 1 → ⊥
not_with_a_yield certified = yields certified.0 certified.1

pub within_two : IsWithin 2 10 (job_of_four 20)
within_two k budgets = omega (arith, budgets)

pub not_later : IsWithin 2 10 (job_of_four 21) → ⊥
not_later within = let response_is : response (job_of_four 21) ≤ 2 * 10 = within 2 (omega arith) in omega (arith, response_is)
