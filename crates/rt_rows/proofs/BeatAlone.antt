-- beat, alone: by computing.
use Rattle.std.proofs.Common.{ℕ, zero, suc, ◌+◌, ◌*◌, ◌≤◌, arith}
use Rattle.rt_isa.specs.Table.{ins, row_of}
use Rattle.rt_isa.specs.Bits.{signed}
use Rattle.rt_exec.specs.mem.Access.{load, store, number, put}
use Rattle.rt_exec.specs.Attempt.{fetched, attempt}
use Rattle.rt_exec.specs.Effect.{effect}
use Rattle.rt_history.specs.Calls.{attempt_at}
use Rattle.rt_history.specs.Program.{loaded}
use Rattle.rt_laws.specs.Certified.{Keeps, IsCertified}
use Rattle.rt_laws.specs.SeveralPeriods.{MaySleep, KeepsIn, IsCertifiedIn}
use Rattle.rt_rows.specs.Certifying.{beat}

pub certified : IsCertified beat 3 10 0 2
unfolding ins row_of signed load store number put fetched attempt effect attempt_at
certified = (6, (omega arith, (omega arith, (omega arith, (omega arith, (omega arith, (omega arith, (omega arith, (omega arith, tt)))))))))

-- its third attempt is over a budget of 2
over : (k : ℕ) → Keeps 2 10 k 1 0 0 (loaded beat) → ⊥
unfolding ins row_of signed load store number put fetched attempt effect attempt_at
over zero keeps = keeps
over (suc zero) keeps = keeps.1
over (suc (suc zero)) keeps = keeps.1.1
over (suc (suc (suc k))) keeps = let m : 3 ≤ 2 = keeps.1.1.0 in omega (arith, m)

pub not_with_less : IsCertified beat 2 10 0 1 → ⊥
not_with_less certified = over certified.0 certified.1

-- and sleeps until 10
soon : (period start k : ℕ) → Keeps 3 period k 1 start 0 (loaded beat) → start + period ≤ 10
unfolding ins row_of signed load store number put fetched attempt effect attempt_at
soon period start zero keeps = absurd keeps
soon period start (suc zero) keeps = absurd keeps.1
soon period start (suc (suc zero)) keeps = absurd keeps.1.1
soon period start (suc (suc (suc k))) keeps = keeps.1.1.1.0

pub not_with_longer : IsCertified beat 3 11 0 1 → ⊥
not_with_longer certified = let low = soon 11 0 certified.0 certified.1 in omega (arith, low)

pub not_later : IsCertified beat 3 10 1 1 → ⊥
not_later certified = let low = soon 10 1 certified.0 certified.1 in omega (arith, low)

-- each of its jobs takes three budgets of a tick, and has as many periods of 3 ticks
pub of_three_periods : IsCertifiedIn beat 3 1 3 0 2
unfolding ins row_of signed load store number put fetched attempt effect attempt_at
of_three_periods = (
  6,
  (
    omega arith,
    (omega arith, (omega arith, ((3, omega arith, omega arith), (omega arith, (omega arith, (omega arith, ((3, omega arith, omega arith), tt))))))),
  ),
)

-- of one of 4 ticks not
soon_of : (period k : ℕ) → KeepsIn 3 1 period k 1 0 0 (loaded beat) → MaySleep 1 period 0 3 10
unfolding ins row_of signed load store number put fetched attempt effect attempt_at
soon_of period zero keeps = absurd keeps
soon_of period (suc zero) keeps = absurd keeps.1
soon_of period (suc (suc zero)) keeps = absurd keeps.1.1
soon_of period (suc (suc (suc k))) keeps = keeps.1.1.1.0

pub not_of_longer : IsCertifiedIn beat 3 1 4 0 1 → ⊥
not_of_longer certified = let far = soon_of 4 certified.0 certified.1 in omega (arith, far.1, far.2)

-- nor with two periods
over_two : (k : ℕ) → KeepsIn 2 1 3 k 1 0 0 (loaded beat) → ⊥
unfolding ins row_of signed load store number put fetched attempt effect attempt_at
over_two zero keeps = keeps
over_two (suc zero) keeps = keeps.1
over_two (suc (suc zero)) keeps = keeps.1.1
over_two (suc (suc (suc k))) keeps = let m : 3 ≤ 2 * 1 = keeps.1.1.0 in omega (arith, m)

pub not_of_two_periods : IsCertifiedIn beat 2 1 3 0 1 → ⊥
not_of_two_periods certified = over_two certified.0 certified.1
