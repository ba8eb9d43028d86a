-- Jobs that may have several periods: whether a program that runs alone and asks for nothing keeps to so many.
use Rattle.std.specs.Prelude.{ℕ, zero, suc, ◌+◌, ◌*◌, ◌≤◌, []}
use Rattle.rt_history.specs.Program.{Program, Origin, loaded}
use Rattle.rt_laws.specs.Alone.{attempted}
use Rattle.rt_laws.specs.Certified.{outcome_of, GoesOn}

-- a job of m ticks that is released at r may sleep until tick w: where k budgets have its ticks, w is k periods after r or later
abbrev pub MaySleep : ℕ → ℕ → ℕ → ℕ → ℕ → Type 0
MaySleep budget period r m w = (k : ℕ) × (m ≤ k * budget) × (r + k * period ≤ w)

-- As `Keeps`, but each job has at most so many attempts as this number of budgets, and sleeps as many periods as it takes budgets.
abbrev pub KeepsIn : ℕ → ℕ → ℕ → ℕ → ℕ → ℕ → ℕ → Program → Type 0
KeepsIn periods budget period k zero r m p = Unit {0}
KeepsIn periods budget period zero (suc n) r m p = ⊥
KeepsIn periods budget period (suc k) (suc n) r m p =
    (m + 1 ≤ periods * budget) × GoesOn (KeepsIn periods budget period k (suc n) r (m + 1) (attempted [] p))
    (λ w. MaySleep budget period r (m + 1) w × KeepsIn periods budget period k n w 0 (attempted [] p)) (outcome_of p)

-- the program of this image is certified for n jobs, each of at most so many periods, with this budget, period and start tick
abbrev pub IsCertifiedIn : Origin → ℕ → ℕ → ℕ → ℕ → ℕ → Type 0
IsCertifiedIn o periods budget period start n = (k : ℕ) × KeepsIn periods budget period k n start 0 (loaded o)
