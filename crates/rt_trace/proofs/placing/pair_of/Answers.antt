-- The table is held against the two digits of each number, by computing.
use Rattle.rt_trace.proofs.Common.{◌≡◌, ℕ, zero, suc, ◌+◌, ◌*◌, ◌/◌, ◌%◌, ◌<◌, true, get_or, refl, inl, arith}
use Rattle.std.proofs.Common.{Bool, false, ◌&&◌, nat_eq, inr}
use Rattle.std.proofs.lemmas.Bool.{cases_eq, eqb-true}
use Rattle.rt_trace.specs.declared.placing.TheConstants.{PAIRS}
use Rattle.rt_trace.proofs.placing.pair_of.Goals as goal

are_pairs : ℕ → Bool
are_pairs zero = true
are_pairs (suc n) = (nat_eq (get_or PAIRS (n * 2) 0) (48 + n / 10) && nat_eq (get_or PAIRS (n * 2 + 1) 0) (48 + n % 10)) && are_pairs n

both_of : (x y : Bool) → (x && y) ≡ true → (x ≡ true) × (y ≡ true)
both_of true true h = (refl, refl)
both_of true false h = cc
both_of false true h = cc
both_of false false h = cc

pair_at : (n : ℕ) → are_pairs n ≡ true → (m : ℕ) → m < n → (get_or PAIRS (m * 2) 0 ≡ 48 + m / 10) × (get_or PAIRS (m * 2 + 1) 0 ≡ 48 + m % 10)
unfolding are_pairs
pair_at zero h m less = absurd (omega arith)
pair_at (suc n) h m less =
    let both = both_of (nat_eq (get_or PAIRS (n * 2) 0) (48 + n / 10) && nat_eq (get_or PAIRS (n * 2 + 1) 0) (48 + n % 10)) (are_pairs n) h in
    let pair = both_of (nat_eq (get_or PAIRS (n * 2) 0) (48 + n / 10)) (nat_eq (get_or PAIRS (n * 2 + 1) 0) (48 + n % 10)) both.0 in
    elim (cases_eq m n) [
      | inl same ↦ rw same (eqb-true (get_or PAIRS (n * 2) 0) (48 + n / 10) pair.0, eqb-true (get_or PAIRS (n * 2 + 1) 0) (48 + n % 10) pair.1)
      | inr other ↦ pair_at n both.1 m (omega arith)
    ]

pub returns : goal.returns
unfolding are_pairs
returns c = let it = pair_at 100 refl c.args.number c.requires in rw (it.0, it.1) refl
