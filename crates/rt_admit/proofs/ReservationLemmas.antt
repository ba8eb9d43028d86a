-- What is computed of a budget that a task asks for is whether it is granted.
use Rattle.std.proofs.Common.{◌≡◌, ◌≢◌, ℕ, ◌+◌, ◌-◌, ◌<◌, ◌≤◌, leb, List, length, get_or, set, ap, arith}
use Rattle.std.proofs.lemmas.Bool.{le-leb}
use Rattle.std.proofs.lemmas.Option.{slice_get-get_or}
use Rattle.std.proofs.lemmas.List.Sums.{sum_by-set, get_or-le-sum_by}
use Rattle.rt_admit.specs.declared.reservation.Reserved.{Reserved}
use Rattle.rt_admit.specs.Reservation.{held_weight, total_held, asking, is_granted}

-- the weight of one task is replaced in the sum
total_held-asking : (hyper : ℕ) (tasks : List Reserved) (i q : ℕ) (d : Reserved) → i < length tasks →
    total_held hyper tasks - held_weight hyper (get_or tasks i d) + held_weight hyper (asking q (get_or tasks i d)) ≡ total_held hyper (set tasks i (asking q (get_or tasks i d)))
total_held-asking hyper tasks i q d within =
    let task : Reserved = get_or tasks i d in
    let replaced = sum_by-set (held_weight hyper) tasks i (asking q task) d within in
    let part = get_or-le-sum_by (held_weight hyper) tasks i d within in
    omega (arith, replaced, part)

pub granted-by : (hyper : ℕ) (tasks : List Reserved) (i q : ℕ) (d : Reserved) (sum one other : ℕ) → i < length tasks → q ≢ 0 → q ≤ (get_or tasks i d).period
    → sum ≡ total_held hyper tasks → one ≡ held_weight hyper (get_or tasks i d) → other ≡ held_weight hyper (asking q (get_or tasks i d))
    → leb (sum - one + other) hyper ≡ is_granted hyper tasks i q
granted-by hyper tasks i q d sum one other within asks fits sum_is one_is other_is =
    rw (sum_is, one_is, other_is, slice_get-get_or tasks i d within, le-leb 1 q (omega (arith, asks)), le-leb q (get_or tasks i d).period fits)
    (ap (λ (n : ℕ). leb n hyper) (total_held-asking hyper tasks i q d within))
