use Rattle.rt_queue.proofs.Common.{◌≡◌, ℕ, ◌<◌, ◌≤◌, List, [], ◌∷◌, Option, Some, length, subst, arith, IsLeast}
use Rattle.std.proofs.Common.{◌++◌}
use Rattle.rt_queue.proofs.OrderLemmas.{earlier-kept, earlier-taken}
use Rattle.rt_queue.proofs.LeastLemmas.{IsLeast-push_none, IsLeast-push_some, key_at-below}
use Rattle.rt_queue.proofs.scan.least_up_to.Goals as goal

-- the least entry below stays where its key is no greater
push_kept : (below : List (Option ℕ)) (n k : ℕ) (e : ℕ × ℕ) → length below ≡ n → e.0 ≤ k → IsLeast below (Some e) →
    IsLeast (below ++ Some k ∷ []) (Some e)
push_kept below n k e count low least =
    let number : e.1 < n = omega (arith, key_at-below below e.1 e.0 least.0) in
    subst (λ f. IsLeast (below ++ Some k ∷ []) (Some f)) (earlier-kept (k, n) e low number) (IsLeast-push_some below n k (Some e) count least)

-- and else the new one is the least
push_taken : (below : List (Option ℕ)) (n k : ℕ) (e : ℕ × ℕ) → length below ≡ n → k < e.0 → IsLeast below (Some e) →
    IsLeast (below ++ Some k ∷ []) (Some (k, n))
push_taken below n k e count low least =
    subst (λ f. IsLeast (below ++ Some k ∷ []) (Some f)) (earlier-taken (k, n) e low) (IsLeast-push_some below n k (Some e) count least)

pub returns-in_default : goal.returns-in_default
returns-in_default c = λ below count least. rw c.in_default.is (IsLeast-push_none below c.args.least least)

pub returns-in-Some-least : goal.returns-in-Some-least
returns-in-Some-least c = λ below count least.
    rw c.in-Some.is (push_kept below c.args.number c.in-Some.key (c.in-Some-least.first, c.in-Some-least.first_number) count (omega arith) (rw c.in-Some-least.is at least))

pub returns-in_default-least : goal.returns-in_default-least
returns-in_default-least c = λ below count least.
    rw c.in-Some.is (push_taken below c.args.number c.in-Some.key (c.in-Some-least.first, c.in-Some-least.first_number) count (omega arith) (rw c.in-Some-least.is at least))
