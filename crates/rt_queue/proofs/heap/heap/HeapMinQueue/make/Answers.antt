use Rattle.rt_queue.proofs.Common.{◌≡◌, ◌∙◌, ℕ, Option, None, length, replicate, ap, arith, common_steps}
use Rattle.rt_queue.proofs.heap.RowLemmas.{keys_in-none}
use Rattle.rt_queue.proofs.heap.heap.HeapMinQueue.make.Goals as goal

pub returns : goal.returns
returns c =
    let count : length c.in_ok-keys.keys.items ≡ c.args.capacity = grind (arith, common_steps, c.in_ok-keys.ensures.items) in
    keys_in-none c.in_ok-keys.keys.items c.in_ok-places.places.items (omega (arith, count, c.in_ok-places.ensures.length))
    ∙ ap (λ (n : ℕ). replicate {A = Option ℕ} n None) count
