-- The tasks that an answer names.
use Rattle.rt_packet.proofs.Common.{◌≡◌, ℕ, ◌-◌, ◌≤◌, List, [], ◌∷◌, ◌++◌, length, take, drop, ap, arith, take_all, codes, slice_index, flat_map, id_text, other_text}
use Rattle.rt_packet.specs.declared.answer.ids.Ids.{Ids}
use Rattle.rt_packet.specs.answer.Ids.{tasks_text}

pub named_all : (ids : Ids) (tasks : List ℕ) → 1 ≤ length tasks
    → codes "m" ++ id_text ids (slice_index tasks 0) ++ flat_map (other_text ids) (take 63 (take (length tasks - 1) (drop 1 tasks))) ≡ tasks_text ids tasks
named_all ids [] some = absurd (omega arith)
named_all ids (task ∷ tasks) some =
    let all : take (length (task ∷ tasks) - 1) tasks ≡ tasks = take_all _ tasks (omega arith) in
    ap (λ (l : List ℕ). codes "m" ++ id_text ids task ++ flat_map (other_text ids) (take 63 l)) all
