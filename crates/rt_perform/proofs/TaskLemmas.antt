-- The object files that the files of tasks stand for, put in their places one after the other.
use Rattle.rt_perform.proofs.Common.{◌≡◌, ℕ, suc, ◌<◌, List, [], ◌∷◌, ◌++◌, length, map, sym, ap, ◌∙◌, refl, arith, subst, ProgramFault}
use Rattle.std.proofs.Common.{◌+◌, take, drop, drop-cons, get_or, set}
use Rattle.std.proofs.lemmas.List.{map-append, take_more, take_more_set, drop-set-lt}
use Rattle.rt_set.specs.Packing.{PackEntry, pack_entry}
use Rattle.rt_set.specs.declared.packing.PackTask.{PackTask}
use Rattle.rt_perform.specs.Packed.{IsObjectTask, AreObjectTasks, IsFaultyTask, HasFaultyTask}
use Rattle.rt_perform.proofs.LineLemmas.{parted}

-- one more task behind those that were put
one_more : (tasks objects : List PackEntry) (task object : PackEntry) (n m : ℕ) → AreObjectTasks tasks objects n → IsObjectTask task object m
    → AreObjectTasks (tasks ++ task ∷ []) (objects ++ object ∷ []) (n + m)
one_more [] [] task object n m none one = (m, 0, one, refl, omega (arith, none))
one_more [] (o ∷ os) task object n m none one = absurd none
one_more (t ∷ ts) [] task object n m none one = absurd none
one_more (t ∷ ts) (o ∷ os) task object n m (first, others, is, rest, sum) one =
    (first, others + m, is, one_more ts os task object others m rest one, omega (arith, sum))

module _ (old now : List PackTask) (i : ℕ) (d : PackTask) (within : i < length old) (there : i < length now) (rest : drop i now ≡ drop i old) where
  heads : get_or now i d ∷ drop (suc i) now ≡ get_or old i d ∷ drop (suc i) old
  heads = sym (drop-cons now i d there) ∙ rest ∙ drop-cons old i d within

  same : get_or now i d ≡ get_or old i d
  same = ap (λ (l : List PackTask). get_or l 0 d) heads

  -- a task's object was put in its place
  pub put_more : (new : PackTask) (n m : ℕ) → AreObjectTasks (map pack_entry (take i old)) (map pack_entry (take i now)) n → IsObjectTask (pack_entry (get_or now i d)) (pack_entry new) m
      → AreObjectTasks (map pack_entry (take (i + 1) old)) (map pack_entry (take (i + 1) (set now i new))) (n + m)
  put_more new n m before one =
      let left : map pack_entry (take (i + 1) old) ≡ map pack_entry (take i old) ++ pack_entry (get_or old i d) ∷ [] =
      ap (map pack_entry) (take_more old i d within) ∙ map-append pack_entry (take i old) (get_or old i d ∷ []) in
      let right : map pack_entry (take (i + 1) (set now i new)) ≡ map pack_entry (take i now) ++ pack_entry new ∷ [] =
      ap (map pack_entry) (take_more_set now i new there) ∙ map-append pack_entry (take i now) (new ∷ []) in
      let task = subst (λ (t : PackTask). IsObjectTask (pack_entry t) (pack_entry new) m) same one in
      subst (λ (ts : List PackEntry). AreObjectTasks ts (map pack_entry (take (i + 1) (set now i new))) (n + m)) (sym left)
      (subst (λ (os : List PackEntry). AreObjectTasks (map pack_entry (take i old) ++ pack_entry (get_or old i d) ∷ []) os (n + m)) (sym right)
      (one_more (map pack_entry (take i old)) (map pack_entry (take i now)) (pack_entry (get_or old i d)) (pack_entry new) n m before task))

  pub rest_more : (new : PackTask) → drop (i + 1) (set now i new) ≡ drop (i + 1) old
  rest_more new =
      let next : i + 1 ≡ suc i = omega arith in
      rw next (drop-set-lt (suc i) now i new (omega arith) ∙ ap (λ (l : List PackTask). drop 1 l) heads)

  pub faulty_at : (n : ℕ) (fault : ProgramFault) → AreObjectTasks (map pack_entry (take i old)) (map pack_entry (take i now)) n → IsFaultyTask (pack_entry (get_or now i d)) fault
      → HasFaultyTask (map pack_entry old) fault
  faulty_at n fault before faulty = (
    map pack_entry (take i old),
    map pack_entry (take i now),
    n,
    pack_entry (get_or old i d),
    map pack_entry (drop (suc i) old),
    parted pack_entry old i d within,
    before,
    subst (λ (t : PackTask). IsFaultyTask (pack_entry t) fault) same faulty,
  )
