-- Reading tasks one after the other, as a loop does.
use Rattle.rt_image.proofs.Common.{◌≡◌, ℕ, suc, ◌-◌, ◌+◌, ◌≤◌, ◌<◌, List, [], ◌∷◌, ◌++◌, Result, Ok, Err, refl, sym, ap, ◌∙◌, append_assoc, arith, append-nil, ImageFault, ReadFault, Version, SetTask, tasks_at}
use Rattle.rt_words.specs.Chain.{◌>>=◌}
use Rattle.rt_words.specs.declared.or_memory.OrMemory.TheVariants as faults
use Rattle.rt_image.specs.ObjectReading.{Fails}
use Rattle.rt_image.specs.SystemReading.{task_at}

-- what was read before, and what is still read
abbrev pub with_front : List SetTask → Result (List SetTask × List ℕ) ImageFault → Result (List SetTask × List ℕ) ImageFault
with_front front read = read >>= λ x. Ok (front ++ x.0, x.1)

regroup : (front : List SetTask) (t : SetTask) (read : Result (List SetTask × List ℕ) ImageFault) → with_front front (read >>= λ x. Ok (t ∷ x.0, x.1)) ≡ with_front (front ++ t ∷ []) read
regroup front t (Ok x) = ap (λ (ts : List SetTask). Ok (ts, x.1)) (simp append_assoc)
regroup front t (Err f) = refl

pub goes_on : (version : Version) (front : List SetTask) (count i : ℕ) (bytes : List ℕ) (t : SetTask) (after : List ℕ) (total : Result (List SetTask × List ℕ) ImageFault) → i < count → task_at version bytes ≡ Ok (t, after)
    → with_front front (tasks_at version (count - i) bytes) ≡ total → with_front (front ++ t ∷ []) (tasks_at version (count - (i + 1)) after) ≡ total
unfolding tasks_at
goes_on version front count i bytes t after total lt h so_far =
    let k : count - i ≡ suc (count - (i + 1)) = omega arith in
    let one : with_front front (tasks_at version (count - i) bytes) ≡ with_front (front ++ t ∷ []) (tasks_at version (count - (i + 1)) after) = rw (k, h) (regroup front t (tasks_at version (count - (i + 1)) after)) in
    sym one ∙ so_far

pub ends : (version : Version) (f : ImageFault) (front : List SetTask) (count i : ℕ) (bytes : List ℕ) (total : Result (List SetTask × List ℕ) ImageFault) → i < count → task_at version bytes ≡ Err f
    → with_front front (tasks_at version (count - i) bytes) ≡ total → total ≡ Err f
unfolding tasks_at
ends version f front count i bytes total lt h so_far =
    let k : count - i ≡ suc (count - (i + 1)) = omega arith in
    let one : with_front front (tasks_at version (count - i) bytes) ≡ Err f = rw (k, h) refl in
    sym so_far ∙ one

pub is_done : (version : Version) (front : List SetTask) (count i : ℕ) (bytes : List ℕ) (total : Result (List SetTask × List ℕ) ImageFault) → count ≤ i → with_front front (tasks_at version (count - i) bytes) ≡ total → total ≡ Ok (front, bytes)
unfolding tasks_at
is_done version front count i bytes total le so_far =
    let k : count - i ≡ 0 = omega arith in
    let one : with_front front (tasks_at version (count - i) bytes) ≡ Ok (front, bytes) = rw k (ap (λ (ts : List SetTask). Ok (ts, bytes)) (append-nil front)) in
    sym so_far ∙ one

-- the same for any fault of a reader that allocates
pub fails : (version : Version) (e : ReadFault) (front : List SetTask) (count i : ℕ) (bytes : List ℕ) (total : Result (List SetTask × List ℕ) ImageFault) → i < count → Fails e (task_at version bytes)
    → with_front front (tasks_at version (count - i) bytes) ≡ total → Fails e total
fails version faults.Memory front count i bytes total lt h so_far = tt
fails version (faults.Fault f) front count i bytes total lt h so_far = ends version f front count i bytes total lt h so_far
