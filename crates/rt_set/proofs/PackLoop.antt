-- Reading the files of tasks one after the other, as a loop does.
use Rattle.std.proofs.Common.{◌≡◌, ℕ, suc, ◌+◌, ◌<◌, List, [], ◌∷◌, ◌++◌, length, get_or, drop, drop-cons, Result, Ok, Err, refl, sym, ap, ◌∙◌, append_assoc, arith}
use Rattle.std.proofs.lemmas.List.{append-nil}
use Rattle.rt_image.specs.declared.fault.ImageFault.{ImageFault}
use Rattle.rt_image.specs.ReadFaults.{ReadFault}
use Rattle.rt_words.specs.declared.or_memory.OrMemory.TheVariants as faults
use Rattle.rt_words.specs.Chain.{◌>>=◌}
use Rattle.rt_image.specs.ObjectReading.{Fails}
use Rattle.rt_image.specs.SystemFile.{SetTask}
use Rattle.rt_set.specs.Packing.{PackEntry, packed_task, packed_tasks}

-- what was read before, and what is still read
abbrev pub with_front : List SetTask → Result (List SetTask) ImageFault → Result (List SetTask) ImageFault
with_front front read = read >>= λ ts. Ok (front ++ ts)

regroup : (front : List SetTask) (t : SetTask) (read : Result (List SetTask) ImageFault) → with_front front (read >>= λ ts. Ok (t ∷ ts)) ≡ with_front (front ++ t ∷ []) read
regroup front t (Ok ts) = ap (λ (all : List SetTask). Ok all) (simp append_assoc)
regroup front t (Err f) = refl

pub goes_on : (front : List SetTask) (p : PackEntry) (ps : List PackEntry) (t : SetTask) (total : Result (List SetTask) ImageFault) → packed_task p ≡ Ok t
    → with_front front (packed_tasks (p ∷ ps)) ≡ total → with_front (front ++ t ∷ []) (packed_tasks ps) ≡ total
unfolding packed_tasks
goes_on front p ps t total h so_far =
    let one : with_front front (packed_tasks (p ∷ ps)) ≡ with_front (front ++ t ∷ []) (packed_tasks ps) = rw h (regroup front t (packed_tasks ps)) in
    sym one ∙ so_far

pub is_done : (front : List SetTask) (total : Result (List SetTask) ImageFault) → with_front front (packed_tasks []) ≡ total → total ≡ Ok front
unfolding packed_tasks
is_done front total so_far = sym so_far ∙ ap (λ (ts : List SetTask). Ok ts) (append-nil front)

-- any fault of a reader that allocates
pub fails : (e : ReadFault) (front : List SetTask) (p : PackEntry) (ps : List PackEntry) (total : Result (List SetTask) ImageFault) → Fails e (packed_task p)
    → with_front front (packed_tasks (p ∷ ps)) ≡ total → Fails e total
unfolding packed_tasks
fails faults.Memory front p ps total h so_far = tt
fails (faults.Fault f) front p ps total h so_far =
    let one : with_front front (packed_tasks (p ∷ ps)) ≡ Err f = rw h refl in
    sym so_far ∙ one

-- what is left of a list from one element on
pub rest_at : {A : Type 0} (xs : List A) (i : ℕ) (x : A) → i < length xs → x ≡ get_or xs i x → drop i xs ≡ x ∷ drop (i + 1) xs
rest_at xs i x inside is =
    let next : suc i ≡ i + 1 = omega arith in
    drop-cons xs i x inside ∙ (λ j. sym is j ∷ drop (next j) xs)
