-- Reading symbols one after the other, as a loop does.
use Rattle.rt_image.proofs.Common.{◌≡◌, ℕ, suc, ◌-◌, ◌+◌, ◌≤◌, ◌<◌, List, [], ◌∷◌, ◌++◌, Result, Ok, Err, refl, sym, ap, ◌∙◌, append_assoc, arith, append-nil, ImageFault, Label, labels_at}
use Rattle.rt_words.specs.Chain.{◌>>=◌}
use Rattle.rt_image.specs.ObjectReading.{label_at}

-- what was read before, and what is still read
abbrev pub with_front : List Label → Result (List Label × List ℕ) ImageFault → Result (List Label × List ℕ) ImageFault
with_front front read = read >>= λ x. Ok (front ++ x.0, x.1)

regroup : (front : List Label) (l : Label) (read : Result (List Label × List ℕ) ImageFault) → with_front front (read >>= λ x. Ok (l ∷ x.0, x.1)) ≡ with_front (front ++ l ∷ []) read
regroup front l (Ok x) = ap (λ (ls : List Label). Ok (ls, x.1)) (simp append_assoc)
regroup front l (Err f) = refl

pub goes_on : (front : List Label) (count i n : ℕ) (before bytes : List ℕ) (l : Label) (after : List ℕ) (total : Result (List Label × List ℕ) ImageFault) → i < count → label_at n before bytes ≡ Ok (l, after)
    → with_front front (labels_at (count - i) n before bytes) ≡ total → with_front (front ++ l ∷ []) (labels_at (count - (i + 1)) n l.name after) ≡ total
unfolding labels_at
goes_on front count i n before bytes l after total lt h so_far =
    let k : count - i ≡ suc (count - (i + 1)) = omega arith in
    let one : with_front front (labels_at (count - i) n before bytes) ≡ with_front (front ++ l ∷ []) (labels_at (count - (i + 1)) n l.name after) = rw (k, h) (regroup front l (labels_at (count - (i + 1)) n l.name after)) in
    sym one ∙ so_far

pub ends : (f : ImageFault) (front : List Label) (count i n : ℕ) (before bytes : List ℕ) (total : Result (List Label × List ℕ) ImageFault) → i < count → label_at n before bytes ≡ Err f
    → with_front front (labels_at (count - i) n before bytes) ≡ total → total ≡ Err f
unfolding labels_at
ends f front count i n before bytes total lt h so_far =
    let k : count - i ≡ suc (count - (i + 1)) = omega arith in
    let one : with_front front (labels_at (count - i) n before bytes) ≡ Err f = rw (k, h) refl in
    sym so_far ∙ one

pub is_done : (front : List Label) (count i n : ℕ) (before bytes : List ℕ) (total : Result (List Label × List ℕ) ImageFault) → count ≤ i → with_front front (labels_at (count - i) n before bytes) ≡ total → total ≡ Ok (front, bytes)
unfolding labels_at
is_done front count i n before bytes total le so_far =
    let k : count - i ≡ 0 = omega arith in
    let one : with_front front (labels_at (count - i) n before bytes) ≡ Ok (front, bytes) = rw k (ap (λ (ls : List Label). Ok (ls, bytes)) (append-nil front)) in
    sym so_far ∙ one
