-- A text at the end of a page.
use Rattle.rt_chart.proofs.Common.{◌≡◌, ℕ, ◌+◌, ◌≤◌, List, ◌++◌, length, take, length-take-le, take-take, ap, sym, ◌∙◌, arith}
use Rattle.std.proofs.Common.{take-add, take_at, drop_at}

-- a text lies behind the first n elements, and k of its elements count
pub take-stored : (n k : ℕ) (xs ys zs : List ℕ) → n ≤ length xs → k ≤ length ys → take (n + length ys) zs ≡ take n xs ++ ys → take (n + k) zs ≡ take n xs ++ take k ys
take-stored n k xs ys zs within few stored =
    let front = length-take-le n xs within in
    sym (take-take (n + k) (n + length ys) zs (omega arith)) ∙ ap (take (n + k)) stored ∙ take-add n k (take n xs ++ ys)
    ∙ (λ j. take_at (take n xs) ys n front j ++ take k (drop_at (take n xs) ys n front j))
