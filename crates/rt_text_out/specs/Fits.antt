-- A text that is offered to a line of limited room.
use Rattle.std.proofs.Common.{◌≡◌, ℕ, ◌+◌, ◌≤◌, List, [], ◌++◌, length, length-append, append_assoc, sym, ap, ◌∙◌, arith}
use Rattle.std.proofs.lemmas.List.{append-nil}

-- where there is room for it, it stands behind what the line had
abbrev pub Fits : ℕ → List ℕ → List ℕ → List ℕ → Type 0
Fits room old text new = length old + length text ≤ room → new ≡ old ++ text

-- no text at all, and two parts
pub fits-nothing : (room : ℕ) (xs : List ℕ) → Fits room xs [] xs
fits-nothing room xs = λ _. sym (append-nil xs)

pub fits-joined : (room : ℕ) (xs a ys b zs : List ℕ) → Fits room xs a ys → Fits room ys b zs → Fits room xs (a ++ b) zs
fits-joined room xs a ys b zs first second = λ fits.
    let one = first (omega (arith, length-append a b, fits)) in
    let size : length ys ≡ length xs + length a = ap length one ∙ length-append xs a in
    second (omega (arith, length-append a b, fits, size)) ∙ ap (λ (l : List ℕ). l ++ b) one ∙ append_assoc xs a b
