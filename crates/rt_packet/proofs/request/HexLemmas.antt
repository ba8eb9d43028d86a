-- The bytes of hexadecimal digits, one by one.
use Rattle.rt_packet.proofs.Common.{◌≡◌, ℕ, zero, suc, ◌+◌, ◌*◌, ◌/◌, ◌<◌, List, [], ◌∷◌, ◌++◌, length, take, get_or, refl, ap, arith, hex_bytes}
use Rattle.std.proofs.Common.{add-one}
use Rattle.rt_packet.specs.request.HexLines.{byte_of}

-- two digits are a byte
pub length-hex_bytes : (ds : List ℕ) → length (hex_bytes ds) ≡ length ds / 2
length-hex_bytes [] = refl
length-hex_bytes (a ∷ []) = refl
length-hex_bytes (a ∷ b ∷ ds) = omega (arith, length-hex_bytes ds)

-- the byte of the next two digits
pub next_byte : (k i j : ℕ) (ds : List ℕ) → i ≡ 2 * k → j ≡ i + 1 → j < length ds
    → take (k + 1) (hex_bytes ds) ≡ take k (hex_bytes ds) ++ byte_of (get_or ds i 0) (get_or ds j 0) ∷ []
next_byte k i j [] at next inside = absurd (omega (arith, inside))
next_byte k i j (a ∷ []) at next inside = absurd (omega (arith, inside, at, next))
next_byte zero i j (a ∷ b ∷ ds) at next inside =
    let first : i ≡ zero = omega arith in
    let second : j ≡ suc zero = omega arith in
    rw (first, second) refl
next_byte (suc k) i j (a ∷ b ∷ ds) at next inside =
    let first : i ≡ suc (suc (2 * k)) = omega arith in
    let second : j ≡ suc (suc (2 * k + 1)) = omega arith in
    let rest = next_byte k (2 * k) (2 * k + 1) ds refl refl (omega arith) in
    rw (first, second, add-one) (ap (λ bs. byte_of a b ∷ bs) (rw (add-one k) at rest))
