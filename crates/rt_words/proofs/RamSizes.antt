-- Sizes of RAM as facts.
use Rattle.std.proofs.Common.{◌≡◌, ℕ, ◌%◌, ◌^◌, ◌<◌, ◌≤◌, true, ◌&&◌, leb, eqb, arith}
use Rattle.std.proofs.lemmas.Bool.{and_parts, leb-true, eqb-true}
use Rattle.rt_words.specs.Limits.{ram_limit, is_ram_size}

pub ram_size_parts : (size : ℕ) → is_ram_size size ≡ true → (4 ≤ size) × (size ≤ ram_limit) × (size % 4 ≡ 0)
ram_size_parts size e =
    let ends = and_parts (leb 4 size && leb size ram_limit) (eqb (size % 4) 0) e in
    let limits = and_parts (leb 4 size) (leb size ram_limit) ends.0 in
    (leb-true 4 size limits.0, leb-true size ram_limit limits.1, eqb-true (size % 4) 0 ends.1)

pub ram_size_below : (size : ℕ) → is_ram_size size ≡ true → size < 2 ^ 32
ram_size_below size e = let parts = ram_size_parts size e in omega (arith, parts.1)
