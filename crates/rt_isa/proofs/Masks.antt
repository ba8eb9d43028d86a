-- The masks of the table, as quotients and remainders.
use Rattle.rt_isa.proofs.Common.{◌≡◌, ℕ, ◌+◌, ◌*◌, ◌/◌, ◌%◌, ◌^◌, ◌<◌, refl, bit_and, and_mask}
use Rattle.rt_isa.proofs.Rows.{and10, and17}

pub seven : (w : ℕ) → bit_and w 0x7F ≡ w % 128
seven w = and_mask w 7

pub ten : (w : ℕ) → bit_and w 0x707F ≡ w / 4096 % 8 * 4096 + w % 128
ten w = rw (and10 w, and_mask (w / 4096) 3, and_mask w 7) refl

pub seventeen : (w : ℕ) → w < 2 ^ 32 → bit_and w 0xFE00707F ≡ w / 33554432 * 33554432 + (w / 4096 % 8 * 4096 + w % 128)
seventeen w range = rw (and17 w range, and_mask (w / 4096) 3, and_mask w 7) refl
