-- What `{:08x}` writes.
use Rattle.rt_certify.proofs.Common.{◌≡◌, ℕ, ◌^◌, ◌<◌, []}
use Rattle.std.proofs.Common.{◌-◌, false}
use Rattle.std.specs.Fmt.{digits, padded_integral, format_spec}
use Rattle.rt_words.specs.Hex.{hex}
use Rattle.rt_words.proofs.PaddedHex as printing

pub eight_digits : (n : ℕ) → n < 2 ^ 32 → padded_integral (format_spec 32 0 4 8 (2 ^ 64 - 1)) false [] (digits 16 false n) ≡ hex 8 n
eight_digits n fits = printing.eight_digits n fits
