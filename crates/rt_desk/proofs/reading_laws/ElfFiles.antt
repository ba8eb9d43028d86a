-- ELF files: one that is too large is refused for that, whatever it holds, and in place of an object file one is read as far.
use Rattle.rt_desk.proofs.Common.{◌≡◌, ℕ, ◌+◌, ◌*◌, ◌<◌, true, false, nat_eq, nat_lt, nat_le, List, [], ◌∷◌, length, Option, Some, None, refl, sym, lt-ltb, inl, inr, cases_Bool, eqb-true}
use Rattle.std.proofs.Common.{codes, ◌&&◌}
use Rattle.std.proofs.lemmas.Bool.{ltb-true, and_parts}
use Rattle.std.specs.List.{starts_with}
use Rattle.rt_words.specs.Found.{◌>>=◌, when}
use Rattle.rt_words.specs.Limits.{image_limit, symbol_limit}
use Rattle.rt_elf.specs.declared.fault.ElfFault.TheVariants.{TooLarge}
use Rattle.rt_elf.specs.Refusals.{refusal}
use Rattle.rt_elf.specs.flat.ElfMagic.{is_elf}
use Rattle.rt_desk.specs.reading.Extent.{elf_limit, number_at, most_of_object, most_for_object, exceeds}

pub too_large : (file : List ℕ) → elf_limit < length file → refusal file ≡ Some TooLarge
unfolding refusal
too_large file large = let is : nat_lt elf_limit (length file) ≡ true = lt-ltb elf_limit (length file) large in rw is refl

pub over : (bytes : List ℕ) → is_elf bytes ≡ true → exceeds (most_for_object bytes) bytes ≡ true → elf_limit < length bytes
over bytes elf is = let large : nat_lt elf_limit (length bytes) ≡ true = rw elf at is in ltb-true elf_limit (length bytes) large

-- no object file begins as an ELF file does
other_magic : (bytes : List ℕ) → is_elf bytes ≡ true → starts_with nat_eq bytes (codes "RTI1") ≡ false
other_magic [] is = absurd cc
other_magic (b ∷ bs) is = let first : b ≡ 127 = sym (eqb-true 127 b (and_parts (nat_eq 127 b) _ is).0) in rw first refl

untaken : (bytes : List ℕ) (size count : Option ℕ) → starts_with nat_eq bytes (codes "RTI1") ≡ false
    → exceeds (size >>= λ image. count >>= λ symbols. when (starts_with nat_eq bytes (codes "RTI1") && nat_le image image_limit && nat_le symbols symbol_limit) (16 + image + symbols * 518)) bytes ≡ true
untaken bytes None count other = refl
untaken bytes (Some image) None other = refl
untaken bytes (Some image) (Some symbols) other = rw other refl

-- what is enough for either is enough for an object file
pub enough : (bytes : List ℕ) → exceeds (most_for_object bytes) bytes ≡ true → exceeds (most_of_object bytes) bytes ≡ true
enough bytes is =
    elim (cases_Bool (is_elf bytes)) [
      | inl elf ↦ untaken bytes (number_at 8 bytes) (number_at 12 bytes) (other_magic bytes elf)
      | inr other ↦ rw other at is
    ]
