-- What follows enough bytes of a flat image changes nothing.
use Rattle.rt_desk.proofs.Common.{◌≡◌, ◌⊎◌, ℕ, ◌<◌, ◌≤◌, true, false, List, ◌++◌, length, Result, Ok, Err, refl, sym, ◌∙◌, arith, inl, inr, length-append}
use Rattle.std.proofs.Common.{true≢false}
use Rattle.std.proofs.lemmas.List.{take-append-le}
use Rattle.rt_words.specs.Limits.{image_limit}
use Rattle.rt_elf.specs.flat.ElfMagic.{is_elf}
use Rattle.rt_elf.specs.flat.FlatObject.{FlatMeans}
use Rattle.rt_elf.specs.declared.flat.fault.FlatFault.{FlatFault}
use Rattle.rt_elf.specs.declared.flat.fault.FlatFault.TheVariants.{IsElf, TooLarge, Names, Misplaced, BadEntry, Memory}
use Rattle.rt_elf.specs.declared.flat.entry.Entry.{Entry}
use Rattle.rt_elf.specs.declared.flat.making.Flat.{Flat}

magic_more : (bytes more : List ℕ) → 4 ≤ length bytes → is_elf (bytes ++ more) ≡ is_elf bytes
magic_more bytes more big = rw (take-append-le 4 bytes more big) refl

-- an image that is no ELF file and isn't too large isn't enough
neither : {X : Type 0} (bytes : List ℕ) → (is_elf bytes ≡ true) ⊎ (image_limit < length bytes) → is_elf bytes ≡ false → length bytes ≤ image_limit → X
neither bytes (inl elf) flat small = absurd (true≢false (sym elf ∙ flat))
neither bytes (inr large) flat small = absurd (omega (arith, large, small))

pub image_law : (bytes more : List ℕ) (entry : Entry) (names : List ℕ) (answer : Result Flat FlatFault) → 4 ≤ length bytes
    → (is_elf bytes ≡ true) ⊎ (image_limit < length bytes) → FlatMeans bytes entry names answer → FlatMeans (bytes ++ more) entry names answer
image_law bytes more entry names (Ok flat) big enough (named, address, makes, bytes_are, left_out) = neither bytes enough makes.read.flat makes.read.size
image_law bytes more entry names (Err Memory) big enough means = tt
image_law bytes more entry names (Err IsElf) big enough means = magic_more bytes more big ∙ means
image_law bytes more entry names (Err TooLarge) big enough (flat, large) = (magic_more bytes more big ∙ flat, omega (arith, large, length-append bytes more))
image_law bytes more entry names (Err (Names line)) big enough (flat, small, said) = neither bytes enough flat small
image_law bytes more entry names (Err Misplaced) big enough (named, read, misplaced) = neither bytes enough read.flat read.size
image_law bytes more entry names (Err BadEntry) big enough (named, read, own, bad) = neither bytes enough read.flat read.size
