-- An ELF file in place of an object file, as far as it was read, stands for what the whole does.
use Rattle.rt_perform.proofs.Common.{◌≡◌, ℕ, ◌<◌, Bool, true, false, List, [], ◌++◌, length, Some, Ok, Err, refl, sym, ap, subst, ◌∙◌, inl, inr, arith, ProgramFault}
use Rattle.std.proofs.Common.{◌↔◌, ◌&&◌, ◌⊎◌, ◌≤◌}
use Rattle.std.proofs.lemmas.List.{length-append, take-append-le}
use Rattle.rt_elf.specs.flat.ElfMagic.{is_elf}
use Rattle.rt_desk.specs.declared.reading.kind.FileKind.{FileKind}
use Rattle.rt_desk.specs.declared.reading.kind.FileKind.TheVariants.{Object, ObjectOrSystem}
use Rattle.rt_desk.specs.reading.Extent.{elf_limit, block_size, takes_elf_files, most_for_object, exceeds, IsEnough}
use Rattle.rt_desk.specs.reading.Reads.{ReadsSome}
use Rattle.rt_desk.proofs.reading_laws.ElfFiles.{over}
use Rattle.rt_perform.specs.declared.program.ProgramFault.TheVariants.{Elf}
use Rattle.rt_perform.specs.Objects.{GivesObject, StandsAs, StandsForObject, StandsForNone}
use Rattle.rt_perform.proofs.laws.Made.{of_elf}
use Rattle.rt_perform.proofs.laws.Placed.{whole_of}

begins : (read rest : List ℕ) → block_size ≤ length read → is_elf (read ++ rest) ≡ is_elf read
begins read rest long = rw (take-append-le 4 read rest (omega (arith, long))) refl

pub linked : (kind : FileKind) (whole read : List ℕ) → ReadsSome kind (Some whole) read → is_elf whole ≡ is_elf read
linked kind whole read (rest, is, inl none) = ap is_elf (whole_of read rest whole is none)
linked kind whole read (rest, is, inr (long, enough)) = ap is_elf is ∙ begins read rest long

large : (kind : FileKind) (read : List ℕ) → takes_elf_files kind ≡ true → is_elf read ≡ true → IsEnough kind read → elf_limit < length read
large Object read takes elf enough = over read elf enough
large ObjectOrSystem read takes elf enough = over read elf enough.0
large kind read takes elf enough = absurd cc

gives : (a b : List ℕ) → (elf_limit < length a) × (elf_limit < length b) → (path object : List ℕ) (left_out : ℕ) → StandsAs true path a object left_out → StandsAs true path b object left_out
gives a b long path object left_out (made, (unnamed, means, named), is) = (made, (unnamed, of_elf a b long (Ok (record { bytes = unnamed; left_out = left_out })) means, named), is)

refuses : (a b : List ℕ) → (elf_limit < length a) × (elf_limit < length b) → (fault : ProgramFault) → StandsForNone a fault → StandsForNone b fault
refuses a b long (Elf fault task) means = of_elf a b long (Err fault) means
refuses a b long fault means = absurd means

-- both are too large, or they are the same
both : (kind : FileKind) (whole read : List ℕ) → takes_elf_files kind ≡ true → ReadsSome kind (Some whole) read → is_elf read ≡ true → (whole ≡ read) ⊎ ((elf_limit < length read) × (elf_limit < length whole))
both kind whole read takes (rest, is, inl none) elf = inl (whole_of read rest whole is none)
both kind whole read takes (rest, is, inr (long, enough)) elf =
    let more = large kind read takes elf enough in inr (more, omega (arith, more, length-append read rest, ap length is))

pub stands_same : (kind : FileKind) (path whole read object : List ℕ) (left_out : ℕ) → takes_elf_files kind ≡ true → ReadsSome kind (Some whole) read → is_elf read ≡ true
    → StandsForObject path read object left_out ↔ StandsForObject path whole object left_out
stands_same kind path whole read object left_out takes some elf = by (both kind whole read takes some elf)
  where
    by : (whole ≡ read) ⊎ ((elf_limit < length read) × (elf_limit < length whole)) → StandsForObject path read object left_out ↔ StandsForObject path whole object left_out
    by (inl same) = (subst (λ (file : List ℕ). StandsForObject path file object left_out) (sym same), subst (λ (file : List ℕ). StandsForObject path file object left_out) same)
    by (inr long) =
        rw (linked kind whole read some, elf) (gives read whole long path object left_out, gives whole read (long.1, long.0) path object left_out)

pub none_same : (kind : FileKind) (whole read : List ℕ) (fault : ProgramFault) → takes_elf_files kind ≡ true → ReadsSome kind (Some whole) read → is_elf read ≡ true
    → StandsForNone read fault ↔ StandsForNone whole fault
none_same kind whole read fault takes some elf = by (both kind whole read takes some elf)
  where
    by : (whole ≡ read) ⊎ ((elf_limit < length read) × (elf_limit < length whole)) → StandsForNone read fault ↔ StandsForNone whole fault
    by (inl same) = (subst (λ (file : List ℕ). StandsForNone file fault) (sym same), subst (λ (file : List ℕ). StandsForNone file fault) same)
    by (inr long) = (refuses read whole long fault, refuses whole read (long.1, long.0) fault)
