-- What was read of a file, and the whole: each follows the other.
use Rattle.rt_perform.proofs.Common.{◌≡◌, ℕ, ◌<◌, true, List, [], ◌∷◌, ◌++◌, length, Some, Result, refl, sym, ap, subst, ◌∙◌, inl, inr, arith, set_of}
use Rattle.std.proofs.Common.{◌↔◌, ◌⊎◌, ◌≤◌, append_assoc}
use Rattle.std.proofs.lemmas.List.{append-nil, length-append, take-append-le}
use Rattle.rt_words.specs.Limits.{image_limit}
use Rattle.rt_text.specs.Text.{text_lines}
use Rattle.rt_elf.specs.flat.ElfMagic.{is_elf}
use Rattle.rt_image.specs.declared.fault.ImageFault.{ImageFault}
use Rattle.rt_image.specs.ObjectReading.{spelled_object}
use Rattle.rt_image.specs.SystemReading.{system_of}
use Rattle.rt_opening.specs.Alone.{Spells}
use Rattle.rt_opening.specs.Sets.{SpellsSet}
use Rattle.rt_programs.specs.Showing.{is_object}
use Rattle.rt_desk.specs.declared.reading.kind.FileKind.{FileKind}
use Rattle.rt_desk.specs.declared.reading.kind.FileKind.TheVariants.{Object, System, ObjectOrSystem, Source, WholeSource, Image, Elf, Set, Names}
use Rattle.rt_desk.specs.reading.Extent.{block_size, elf_limit, IsEnough}
use Rattle.rt_desk.specs.reading.Reads.{ReadsSome}
use Rattle.rt_desk.proofs.reading_laws.ElfFiles.{enough as enough_for_object}
use Rattle.rt_desk.proofs.reading_laws.Objects.{object_law}
use Rattle.rt_desk.proofs.reading_laws.RefusedSystems.{no_system_law}
use Rattle.rt_desk.proofs.reading_laws.Sources.{source_law}
use Rattle.rt_desk.proofs.reading_laws.Sets.{set_law}
use Rattle.rt_perform.proofs.laws.Bytes.{object_ends, system_ends}

-- the first file spells nothing, and the second is read alike
pub record Follows {V : Type 0} (Spelling : List ℕ → V → Type 0) (reading : List ℕ → Result V ImageFault) (a b : List ℕ) : Type 0 where
  pub none : (v : V) → Spelling a v → ⊥
  pub read : reading b ≡ reading a

abbrev pub Objects : List ℕ → List ℕ → Type 0
Objects a b = Follows Spells spelled_object a b

abbrev pub Systems : List ℕ → List ℕ → Type 0
Systems a b = Follows SpellsSet system_of a b

-- neither is a flat image that is taken, and for the same
pub record AreNoImages (a b : List ℕ) : Type 0 where
  pub elf : is_elf b ≡ is_elf a
  pub first : (is_elf a ≡ true) ⊎ (image_limit < length a)
  pub second : (is_elf b ≡ true) ⊎ (image_limit < length b)

-- by what a file is to hold
abbrev pub Same : FileKind → List ℕ → List ℕ → Type 0
Same Object a b = Objects a b
Same System a b = Systems a b
Same ObjectOrSystem a b = Objects a b × Systems a b × (is_object b ≡ is_object a)
Same Source a b = text_lines b ≡ text_lines a
Same WholeSource a b = text_lines b ≡ text_lines a
Same Image a b = AreNoImages a b
Same Elf a b = (elf_limit < length a) × (elf_limit < length b)
Same Set a b = set_of b ≡ set_of a
Same Names a b = Unit {0}

module _ {V : Type 0} (Spelling : List ℕ → V → Type 0) (reading : List ℕ → Result V ImageFault)
    (ends : (file : List ℕ) (v : V) → Spelling file v → reading (file ++ 0 ∷ []) ≡ reading file → ⊥) where
  settled : (bytes rest : List ℕ) → ((more : List ℕ) → reading (bytes ++ more) ≡ reading bytes) → Follows Spelling reading bytes (bytes ++ rest) × Follows Spelling reading (bytes ++ rest) bytes
  settled bytes rest law =
      let longer = ap reading (append_assoc bytes rest (0 ∷ [])) ∙ law (rest ++ 0 ∷ []) ∙ sym (law rest) in
      (record { none = λ v is. ends bytes v is (law (0 ∷ [])); read = law rest }, record { none = λ v is. ends (bytes ++ rest) v is longer; read = sym (law rest) })

no_image : (bytes rest : List ℕ) → is_elf (bytes ++ rest) ≡ is_elf bytes → (is_elf bytes ≡ true) ⊎ (image_limit < length bytes) → (is_elf (bytes ++ rest) ≡ true) ⊎ (image_limit < length (bytes ++ rest))
no_image bytes rest elf (inl is) = inl (elf ∙ is)
no_image bytes rest elf (inr large) = inr (omega (arith, large, length-append bytes rest))

same : (kind : FileKind) (bytes rest : List ℕ) → block_size ≤ length bytes → IsEnough kind bytes → Same kind bytes (bytes ++ rest) × Same kind (bytes ++ rest) bytes
same Object bytes rest long enough = settled Spells spelled_object object_ends bytes rest (λ more. object_law bytes more (omega (arith, long)) (enough_for_object bytes enough))
same System bytes rest long enough = settled SpellsSet system_of system_ends bytes rest (λ more. no_system_law bytes more (omega (arith, long)) enough.0)
same ObjectOrSystem bytes rest long enough =
    let object = settled Spells spelled_object object_ends bytes rest (λ more. object_law bytes more (omega (arith, long)) (enough_for_object bytes enough.0)) in
    let system = settled SpellsSet system_of system_ends bytes rest (λ more. no_system_law bytes more (omega (arith, long)) enough.1) in
    let begins : is_object (bytes ++ rest) ≡ is_object bytes = rw (take-append-le 4 bytes rest (omega (arith, long))) refl in
    ((object.0, system.0, begins), (object.1, system.1, sym begins))
same Source bytes rest long enough = let law = source_law bytes rest (omega (arith, long)) enough in (law, sym law)
same WholeSource bytes rest long enough = absurd enough
same Image bytes rest long enough =
    let elf : is_elf (bytes ++ rest) ≡ is_elf bytes = rw (take-append-le 4 bytes rest (omega (arith, long))) refl in
    let more = no_image bytes rest elf enough in (record { elf = elf; first = enough; second = more }, record { elf = sym elf; first = more; second = enough })
same Elf bytes rest long enough = let more : elf_limit < length (bytes ++ rest) = omega (arith, enough, length-append bytes rest) in ((enough, more), (more, enough))
same Set bytes rest long enough = let law = set_law bytes rest enough in (law, sym law)
same Names bytes rest long enough = (tt, tt)

-- what bytes mean that were read by this kind, the whole means
pub of_whole : (kind : FileKind) (M : List ℕ → Type 0) → ((a b : List ℕ) → Same kind a b → Same kind b a → M a → M b) → (whole bytes : List ℕ) → ReadsSome kind (Some whole) bytes → M bytes ↔ M whole
of_whole kind M stays whole bytes (rest, is, inl none) =
    let all : whole ≡ bytes = is ∙ ap (λ (r : List ℕ). bytes ++ r) none ∙ append-nil bytes in (subst M (sym all), subst M all)
of_whole kind M stays whole bytes (rest, is, inr (long, enough)) =
    let follow = same kind bytes rest long enough in
    subst (λ (w : List ℕ). M bytes ↔ M w) (sym is) (stays bytes (bytes ++ rest) follow.0 follow.1, stays (bytes ++ rest) bytes follow.1 follow.0)
