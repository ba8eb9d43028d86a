-- Files that are laid into an image, one after the other.
use Rattle.rt_perform.proofs.Common.{◌≡◌, ℕ, suc, ◌<◌, List, [], ◌∷◌, Option, inl, inr, length, subst, sym, ap, ◌∙◌, arith, Files, ProgramFault}
use Rattle.std.proofs.Common.{◌+◌, drop, drop-cons}
use Rattle.std.specs.Prelude.{slice_index_or}
use Rattle.rt_perform.specs.declared.request.LaidFile.{LaidFile}
use Rattle.rt_perform.specs.Laid.{SpellsObject, IsLaid, AreLaid, IsUnlaid, AreUnlaid}

module _ (files : Option Files) (made : List ℕ) (elf : Option (List ℕ)) where
  -- what is made is an object file
  pub one_spells : (file : LaidFile) (old new : List ℕ) → IsLaid files made elf file old new → SpellsObject new
  one_spells file old new (bytes, read, (o, p, was, lays, valid, is)) = (p, valid, is)

  pub all_spell : (laid : List LaidFile) (old new : List ℕ) → SpellsObject old → AreLaid files made elf laid old new → SpellsObject new
  all_spell [] old new spells same = subst SpellsObject (sym same) spells
  all_spell (file ∷ rest) old new spells (mid, is, later) = all_spell rest mid new (one_spells file old mid is) later

  -- the first of those that are left; it is laid into what stands so far
  first_left : (all : List LaidFile) (i : ℕ) (d : LaidFile) → i < length all → drop i all ≡ slice_index_or all i d ∷ drop (i + 1) all
  first_left all i d within =
      let next : suc i ≡ i + 1 = omega arith in drop-cons all i d within ∙ ap (λ (n : ℕ). slice_index_or all i d ∷ drop n all) next

  pub laid_first : (all : List LaidFile) (i : ℕ) (d : LaidFile) (from old mid new : List ℕ) → i < length all → from ≡ old → IsLaid files made elf (slice_index_or all i d) from mid → AreLaid files made elf (drop (i + 1) all) mid new
      → AreLaid files made elf (drop i all) old new
  laid_first all i d from old mid new within same is later =
      subst (λ (l : List LaidFile). AreLaid files made elf l old new) (sym (first_left all i d within)) (mid, subst (λ (o : List ℕ). IsLaid files made elf (slice_index_or all i d) o mid) same is, later)

  pub unlaid_first : (all : List LaidFile) (i : ℕ) (d : LaidFile) (from old : List ℕ) (fault : ProgramFault) → i < length all → from ≡ old → IsUnlaid files made elf (slice_index_or all i d) from fault
      → AreUnlaid files made elf (drop i all) old fault
  unlaid_first all i d from old fault within same is =
      subst (λ (l : List LaidFile). AreUnlaid files made elf l old fault) (sym (first_left all i d within)) (inl (subst (λ (o : List ℕ). IsUnlaid files made elf (slice_index_or all i d) o fault) same is))

  pub unlaid_later : (all : List LaidFile) (i : ℕ) (d : LaidFile) (from old mid : List ℕ) (fault : ProgramFault) → i < length all → from ≡ old → IsLaid files made elf (slice_index_or all i d) from mid → AreUnlaid files made elf (drop (i + 1) all) mid fault
      → AreUnlaid files made elf (drop i all) old fault
  unlaid_later all i d from old mid fault within same is later =
      subst (λ (l : List LaidFile). AreUnlaid files made elf l old fault) (sym (first_left all i d within))
      (inr (mid, subst (λ (o : List ℕ). IsLaid files made elf (slice_index_or all i d) o mid) same is, later))
