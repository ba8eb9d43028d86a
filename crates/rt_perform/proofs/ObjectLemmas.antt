-- The object files that ELF files stand for.
use Rattle.rt_perform.proofs.Common.{◌≡◌, ℕ, Bool, true, false, List, Option, Some, None, Ok, Err, refl, sym, ap, subst, ◌∙◌, length, Vec, Request, Files}
use Rattle.std.proofs.Common.{◌≤◌, nat_lt}
use Rattle.std.proofs.lemmas.Bool.{le-ltb}
use Rattle.std.specs.Prelude.{Result}
use Rattle.std.specs.Result.{IsOk}
use Rattle.rt_words.specs.Limits.{symbol_limit}
use Rattle.rt_image.specs.ObjectFile.{ObjectValue, IsObject, spelling}
use Rattle.rt_image.specs.ObjectReading.{spelled_object}
use Rattle.rt_image.specs.declared.fault.ImageFault.{ImageFault}
use Rattle.rt_image.proofs.Objects.{image_again}
use Rattle.rt_elf.specs.declared.fault.ElfFault.TheVariants.{Memory}
use Rattle.rt_elf.specs.declared.making.Made.{Made}
use Rattle.rt_elf.specs.ElfObject.{ElfMeans, object_of}
use Rattle.rt_elf.specs.flat.FlatObject.{object_of as flat_object_of}
use Rattle.rt_elf.specs.KeptNames.{kept_names}
use Rattle.rt_elf.specs.naming.PathName.{HasName, path_name, NamesByPath}
use Rattle.rt_perform.specs.declared.request.Request.TheVariants.{Print, Debug, Gdb, Asm, Elf, Image, Pack, Convert}
use Rattle.rt_perform.proofs.LayLemmas.{all_spell}
use Rattle.rt_perform.specs.Produced.{GivesUnnamed, naming_path}
use Rattle.rt_perform.specs.Working.Naming.{MayBeNamed}

-- memory may run out behind all rows
pub no_room : (file : List ℕ) (made : Made) → ElfMeans file (Ok made) → ElfMeans file (Err Memory)
no_room file made means =
    let few : nat_lt symbol_limit (length (kept_names file).symbols) ≡ false = le-ltb symbol_limit (length (kept_names file).symbols) means.0.valid.count in
    means.0.taken ∙ rw few refl

-- an object with its name is one
pub named_reads : (path unnamed : List ℕ) (made : Vec ℕ) → NamesByPath path unnamed made → IsOk (spelled_object made.items)
named_reads path unnamed made (o, read, has) = by (path_name path o) has
  where
    is_ok : (file : List ℕ) (o : ObjectValue) → spelled_object file ≡ Ok o → IsOk (spelled_object file)
    is_ok file o read = subst (λ (r : Result ObjectValue ImageFault). IsOk r) (sym read) refl

    by : (name : Option (List ℕ)) → HasName name unnamed made → IsOk (spelled_object made.items)
    by None same = is_ok made.items o (ap spelled_object same ∙ read)
    by (Some name) means = is_ok made.items means.1 (ap spelled_object means.5 ∙ image_again means.1 means.4)

-- what gets its name from a path spells an object
pub may_be_named : (files : Option Files) (request : Request) (first names : List ℕ) (less : ℕ) (unnamed : Vec ℕ) (left_out : ℕ) → GivesUnnamed files request first names less unnamed left_out
    → MayBeNamed (naming_path request) unnamed.items
may_be_named files (Elf path object name laid) first names less unnamed left_out (made, means, are_laid) =
    all_spell files object.now (Some first) laid.now made.items unnamed.items (object_of first, means.0.valid, means.1) are_laid
may_be_named files (Image image object entry list name laid) first names less unnamed left_out (made, (named, address, makes, spelled, left), are_laid) =
    all_spell files object.now None laid.now made.items unnamed.items (flat_object_of first address named, makes.valid, spelled) are_laid
may_be_named files request first names less unnamed left_out means = tt
