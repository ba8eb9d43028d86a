use Rattle.rt_perform.proofs.Common.{◌≡◌, ℕ, List, true, refl, sym, ap, subst, ◌∙◌}
use Rattle.rt_elf.specs.flat.ElfMagic.{is_elf}
use Rattle.rt_perform.specs.Objects.{GivesObject}
use Rattle.rt_perform.proofs.ObjectLemmas.{named_reads}
use Rattle.rt_perform.proofs.packing.put_object.Goals as goal

pub returns-in-Ok-object_of_elf-clause-put : goal.returns-in-Ok-object_of_elf-clause-put
returns-in-Ok-object_of_elf-clause-put c =
    let task = c.args.task.now in
    let made = c.in-Ok-object_of_elf.made in
    let elf : is_elf task.file.items ≡ true = ap is_elf (sym c.deref.ensures.value) ∙ sym c.is_elf.ensures ∙ c.if-not-is_elf.false in
    let means : GivesObject task.line.path.now task.file.items made.bytes made.left_out =
    subst (λ (file : List ℕ). GivesObject task.line.path.now file made.bytes made.left_out) c.deref-2.ensures.value c.in-Ok-object_of_elf.ensures.means
    in
    record {
      line = refl;
      stands = rw elf (made.bytes, means, refl);
      read = named_reads task.line.path.now means.0.items made.bytes means.2;
    }
