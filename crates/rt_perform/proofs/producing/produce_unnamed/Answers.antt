use Rattle.rt_perform.proofs.Common.{ℕ, List, subst}
use Rattle.std.specs.Prelude.{MatchResult}
use Rattle.rt_perform.specs.Produced.{GivesElf, RefusesElf, GivesImage, RefusesImage}
use Rattle.rt_perform.proofs.ProducedLemmas.{of_elf, of_image}
use Rattle.rt_perform.proofs.producing.produce_unnamed.Goals as goal

pub returns-in-Elf : goal.returns-in-Elf
returns-in-Elf g c =
    let files = g.D.Desk.files c.args.desk.now in
    let inputs = c.args.inputs.now in
    let path = c.args.path.now in
    let laid = c.in-Elf.laid.now in
    let r = c.elf_file.result in
    of_elf files c.args.request c.in-Elf.object c.in-Elf.name c.in-Elf.laid path inputs.first.items inputs.names.items inputs.left_out r c.in-Elf.file c.in-Elf.is c.requires
    (subst (λ (elf : List ℕ). MatchResult r (λ p. GivesElf files path laid elf p.bytes p.left_out) (λ fault. RefusesElf files path laid elf fault)) c.deref-in-Elf.ensures.value c.elf_file.ensures)

pub returns-in-Image : goal.returns-in-Image
returns-in-Image g c =
    let files = g.D.Desk.files c.args.desk.now in
    let inputs = c.args.inputs.now in
    let path = c.args.path.now in
    let laid = c.in-Image.laid.now in
    let entry = c.in-Image.entry in
    let first = inputs.first.items in
    let r = c.image_file.result in
    of_image files c.args.request c.in-Image.object c.in-Image.name c.in-Image.laid path first inputs.names.items inputs.left_out r c.in-Image.image entry c.in-Image.symbols c.in-Image.is c.requires
    (subst (λ (names : List ℕ). MatchResult r (λ p. GivesImage files path laid first entry names p.bytes p.left_out) (λ fault. RefusesImage files path laid first entry names fault)) c.deref-in-Image-2.ensures.value
    (subst (λ (image : List ℕ). MatchResult r (λ p. GivesImage files path laid image entry c.deref-in-Image-2.result.now p.bytes p.left_out) (λ fault. RefusesImage files path laid image entry c.deref-in-Image-2.result.now fault)) c.deref-in-Image.ensures.value c.image_file.ensures))
