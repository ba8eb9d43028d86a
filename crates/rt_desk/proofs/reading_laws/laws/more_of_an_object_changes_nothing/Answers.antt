use Rattle.rt_desk.proofs.Common.{arith, sym, ◌∙◌, length-append}
use Rattle.rt_desk.proofs.reading_laws.ElfFiles.{over, too_large, enough}
use Rattle.rt_desk.proofs.reading_laws.Objects.{object_law}
use Rattle.rt_desk.proofs.reading_laws.laws.more_of_an_object_changes_nothing.Goals as goal

pub returns-clause-object : goal.returns-clause-object
returns-clause-object c bytes more long is = object_law bytes more (omega (arith, long)) (enough bytes is)

pub returns-clause-elf : goal.returns-clause-elf
returns-clause-elf c bytes more elf is =
    let large = over bytes elf is in too_large _ (omega (arith, large, length-append bytes more)) ∙ sym (too_large bytes large)
