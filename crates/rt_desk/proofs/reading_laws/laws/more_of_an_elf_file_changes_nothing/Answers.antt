use Rattle.rt_desk.proofs.Common.{arith, sym, ◌∙◌, length-append}
use Rattle.rt_desk.proofs.reading_laws.ElfFiles.{too_large}
use Rattle.rt_desk.proofs.reading_laws.laws.more_of_an_elf_file_changes_nothing.Goals as goal

pub returns : goal.returns
returns c bytes more long = too_large _ (omega (arith, long, length-append bytes more)) ∙ sym (too_large bytes long)
