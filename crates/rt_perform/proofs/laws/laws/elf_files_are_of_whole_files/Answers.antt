use Rattle.rt_perform.proofs.Common.{ap, Bool, first_kind}
use Rattle.std.proofs.Common.{◌&&◌}
use Rattle.rt_desk.specs.reading.Extent.{takes_elf_files}
use Rattle.rt_perform.proofs.laws.Linked.{linked, stands_same, none_same}
use Rattle.rt_perform.proofs.laws.laws.elf_files_are_of_whole_files.Goals as goal

pub returns-clause-linked : goal.returns-clause-linked
returns-clause-linked c request whole read some = ap (λ (is : Bool). takes_elf_files (first_kind request) && is) (linked (first_kind request) whole read some)

pub returns-clause-stands : goal.returns-clause-stands
returns-clause-stands c kind path whole read object left_out takes some elf = stands_same kind path whole read object left_out takes some elf

pub returns-clause-none : goal.returns-clause-none
returns-clause-none c kind whole read fault takes some elf = none_same kind whole read fault takes some elf
