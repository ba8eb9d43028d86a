use Rattle.rt_elf.proofs.Common.{err_from_is_err_and}
use Rattle.rt_elf.proofs.RefusalLemmas.{refused}
use Rattle.rt_elf.proofs.making.elf_object.Goals as goal

pub returns-in_err-table-clause-means : goal.returns-in_err-table-clause-means
returns-in_err-table-clause-means c =
    let p = err_from_is_err_and c.from_residual.result c.from_residual.ensures.1 in
    rw (p.1, p.2) (refused c.args.file.now c.in_err-table.field-0.0 c.in_err-table.ensures)
