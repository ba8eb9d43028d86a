use Rattle.rt_elf.proofs.Common.{label}
use Rattle.rt_image.specs.ObjectFile.{object_value}
use Rattle.rt_elf.proofs.naming.PathLemmas.{is_lacking}
use Rattle.rt_elf.proofs.naming.path_name.is_unnamed.Goals as goal

pub returns-in-Ok : goal.returns-in-Ok
returns-in-Ok c = (object_value c.in-Ok.object, c.in-Ok.ensures.exact, is_lacking label c.own_namer.result _ c.is_none.result c.own_namer.ensures.namer c.is_none.ensures)
