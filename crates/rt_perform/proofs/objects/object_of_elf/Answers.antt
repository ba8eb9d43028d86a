use Rattle.rt_elf.specs.ElfObject.{object_of}
use Rattle.rt_perform.proofs.ObjectLemmas.{no_room}
use Rattle.rt_perform.proofs.objects.object_of_elf.Goals as goal

pub path_named_file-requires : goal.path_named_file-requires
path_named_file-requires c =
    let means = c.in_ok-made.ensures.means in (object_of c.args.file.now, means.0.valid, means.1)

pub returns-in-Ok-clause-means : goal.returns-in-Ok-clause-means
returns-in-Ok-clause-means c = (c.in_ok-made.made.bytes, c.in_ok-made.ensures.means, c.in-Ok.ensures)

pub returns-in-Err-clause-means : goal.returns-in-Err-clause-means
returns-in-Err-clause-means c = no_room c.args.file.now c.in_ok-made.made c.in_ok-made.ensures.means
