use Rattle.rt_elf.proofs.ImageLemmas.{laid}
use Rattle.rt_elf.proofs.loading.lay.Goals as goal

pub returns : goal.returns
returns c = laid c.args.file.now c.args.header.now c.args.image.now c.copy_from_slice.new.self c.requires.some c.requires.low c.requires.high c.requires.whole c.copy_from_slice.ensures.after
