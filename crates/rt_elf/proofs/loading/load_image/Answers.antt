use Rattle.rt_elf.proofs.Common.{arith, ◌++◌, drop, length, length-take}
use Rattle.rt_elf.proofs.ImageLemmas.{small_image}
use Rattle.rt_elf.proofs.loading.load_image.Goals as goal

pub returns-clause-small : goal.returns-clause-small
returns-clause-small c =
    let small = small_image c.args.file.now c.requires.fit in
    omega (arith, small, length-take c.in_ok-image.image.len (c.fill.new.image ++ drop (length c.fill.new.image) c.in_ok-image.image.items), c.in_ok-image.ensures.len, c.image_size.ensures)
