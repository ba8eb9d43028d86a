use Rattle.rt_elf.proofs.Common.{◌∙◌}
use Rattle.rt_elf.proofs.flat.PlaceLemmas.{found}
use Rattle.rt_elf.proofs.flat.names.Names.address_in.Goals as goal

pub returns : goal.returns
returns c = c.copied.ensures ∙ c.get.ensures.value ∙ found c.args.name.now c.args.self.now.symbols.entries
