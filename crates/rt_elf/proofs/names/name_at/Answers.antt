use Rattle.rt_elf.proofs.NameLemmas.{named_front}
use Rattle.rt_elf.proofs.names.name_at.Goals as goal

pub returns : goal.returns
returns c = named_front c.args.names.now c.args.at c.min.result c.end_place.result (c.min.ensures) c.end_place.ensures.value
