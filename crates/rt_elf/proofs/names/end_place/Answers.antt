use Rattle.rt_elf.proofs.Common.{◌∙◌}
use Rattle.rt_elf.proofs.NameLemmas.{first_end}
use Rattle.rt_elf.proofs.names.end_place.Goals as goal

pub returns-clause-value : goal.returns-clause-value
returns-clause-value c = c.unwrap_or.ensures ∙ first_end c.args.bytes.now c.memchr.result c.memchr.ensures
