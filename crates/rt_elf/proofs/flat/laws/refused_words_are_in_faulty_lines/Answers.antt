use Rattle.rt_elf.proofs.flat.RefusedLemmas.{faulty_refused, refused_faulty}
use Rattle.rt_elf.proofs.flat.laws.refused_words_are_in_faulty_lines.Goals as goal

pub returns : goal.returns
returns c = λ line. (faulty_refused line, refused_faulty line)
