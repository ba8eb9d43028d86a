use Rattle.rt_text.proofs.RefusedLaws.{refused_agrees}
use Rattle.rt_text.proofs.laws.refused_words_are_in_faulty_lines.Goals as goal

pub returns : goal.returns
returns c = refused_agrees
