use Rattle.rt_text.proofs.SourceLemmas.{text_in_order}
use Rattle.rt_text.proofs.laws.pieces_are_slices_that_rise.Goals as goal

pub returns : goal.returns
returns c = text_in_order
