use Rattle.rt_desk.proofs.Common.{ℕ, take, ap, ◌∙◌, block_size}
use Rattle.std.proofs.lemmas.List.{take_min}
use Rattle.rt_desk.proofs.reading.texts.first_block.Goals as goal

pub returns : goal.returns
returns c = ap (λ (n : ℕ). take n c.args.text.now) c.min.ensures ∙ take_min block_size c.args.text.now
