use Rattle.rt_text.proofs.AsciiLemmas.{tells_ascii}
use Rattle.rt_text.proofs.line.reading.is_ascii.Goals as goal

pub returns : goal.returns
returns c = tells_ascii c.is_ascii.result c.args.bytes.now c.is_ascii.ensures.cases
