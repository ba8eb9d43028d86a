use Rattle.rt_desk.proofs.Common.{◌+◌, drop, sym, take-append-drop}
use Rattle.rt_desk.proofs.reading.texts.ended_lines.Goals as goal

pub returns-in-Some : goal.returns-in-Some
returns-in-Some c = (drop (c.in-Some.last + 1) c.args.text.now, sym (take-append-drop (c.in-Some.last + 1) c.args.text.now))
