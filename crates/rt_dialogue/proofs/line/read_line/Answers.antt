use Rattle.rt_dialogue.proofs.Common.{not, rules}
use Rattle.rt_dialogue.proofs.KeptLemmas.{next_line}
use Rattle.rt_dialogue.proofs.line.read_line.Goals as goal

pub returns-clause-line : goal.returns-clause-line
returns-clause-line g c = λ bytes unread.
    let (kept, behind) = c.in_ok-keep_line.ensures.kept bytes unread in
    (next_line bytes c.keep_line.new.line.items c.drop_end.new.line.items (not c.is_empty-is_there.result) kept c.drop_end.ensures (search rules), behind)
