use Rattle.rt_waves.proofs.laws.WindowLaws.{text-ends, text-begins, texts-meet}
use Rattle.rt_waves.proofs.laws.laws.windows_meet.Goals as goal

pub returns-clause-ends : goal.returns-clause-ends
returns-clause-ends c = text-ends

pub returns-clause-begins : goal.returns-clause-begins
returns-clause-begins c = text-begins

pub returns-clause-meet : goal.returns-clause-meet
returns-clause-meet c = texts-meet
