use Rattle.rt_isa.proofs.Common.{sym, arith}
use Rattle.rt_isa.proofs.Rows.{no_system, call_word, break_word}
use Rattle.rt_isa.proofs.decoding.system.Goals as goal

pub returns-in-115 : goal.returns-in-115
returns-in-115 c =
    rw c.in-115.is (sym call_word)

pub returns-in-1048691 : goal.returns-in-1048691
returns-in-1048691 c =
    rw c.in-1048691.is (sym break_word)

pub returns-in_default : goal.returns-in_default
returns-in_default c =
    no_system c.args.word (omega arith) c.requires (λ h. omega arith) (λ h. omega arith)
