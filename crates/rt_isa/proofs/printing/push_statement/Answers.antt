use Rattle.rt_isa.proofs.Common.{sym}
use Rattle.std.proofs.Math.Seq.{take-append_seam, take-length}
use Rattle.rt_isa.proofs.Names.{text_of_none, text_of_data, statement_pushed}
use Rattle.rt_isa.proofs.printing.push_statement.Goals as goal

pub returns-in-Some-clause-text : goal.returns-in-Some-clause-text
returns-in-Some-clause-text c =
    λ is. statement_pushed c.args.address c.args.word c.in-Some.instruction c.args.line.now.items c.push_operands.new.line.items (sym c.in-Some.ensures) (rw (c.push_text.ensures.text, c.name_of.ensures.name) at (c.push_operands.ensures.text is))

pub returns-in-Some-clause-none : goal.returns-in-Some-clause-none
returns-in-Some-clause-none c = λ is. text_of_data c.args.address c.args.word c.in-Some.instruction (sym c.in-Some.ensures) (c.push_operands.ensures.none is)

pub returns-in-Some-clause-front : goal.returns-in-Some-clause-front
returns-in-Some-clause-front c = λ is. rw (c.push_operands.ensures.kept is, c.push_text.ensures.text) (take-append_seam c.args.line.now.items c.name_of.result.now)

pub returns-in-None-clause-none : goal.returns-in-None-clause-none
returns-in-None-clause-none c = λ _. text_of_none c.args.address c.args.word (sym c.in-None.ensures)

pub returns-in-None-clause-front : goal.returns-in-None-clause-front
returns-in-None-clause-front c = λ _. take-length c.args.line.now.items
