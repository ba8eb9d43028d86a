use Rattle.std.proofs.Common.{sym}
use Rattle.rt_command.proofs.WordLemmas.{cut_to, too_many}
use Rattle.rt_command.proofs.parsing.in_words.Goals as goal

pub returns-then-is_some : goal.returns-then-is_some
returns-then-is_some c =
    let one = cut_to c.args.line.now c.cut_word.result.0.now c.cut_word.result.1 c.in-Some.rest c.cut_word.ensures c.in-Some.is in
    let two = cut_to c.in-Some.rest.now c.cut_word-2.result.0.now c.cut_word-2.result.1 c.in-Some-rest.rest c.cut_word-2.ensures c.in-Some-rest.is in
    let three = cut_to c.in-Some-rest.rest.now c.cut_word-3.result.0.now c.cut_word-3.result.1 c.in-Some-rest-2.rest c.cut_word-3.ensures c.in-Some-rest-2.is in
    too_many c.args.line.now c.in-Some.rest.now c.in-Some-rest.rest.now c.in-Some-rest-2.rest.now c.cut_word.result.0.now c.cut_word-2.result.0.now c.cut_word-3.result.0.now c.cut_word-4.result.0.now
    c.cut_word-4.result.1 one two three c.cut_word-4.ensures (sym c.if-is_some.ensures)
