use Rattle.std.proofs.Common.{◌≡◌, arith}
use Rattle.std.proofs.lemmas.Grind.{common_steps}
use Rattle.rt_command.specs.CommandLine.{command_of}
use Rattle.rt_command.proofs.CommandLaws.{grammar_from}
use Rattle.rt_command.proofs.parsing.parse_command.Goals as goal

pub returns-clause-grammar : goal.returns-clause-grammar
returns-clause-grammar c =
    let read : c.ok_or.result ≡ command_of c.args.line.now = grind (arith, common_steps) in
    grammar_from c.args.line.now c.ok_or.result read
