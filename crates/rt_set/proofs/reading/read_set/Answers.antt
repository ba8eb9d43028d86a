use Rattle.std.proofs.Common.{subst}
use Rattle.rt_set.specs.SetLines.{Reads}
use Rattle.rt_set.proofs.SetLaws.{is_found, set_again}
use Rattle.rt_set.proofs.FaultLaws.{is_refused}
use Rattle.rt_set.proofs.reading.read_set.Goals as goal

pub returns-clause-found : goal.returns-clause-found
returns-clause-found c = is_found c.args.text.now c.read_lines.result c.read_lines.ensures

pub returns-clause-only : goal.returns-clause-only
returns-clause-only c = λ s h. subst (λ r. Reads c.read_lines.result r) (set_again c.args.text.now s h) c.read_lines.ensures

pub returns-clause-refused : goal.returns-clause-refused
returns-clause-refused c = is_refused c.args.text.now c.read_lines.result c.read_lines.ensures
