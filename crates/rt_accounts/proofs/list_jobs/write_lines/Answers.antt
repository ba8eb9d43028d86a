use Rattle.std.proofs.Common.{rules}
use Rattle.rt_accounts.proofs.list_jobs.write_lines.Goals as goal

pub returns-clause-writes : goal.returns-clause-writes
returns-clause-writes g c = λ set stands told named.
    let ends = c.end_lines.ensures.ends set stands told named in
    let counts = ends.2 in
    (ends.0, ends.1, search rules)
