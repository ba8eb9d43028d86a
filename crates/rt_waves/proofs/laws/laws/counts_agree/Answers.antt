use Rattle.rt_waves.proofs.laws.CountLaws.{finish-counts, postponed-counts, fresh-counts, kept-counts}
use Rattle.rt_waves.proofs.laws.laws.counts_agree.Goals as goal

pub returns-clause-finish : goal.returns-clause-finish
returns-clause-finish c = finish-counts

pub returns-clause-postponed : goal.returns-clause-postponed
returns-clause-postponed c = postponed-counts

pub returns-clause-fresh : goal.returns-clause-fresh
returns-clause-fresh c = fresh-counts

pub returns-clause-kept : goal.returns-clause-kept
returns-clause-kept c = kept-counts
