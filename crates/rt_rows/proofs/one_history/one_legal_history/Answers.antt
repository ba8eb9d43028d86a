use Rattle.rt_history.proofs.Steps.{length-legal}
use Rattle.rt_rows.proofs.OneHistory.{one_legal, legal_is}
use Rattle.rt_rows.proofs.one_history.one_legal_history.Goals as goal

pub returns-clause-length : goal.returns-clause-length
returns-clause-length c = length-legal

pub returns-clause-legal : goal.returns-clause-legal
returns-clause-legal c = legal_is

pub returns-clause-one : goal.returns-clause-one
returns-clause-one c = one_legal
