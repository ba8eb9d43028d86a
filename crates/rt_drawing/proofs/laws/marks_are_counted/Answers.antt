use Rattle.rt_drawing.proofs.CountLaws.{fresh-counted, kept-counted, postponed-counted, yields-counted, grants-counted, refusals-counted}
use Rattle.rt_drawing.proofs.laws.marks_are_counted.Goals as goal

pub returns-clause-fresh : goal.returns-clause-fresh
returns-clause-fresh c = fresh-counted

pub returns-clause-kept : goal.returns-clause-kept
returns-clause-kept c = kept-counted

pub returns-clause-postponed : goal.returns-clause-postponed
returns-clause-postponed c = postponed-counted

pub returns-clause-yields : goal.returns-clause-yields
returns-clause-yields c = yields-counted

pub returns-clause-granted : goal.returns-clause-granted
returns-clause-granted c = grants-counted

pub returns-clause-refused : goal.returns-clause-refused
returns-clause-refused c = refusals-counted
