use Rattle.rt_perform.proofs.Common.{first_kind}
use Rattle.rt_perform.proofs.laws.Placed.{placed, says_same, gives_same, refuses_same, takes_of}
use Rattle.rt_perform.proofs.laws.laws.placed_sets_are_of_whole_files.Goals as goal

pub returns-clause-placed : goal.returns-clause-placed
returns-clause-placed c request whole read some = placed (first_kind request) whole read some

pub returns-clause-gives : goal.returns-clause-gives
returns-clause-gives c request whole read files made file left_out some is =
    gives_same read whole (says_same (first_kind request) whole read some (takes_of (first_kind request) read is)) files made file left_out

pub returns-clause-refuses : goal.returns-clause-refuses
returns-clause-refuses c request whole read files made fault some is = refuses_same read whole (says_same (first_kind request) whole read some (takes_of (first_kind request) read is)) files made fault
