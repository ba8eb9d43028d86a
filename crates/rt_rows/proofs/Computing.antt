-- What a row computes with.
use Rattle.rt_isa.specs.Table.{ins, row_of}
use Rattle.rt_isa.specs.Bits.{signed}
use Rattle.rt_words.specs.Hex.{hex}
use Rattle.std.specs.Fmt.{digits}
use Rattle.rt_exec.specs.mem.Access.{load, store, number, put}
use Rattle.rt_exec.specs.Attempt.{fetched, attempt}
use Rattle.rt_exec.specs.Effect.{effect}
use Rattle.rt_history.specs.Calls.{attempt_at}
use Rattle.rt_history.specs.Legal.{legal, state_at}

unfoldable pub computing : Unit {0}
unfolding ins row_of signed hex digits load store number put fetched attempt effect attempt_at legal state_at
computing = tt
