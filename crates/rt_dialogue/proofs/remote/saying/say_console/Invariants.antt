-- What was said so far, and what is left of the text.
use Rattle.rt_dialogue.proofs.Common.{ℕ, List, length, HasSaid}
use Rattle.rt_dialogue.proofs.remote.ConsoleLemmas.{InConsole}
use Rattle.rt_dialogue.proofs.remote.saying.say_console.Given as goal

abbrev pub invariant-loop-rest : goal.invariant-loop-rest
invariant-loop-rest g l = (before : List ℕ) → HasSaid g.S.Sink.seen before l.initial.out → InConsole g.S.Sink.seen before l.text l.rest l.out

abbrev pub decreases-loop-rest : goal.decreases-loop-rest
decreases-loop-rest g l = length l.rest
