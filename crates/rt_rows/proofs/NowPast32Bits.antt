-- The run of a task that starts at tick 2^32 - 1.
use Rattle.std.proofs.Common.{◌≡◌, ℕ, ◌+◌, ◌<◌, nat_le, false, List, [], ◌∷◌, ◌++◌, map, refl, sym, ap, subst, ◌∙◌, arith}
use Rattle.std.specs.List.{flat_map}
use Rattle.std.proofs.lemmas.Bool.Decides.{nat_tests}
use Rattle.rt_server.specs.Account.{Account}
use Rattle.rt_history.specs.declared.mode.Mode.TheVariants.{Asleep}
use Rattle.rt_history.specs.declared.record.Attempt.{Attempt}
use Rattle.rt_history.specs.declared.record.AttemptOutcome.TheVariants.{Next, Now}
use Rattle.rt_history.specs.declared.record.Record.{Record}
use Rattle.rt_history.specs.declared.record.Record.TheVariants.{Busy}
use Rattle.rt_history.specs.declared.record.Entry.TheVariants as entry
use Rattle.std.specs.Prelude.{Some}
use Rattle.rt_history.specs.MachineState.{MachineState}
use Rattle.rt_history.specs.Serving.{due_in}
use Rattle.rt_history.specs.Entries.{entries_from}
use Rattle.rt_history.specs.Working.Step.{first_task, woken_task, passed, IsIdleFor}
use Rattle.rt_history.proofs.Steps.{state_begins}
use Rattle.rt_trace.specs.HistoryText.{line}
use Rattle.rt_trace.specs.RunText.{run_text, end_text}
use Rattle.rt_trace.specs.declared.telling.Telling.TheVariants.{WithServers}
use Rattle.rt_rows.specs.Calling.{asking_late, now_past_32_bits_text}
use Rattle.rt_rows.proofs.Computing.{computing}
use Rattle.rt_rows.proofs.LateStart.{records_from, state_from, late_text}

-- how it stands at tick 0, and at tick 2^32 - 1
abbrev begun : MachineState
begun = record { hyper = 10; tick = 0; tasks = map (woken_task 0) (map first_task asking_late.tasks) }

abbrev woken : MachineState
woken = passed 4294967295 begun

-- a task stays asleep
asleep-still : (t w : ℕ) (a : Account) → t < w → due_in t (Asleep w) a ≡ record { account = a; mode = Asleep w }
asleep-still t w a before = let not_yet : nat_le w t ≡ false = grind (arith, nat_tests) in rw not_yet refl

idles : IsIdleFor 4294967295 begun
idles = record {
  idle = refl;
  quiet = λ k some below. rw (asleep-still (0 + k) 4294967295 _ (omega (arith, below))) refl;
}

abbrev first : Attempt
first = record { task = 0; pc = 0x80000000; word = Some 0x00400893; outcome = Next }

abbrev later : List Record
later = Busy (record { task = 0; pc = 0x80000004; word = Some 0x00700593; outcome = Next })
    ∷ Busy (record { task = 0; pc = 0x80000008; word = Some 0x00000013; outcome = Next })
    ∷ Busy (record { task = 0; pc = 0x8000000C; word = Some 0x00000073; outcome = Now 4294967298 })
    ∷ []

attempts : records_from 4 woken ≡ Busy first ∷ later
unfolding computing
attempts = refl

text : flat_map line (entry.Idle 0 4294967295 ∷ entries_from 4294967295 (records_from 4 woken)) ++ end_text WithServers (state_from 4 woken) ≡ now_past_32_bits_text
unfolding computing
text = refl

pub now_past_32_bits : run_text WithServers asking_late 4294967299 ≡ now_past_32_bits_text
now_past_32_bits =
    let begins = state_begins asking_late in
    late_text WithServers asking_late 4294967294 4 woken first later (subst (IsIdleFor 4294967295) (sym begins) idles) (ap (passed 4294967295) begins) attempts ∙ text
