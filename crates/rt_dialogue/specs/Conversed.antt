-- What came of a session on a sink, whatever it is that a session says.
use Rattle.std.specs.Prelude.{◌≡◌, ◌⊎◌, ℕ, ◌^◌, ◌<◌, ◌≤◌, Bool, true, false, List, [], length, take, Some, None, Result, Ok, Err}
use Rattle.rt_sink.specs.Seen.{Seen}
use Rattle.rt_admit.specs.declared.admission.Admission.{Admission}
use Rattle.rt_image.specs.SystemFile.{TaskSet}
use Rattle.rt_history.specs.MachineState.{MachineState}
use Rattle.rt_history.specs.Legal.{state_at}
use Rattle.rt_core.specs.Loading.{load_fault_under}
use Rattle.rt_opening.specs.Sets.{SpellsSet, SetMeans}
use Rattle.rt_opening.specs.declared.fault.SimFault.TheVariants.{Memory, Device}
use Rattle.rt_dialogue.specs.declared.fault.DebugFault.{DebugFault}
use Rattle.rt_dialogue.specs.declared.fault.DebugFault.TheVariants.{Sim, Input}

-- A session ended early that had said this text. It has arrived; or, of a text below 2^64 bytes, so many of its first bytes as the
-- device's fault says. There is no other fault.
abbrev pub EndsBy : {S : Type 0} → (S → Seen) → DebugFault → List ℕ → S → Type 0
EndsBy seen Input text sink = (seen sink).contents ≡ Some text
EndsBy seen (Sim Memory) text sink = (seen sink).contents ≡ Some text
EndsBy seen (Sim (Device fault)) text sink = length text < 2 ^ 64 → (fault.written ≤ length text) × ((seen sink).contents ≡ Some (take fault.written text))
EndsBy seen (Sim fault) text sink = ⊥

-- a session that says such texts, all of its own or the first of it, came to its end, or ended early
abbrev pub Ends : {S : Type 0} → (S → Seen) → (List ℕ → Bool → Type 0) → Result (Unit {0}) DebugFault → S → Type 0
Ends seen Says (Ok x) sink = (text : List ℕ) × Says text true × ((seen sink).contents ≡ Some text)
Ends seen Says (Err fault) sink = (text : List ℕ) × Says text false × EndsBy seen fault text sink

-- the set of a file is loaded, where admission is required or waived, and a session of it goes so
abbrev pub Opens : {S : Type 0} → (S → Seen) → (TaskSet → MachineState → List ℕ → Bool → Type 0) → List ℕ → Admission → Result (Unit {0}) DebugFault → S → Type 0
Opens seen Says file admission result sink =
    (set : TaskSet) × SpellsSet file set × (load_fault_under admission set ≡ None) × Ends seen (Says set (state_at set 0)) result sink

-- What came of a session on the bytes of a file, and of a sink that had taken nothing. Where the file is refused, or there was no
-- memory before the session began, nothing was said.
abbrev pub Comes : {S : Type 0} → (S → Seen) → (TaskSet → MachineState → List ℕ → Bool → Type 0) → List ℕ → Admission → Result (Unit {0}) DebugFault → S → Type 0
Comes seen Says file admission (Ok x) sink = Opens seen Says file admission (Ok x) sink
Comes seen Says file admission (Err Input) sink = Opens seen Says file admission (Err Input) sink
Comes seen Says file admission (Err (Sim (Device fault))) sink = Opens seen Says file admission (Err (Sim (Device fault))) sink
Comes seen Says file admission (Err (Sim Memory)) sink = Opens seen Says file admission (Err (Sim Memory)) sink ⊎ ((seen sink).contents ≡ Some [])
Comes seen Says file admission (Err (Sim fault)) sink = SetMeans admission (λ _. []) file (Err fault) × ((seen sink).contents ≡ Some [])
