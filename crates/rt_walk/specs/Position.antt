-- A machine with the ring of its last entries and its tasks' jobs, and how they relate to the first machine of a session.
use Rattle.std.specs.Prelude.{◌≡◌, ℕ, ◌≤◌, List, drop}
use Rattle.circular_buffer.specs.Buffer.{Buffer, keep_last}
use Rattle.rt_image.specs.SystemFile.{TaskSet}
use Rattle.rt_history.specs.declared.record.Entry.{Entry}
use Rattle.rt_history.specs.MachineState.{MachineState}
use Rattle.rt_history.specs.Legal.{legal, state_at}
use Rattle.rt_history.specs.Entries.{entries_from}
use Rattle.rt_walk.specs.declared.jobs.OpenJob.{OpenJob}
use Rattle.rt_walk.specs.Jobs.{Stand, stand_at}

-- the entries that a session keeps
abbrev pub ring_limit : ℕ
ring_limit = 256

pub record PositionState : Type 0 where
  pub machine : MachineState
  pub ring : Buffer Entry
  pub jobs : List OpenJob

abbrev pub stand_of : PositionState → Stand
stand_of p = record { machine = p.machine; jobs = p.jobs }

-- a machine stands in the legal history of a set, at its tick, and so do the jobs since `begin`
pub record IsAt (begin : Stand) (set : TaskSet) (s : Stand) : Type 0 where
  pub later : begin.machine.tick ≤ s.machine.tick
  pub stand : s ≡ stand_at begin set s.machine.tick

-- the entries of the ticks from `start` on, up to the one before `end`, of the legal history
abbrev pub entries_between : TaskSet → ℕ → ℕ → List Entry
entries_between set start end = entries_from start (drop start (legal set end))

-- Where the first machine stands in the legal history of a set, so does the second, at its tick, with the jobs since then; and the ring holds the last
-- entries of the ticks between them, at most 256 of them.
pub record IsReached (first now : PositionState) : Type 0 where
  pub later : first.machine.tick ≤ now.machine.tick
  pub room : now.ring.capacity ≡ ring_limit
  pub stands : (set : TaskSet) → first.machine ≡ state_at set first.machine.tick → now.machine ≡ state_at set now.machine.tick
  pub at : (set : TaskSet) → first.machine ≡ state_at set first.machine.tick → IsAt (stand_of first) set (stand_of now)
  pub kept : (set : TaskSet) → first.machine ≡ state_at set first.machine.tick
      → now.ring.items ≡ keep_last ring_limit (entries_between set first.machine.tick now.machine.tick)

-- where a session began, and what it shows
pub record WalkState : Type 0 where
  pub first : PositionState
  pub shown : PositionState
