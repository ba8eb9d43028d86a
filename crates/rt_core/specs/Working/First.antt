-- Which tasks can be made, and their first wakes.
use Rattle.std.specs.Prelude.{◌≡◌, ℕ, ◌%◌, ◌≤◌, true, length, Option, Some}
use Rattle.rt_words.specs.Limits.{is_ram_size}
use Rattle.rt_image.specs.SystemFile.{SetTask}

-- a task that can be made
pub record IsMakeable (s : SetTask) : Type 0 where
  pub size : is_ram_size s.ram ≡ true
  pub fits : length s.object.bytes ≤ s.ram
  pub entry : s.object.entry % 4 ≡ 0
  pub budget : 1 ≤ s.budget
  pub period : s.budget ≤ s.period

-- the wake of a task that begins
abbrev pub start_key : SetTask → Option ℕ
start_key s = Some s.start
