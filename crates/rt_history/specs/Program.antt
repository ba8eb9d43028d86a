-- What a task's program is and how it begins.
use Rattle.std.specs.Prelude.{ℕ, ◌-◌, Bool, false, List, [], ◌++◌, length, replicate}
use Rattle.rt_exec.specs.State.{State}
use Rattle.rt_image.specs.SystemFile.{SetTask}

-- pc, registers and RAM, whether its accesses are split, the bytes that it has written, and whether a write was refused since its output
-- had no room for it
pub record Program : Type 0 where
  pub state : State
  pub split : Bool
  pub output : List ℕ
  pub full : Bool

-- what a program is loaded from: the address of its first instruction, the bytes of its image, the size of its RAM, and whether its
-- accesses are split
pub record Origin : Type 0 where
  pub entry : ℕ
  pub bytes : List ℕ
  pub ram : ℕ
  pub split : Bool

-- At first its RAM is the image and then zeros, pc is the entry, each register is 0, and nothing is written.
abbrev pub loaded : Origin → Program
loaded o = record {
  state = record {
    pc = o.entry;
    x = replicate 32 0;
    ram = o.bytes ++ replicate (o.ram - length o.bytes) 0;
  };
  split = o.split;
  output = [];
  full = false;
}

-- what a task of a set is loaded from
abbrev pub origin : SetTask → Origin
origin s = record { entry = s.object.entry; bytes = s.object.bytes; ram = s.ram; split = s.split }

abbrev pub first_program : SetTask → Program
first_program s = loaded (origin s)
