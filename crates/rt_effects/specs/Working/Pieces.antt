-- Pieces of text as they are appended one by one.
use Rattle.std.specs.Prelude.{ℕ, Bool, true, false, List, [], ◌++◌, Option, Some, None, option_and_then, codes}
use Rattle.std.specs.Option.{option_map_or}
use Rattle.rt_isa.specs.Table.{ins}
use Rattle.rt_exec.specs.State.{Registers}
use Rattle.rt_history.specs.declared.record.Attempt.{Attempt}
use Rattle.rt_effects.specs.Did.{carried_out}

-- what parts a piece from those before it
abbrev pub comma : Bool → List ℕ
comma true = codes ", "
comma false = []

-- a piece, if it is there, behind others or as the first
abbrev pub piece_text : Bool → Option (List ℕ) → List ℕ
piece_text begun None = []
piece_text begun (Some p) = comma begun ++ p

-- what stands where there are no pieces
abbrev pub nothing : Bool → List ℕ
nothing true = []
nothing false = codes "-"

-- those of an instruction that was carried out
abbrev pub next_pieces : List ℕ → Registers → Attempt → List (Option (List ℕ))
next_pieces x after a = option_map_or (carried_out x after a.pc) (option_and_then ins a.word) []
