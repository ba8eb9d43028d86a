-- What is kept of an instruction at an address.
use Rattle.std.specs.Prelude.{◌≡◌, ℕ, ◌≤◌, ◌<◌, ◌==◌, if◌then◌else◌, nat_lt, Bool, List, [], ◌++◌, length, take, slice_index, slice_get, Option, Some, None, IfSome, codes, decimal}
use Rattle.std.specs.Option.{option_map}
use Rattle.rt_words.specs.Hex.{hex}
use Rattle.rt_words.specs.Modular.{sum32}
use Rattle.rt_isa.specs.Table.{ins}
use Rattle.rt_isa.specs.declared.instruction.Ins.{Ins}
use Rattle.rt_points.specs.declared.access.Access.{Access}
use Rattle.rt_points.specs.Access.{accessed}
use Rattle.rt_effects.specs.Did.{target, source}
use Rattle.rt_effects.specs.TraceText.{TaskWords, place_text, instruction_text}
use Rattle.rt_effects.specs.declared.kept.Kept.{Kept}
use Rattle.rt_effects.specs.declared.kept.Reach.{Reach}

-- what stands in a line between its tick and what task i did at pc
abbrev pub middle_text : Bool → TaskWords → ℕ → ℕ → Option ℕ → List ℕ
middle_text is_one_of_several w i pc word =
    codes "\t" ++ decimal i ++ codes "\t" ++ hex 8 pc ++ codes "\t" ++ place_text is_one_of_several w pc ++ codes "\t" ++ instruction_text pc word ++ codes "\t"

-- the number of a register, 0 for none
abbrev pub number_of : Option ℕ → ℕ
number_of None = 0
number_of (Some r) = r

-- the name of a register that is written, and its value
abbrev pub name_text : ℕ → List ℕ
name_text r = if r == 0 then [] else codes "x" ++ decimal r ++ codes "="

abbrev pub value_text : ℕ → List ℕ → List ℕ
value_text r x = if r == 0 then [] else hex 8 (slice_index x r)

-- what an instruction accesses, with these registers
abbrev pub reached : Reach → List ℕ → Access
reached r x = record { is_store = r.is_store; address = sum32 (slice_index x r.base) r.offset; bytes = r.bytes }

-- registers that there are, and few bytes
pub record IsReach (r : Reach) : Type 0 where
  pub from : r.base < 32
  pub of : r.source < 32
  pub few : r.bytes ≤ 4

-- what is kept of a word that is an instruction
pub record IsSound (kept : Kept) : Type 0 where
  pub instruction : Ins
  pub decoded : ins kept.word ≡ Some instruction
  pub register : kept.written ≡ number_of (target instruction)
  pub within : kept.written < 32
  pub accesses : (x : List ℕ) → accessed x instruction ≡ option_map (λ r. reached r x) kept.reach
  pub stores : IfSome kept.reach (λ r. r.source ≡ source instruction)
  pub small : IfSome kept.reach IsReach
  pub few : kept.len ≤ 128

-- and its text is that of a task of these names and symbols
pub record IsKept (ws : List TaskWords) (kept : Kept) : Type 0 where
  pub sound : IsSound kept
  pub told : (w : TaskWords) → slice_get ws kept.task ≡ Some w →
      take kept.len kept.text ≡ middle_text (nat_lt 1 (length ws)) w kept.task kept.pc (Some kept.word) ++ name_text kept.written
