-- What an instruction leaves as it was: all but its target and the bytes of its store.
use Rattle.std.specs.Prelude.{◌≡◌, ℕ, ◌≢◌, ◌⊎◌, false, List, length, slice_index, Option, Some, None}
use Rattle.rt_isa.specs.declared.instruction.Ins.{Ins}
use Rattle.rt_exec.specs.Change.{ChangedWithin}
use Rattle.rt_exec.specs.State.{State}
use Rattle.rt_points.specs.declared.access.Access.{Access}
use Rattle.rt_points.specs.Access.{accessed}
use Rattle.rt_effects.specs.Did.{target}

-- registers that are the same but for this one, and the same where it is x0
abbrev pub AreSameBut : Option ℕ → List ℕ → List ℕ → Type 0
AreSameBut None old new = new ≡ old
AreSameBut (Some r) old new = (length new ≡ length old) × ((k : ℕ) → (k ≢ r) ⊎ (k ≡ 0) → slice_index new k ≡ slice_index old k)

-- bytes that are the same, but at the addresses of this access where it is a store
abbrev pub ChangedBy : Option Access → List ℕ → List ℕ → Type 0
ChangedBy None old new = new ≡ old
ChangedBy (Some a) old new = ChangedWithin a.address a.bytes old new × (a.is_store ≡ false → new ≡ old)

-- what an instruction that is executed in a state leaves there
pub record Leaves (i : Ins) (old new : State) : Type 0 where
  pub registers : AreSameBut (target i) old.x new.x
  pub ram : ChangedBy (accessed old.x i) old.ram new.ram
