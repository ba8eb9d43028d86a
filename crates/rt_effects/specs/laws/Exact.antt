-- The bytes of an access are just those that decide whether it is carried out.
use Rattle.std.specs.Prelude.{◌≡◌, ℕ, Bool, if◌then◌else◌, List, Option, Some, None}
use Rattle.rt_exec.specs.declared.mem.access_fault.AccessFault.{AccessFault}
use Rattle.rt_exec.specs.mem.Access.{is_allowed, is_inside}
use Rattle.rt_exec.specs.declared.outcome.Fault.TheVariants.{LoadMisaligned, LoadAccess, StoreMisaligned, StoreAccess}
use Rattle.rt_exec.specs.declared.outcome.Outcome.{Outcome}
use Rattle.rt_exec.specs.declared.outcome.Outcome.TheVariants as outcomes
use Rattle.rt_exec.specs.Effect.{fault_of}
use Rattle.rt_points.specs.declared.access.Access.{Access}

-- how an attempt with this access comes out: it goes on where all its bytes are in RAM, at an address that is allowed
abbrev pub access_outcome : Bool → List ℕ → Access → Outcome
access_outcome split ram a =
    if is_allowed split a.bytes a.address
    then if is_inside a.bytes ram a.address then outcomes.Next else outcomes.Fault (if a.is_store then StoreAccess else LoadAccess)
    else outcomes.Fault (if a.is_store then StoreMisaligned else LoadMisaligned)

-- an outcome is that of this access; where there is none, it is no fault of an access
abbrev pub IsOf : Bool → List ℕ → Option Access → Outcome → Type 0
IsOf split ram None outcome = (fault : AccessFault) → outcome ≡ outcomes.Fault (fault_of fault) → ⊥
IsOf split ram (Some a) outcome = outcome ≡ access_outcome split ram a
