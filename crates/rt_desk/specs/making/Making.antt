-- How a file is made: whole or not at all, at whatever moment the machine stops.
use Rattle.std.specs.Prelude.{◌≡◌, ◌≢◌, ◌⊎◌, ℕ, ◌<◌, ◌≤◌, ◌+◌, ◌^◌, ◌-◌, ◌==◌, not, take, length, List, ◌++◌, codes, decimal, Some, None, Result, Ok, Err, IfErr, OnErr, true}
use Rattle.std.specs.List.{suffix_len}
use Rattle.rt_desk.specs.Desk.{Files}
use Rattle.rt_desk.specs.declared.desk.MakeFault.{MakeFault}
use Rattle.rt_desk.specs.declared.desk.MakeFault.TheVariants.{Refused}
use Rattle.rt_desk.specs.declared.reason.Reason.TheVariants.{Memory}
use Rattle.rt_desk.specs.making.Disk.{Standing, After, Same, SameBut}

-- a path up to its last slash
abbrev pub folder : List ℕ → List ℕ
folder path = take (length path - suffix_len (λ b. not (b == 47)) path) path

-- the paths beside a file at which its bytes may be gathered
abbrev pub beside : List ℕ → ℕ → List ℕ
beside path number = folder path ++ codes ".rt_sim.part" ++ decimal number

-- one of them, but for the file itself
abbrev pub IsBeside : List ℕ → List ℕ → Type 0
IsBeside path other = (number : ℕ) × (number < 2 ^ 16) × (other ≡ beside path number) × (other ≢ path)

-- one of them at which nothing stood
pub record IsPart (files : Files) (path part : List ℕ) : Type 0 where
  pub name : IsBeside path part
  pub free : files part ≡ None

-- the file of this path has what it had or all of the bytes, and all else is as it was, but for the part beside it
pub record IsOldOrNew (path bytes part : List ℕ) (old new : Files) : Type 0 where
  pub file : (new path ≡ old path) ⊎ (new path ≡ Some bytes)
  pub others : (other : List ℕ) → other ≢ path → other ≢ part → new other ≡ old other

-- each of the paths beside a file is taken, but for the file's own
abbrev pub AreTaken : List ℕ → Files → Type 0
AreTaken path files = (number : ℕ) → number < 2 ^ 16 → beside path number ≢ path → files (beside path number) ≢ None

-- The file of a path is made of these bytes, and all else is as it was. Else all is as it was, but for a part beside it.
abbrev pub Puts : List ℕ → List ℕ → Result (Unit {0}) MakeFault → Files → Files → Type 0
Puts path bytes (Ok done) old new = (new path ≡ Some bytes) × SameBut path old new
Puts path bytes (Err fault) old new = Same old new ⊎ ((part : List ℕ) × IsPart old path part × SameBut part old new)

-- A crash while it is made leaves all as it was, or the file so or as it was, and one part beside it.
abbrev pub Tears : Files → List ℕ → List ℕ → Files → Files → Type 0
Tears files path bytes old new = Same old new ⊎ ((part : List ℕ) × IsPart files path part × IsOldOrNew path bytes part old new)

-- what comes of making the file of a path, behind whose links the target is
pub record MakesFile (path target bytes : List ℕ) (result : Result (Unit {0}) MakeFault) (old new : Standing) : Type 0 where
  pub files : Puts target bytes result old.files new.files
  -- a crash at whatever moment of the call, or now
  pub any_moment : (left : Files) → new.left_since old.moment left → After (Tears old.files target bytes) old.may_leave left
  -- the part is left only where its removal failed too
  pub removed : OnErr result (new.faults ≤ old.faults + 1 → Same old.files new.files)
  -- a part that is left of an earlier run is no reason to fail, unless each name is taken
  pub cause : IfErr result (λ fault. old.refuses path ⊎ (old.faults < new.faults) ⊎ (fault ≡ Refused Memory) ⊎ AreTaken target old.files)

-- the same, where a disk tells what stands on it, of a path that isn't written in place
abbrev pub Makes : List ℕ → List ℕ → Result (Unit {0}) MakeFault → Standing → Standing → Type 0
Makes path bytes result old new = (target : List ℕ) → old.tells ≡ true → old.place path ≡ Some target → MakesFile path target bytes result old new
