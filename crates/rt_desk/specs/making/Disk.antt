-- What stands on a disk, what its calls do to that, and what a crash within them may leave.
use Rattle.std.specs.Prelude.{◌≡◌, ◌≢◌, ◌⊎◌, ℕ, ◌≤◌, ◌<◌, take, List, [], ◌++◌, Bool, true, false, Option, Some, None, Result, Ok, Err, string_bytes}
use Rattle.rt_desk.specs.Desk.{Files}
use Rattle.rt_desk.specs.declared.reason.Reason.{Reason}
use Rattle.rt_desk.specs.declared.reason.Reason.TheVariants.{Memory}
use Rattle.rt_desk.specs.declared.making.disk.Way.{Way}
use Rattle.rt_desk.specs.declared.making.disk.Way.TheVariants.{Replace, InPlace}

-- A disk at a moment.
pub record Standing : Type 1 where
  -- whether it tells what follows: a host doesn't, since others change its files at any time
  pub tells : Bool
  -- what stands at each path
  pub files : Files
  -- the path behind the links of another; None where it leads to what is written in place: a device, a pipe or a file of several names
  pub place : List ℕ → Option (List ℕ)
  -- what a crash of the machine or the run may leave now, and what one at some moment from an earlier one on might have left
  pub may_leave : Files → Type 0
  pub left_since : ℕ → Files → Type 0
  -- a number that doesn't fall
  pub moment : ℕ
  -- how often a call has failed, and the paths whose files may not be written
  pub faults : ℕ
  pub refuses : List ℕ → Type 0

-- this moment is one of those since an earlier one, and since this moment there is no other
pub record KeepsTime (disk : Standing) : Type 0 where
  pub counts_now : (t : ℕ) (left : Files) → t ≤ disk.moment → disk.may_leave left → disk.left_since t left
  pub only_now : (left : Files) → disk.left_since disk.moment left → disk.may_leave left

-- a disk that tells nothing
abbrev pub untold : Standing
untold = record { tells = false; files = λ path. None; place = λ path. None; may_leave = λ left. ⊥; left_since = λ t left. ⊥; moment = 0; faults = 0; refuses = λ path. ⊥ }

-- one of these after a step
abbrev pub After : (Files → Files → Type 0) → (Files → Type 0) → Files → Type 0
After step old new = (before : Files) × old before × step before new

-- A call does this to what stands on a disk, and a crash in it or behind it leaves what one before it might have left, so torn. What a
-- crash might have left before stays so.
pub record Passes (done torn : Files → Files → Type 0) (old new : Standing) : Type 0 where
  pub files : done old.files new.files
  pub now : (left : Files) → new.may_leave left → After torn old.may_leave left
  pub later : old.moment ≤ new.moment
  pub since : (t : ℕ) (left : Files) → t ≤ old.moment → new.left_since t left → old.left_since t left ⊎ After torn old.may_leave left
  pub keeps : (t : ℕ) (left : Files) → t ≤ old.moment → old.left_since t left → new.left_since t left
  pub faults : old.faults ≤ new.faults

-- the same, where the disk tells what stands on it
pub record Calls (done torn : Files → Files → Type 0) (old new : Standing) : Type 0 where
  pub tells : new.tells ≡ old.tells
  pub passes : old.tells ≡ true → Passes done torn old new

-- a call has failed
abbrev pub Fails : Standing → Standing → Type 0
Fails old new = old.tells ≡ true → old.faults < new.faults

-- all is as it was
abbrev pub Same : Files → Files → Type 0
Same old new = (path : List ℕ) → new path ≡ old path

-- all is as it was but for this path
abbrev pub SameBut : List ℕ → Files → Files → Type 0
SameBut but old new = (path : List ℕ) → path ≢ but → new path ≡ old path

-- how the file of a path is written
abbrev pub IsWay : {P : Type 0} → Standing → List ℕ → Way P → Type 0
IsWay disk path (Replace target permissions) = disk.tells ≡ true → disk.place path ≡ Some (string_bytes target)
IsWay disk path InPlace = disk.tells ≡ true → disk.place path ≡ None

-- it may not be written, or there is no memory
abbrev pub IsRefused : Standing → List ℕ → Reason → Type 0
IsRefused disk path reason = disk.tells ≡ true → (reason ≡ Memory) ⊎ disk.refuses path

-- an empty file of this path is made, which had none; or the path is taken
abbrev pub Creates : List ℕ → Result Bool Reason → Files → Files → Type 0
Creates path (Ok true) old new = (old path ≡ None) × (new path ≡ Some []) × SameBut path old new
Creates path (Ok false) old new = (old path ≢ None) × Same old new
Creates path (Err reason) old new = Same old new

-- it may be there in part
abbrev pub TearsNew : List ℕ → Result Bool Reason → Files → Files → Type 0
TearsNew path (Ok true) = SameBut path
TearsNew path (Ok false) = Same
TearsNew path (Err reason) = Same

-- so many of these bytes are added to the file of this path
abbrev pub Appends : List ℕ → List ℕ → Result ℕ (Option Reason) → Files → Files → Type 0
Appends path bytes (Ok count) old new = SameBut path old new × ((whole : List ℕ) → old path ≡ Some whole → new path ≡ Some (whole ++ take count bytes))
Appends path bytes (Err reason) old new = SameBut path old new

-- a crash leaves what stands at this path
abbrev pub IsDurable : List ℕ → Standing → Type 0
IsDurable path disk = disk.tells ≡ true → (left : Files) → disk.may_leave left → left path ≡ disk.files path

-- what stood at the first path stands at the second
abbrev pub Renames : List ℕ → List ℕ → Result (Unit {0}) Reason → Files → Files → Type 0
Renames from to (Ok done) old new = (new to ≡ old from) × (from ≢ to → new from ≡ None) × ((path : List ℕ) → path ≢ from → path ≢ to → new path ≡ old path)
Renames from to (Err reason) old new = Same old new

-- the second path has what it had, or what the first had
abbrev pub Moves : List ℕ → List ℕ → Files → Files → Type 0
Moves from to old new = ((new to ≡ old to) ⊎ (new to ≡ old from)) × ((path : List ℕ) → path ≢ from → path ≢ to → new path ≡ old path)

-- nothing stands at this path
abbrev pub Removes : List ℕ → Result (Unit {0}) Reason → Files → Files → Type 0
Removes path (Ok done) old new = (new path ≡ None) × SameBut path old new
Removes path (Err reason) old new = SameBut path old new
