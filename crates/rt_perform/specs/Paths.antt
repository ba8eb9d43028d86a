-- The files of a request.
use Rattle.std.specs.Prelude.{ℕ, List, Bool, true, false, Option, Some, None}
use Rattle.std.specs.Option.{option_map}
use Rattle.rt_desk.specs.declared.reading.kind.FileKind.{FileKind}
use Rattle.rt_desk.specs.declared.reading.kind.FileKind.TheVariants as kinds
use Rattle.rt_programs.specs.printing.TextKind.{text_kind}
use Rattle.rt_perform.specs.declared.request.Request.{Request}
use Rattle.rt_perform.specs.declared.request.Request.TheVariants.{Print, Debug, Gdb, Asm, Elf, Image, Pack, Convert}

-- the file that is read first
abbrev pub first_path : Request → List ℕ
first_path (Print file text admission asked) = file.now
first_path (Debug system admission) = system.now
first_path (Gdb system admission) = system.now
first_path (Asm source object all name) = source.now
first_path (Elf file object name laid) = file.now
first_path (Image image object entry names name laid) = image.now
first_path (Pack set system) = set.now
first_path (Convert system converted) = system.now

-- and what it is to hold
abbrev pub source_kind : Bool → FileKind
source_kind true = kinds.WholeSource
source_kind false = kinds.Source

abbrev pub first_kind : Request → FileKind
first_kind (Print file text admission asked) = text_kind text
first_kind (Debug system admission) = kinds.System
first_kind (Gdb system admission) = kinds.System
first_kind (Asm source object all name) = source_kind all
first_kind (Elf file object name laid) = kinds.Elf
first_kind (Image image object entry names name laid) = kinds.Image
first_kind (Pack set system) = kinds.Set
first_kind (Convert system converted) = kinds.System

-- the list of names that is read behind it
abbrev pub names_path : Request → Option (List ℕ)
names_path (Image image object entry names name laid) = option_map (λ path. path.now) names
names_path request = None

-- the file that is made
abbrev pub made_path : Request → Option (List ℕ)
made_path (Print file text admission asked) = None
made_path (Debug system admission) = None
made_path (Gdb system admission) = None
made_path (Asm source object all name) = Some object.now
made_path (Elf file object name laid) = Some object.now
made_path (Image image object entry names name laid) = Some object.now
made_path (Pack set system) = Some system.now
made_path (Convert system converted) = Some converted.now
