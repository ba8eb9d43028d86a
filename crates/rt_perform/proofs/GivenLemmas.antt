-- What a request works on, and what is done of it.
use Rattle.rt_perform.proofs.Common.{◌≡◌, ℕ, Bool, true, false, List, [], Option, inl, inr, refl, subst, ap, sym, ◌∙◌, Vec, Seen, Files, Request}
use Rattle.std.proofs.Common.{◌||◌}
use Rattle.rt_sink.specs.Buffered.{BufferedSink}
use Rattle.rt_opening.specs.declared.fault.SimFault.TheVariants.{Memory}
use Rattle.rt_perform.specs.declared.program.ProgramFault.TheVariants.{Sim}
use Rattle.rt_perform.specs.declared.request.Request.TheVariants.{Print, Debug, Gdb, Asm, Elf, Image, Pack, Convert}
use Rattle.rt_perform.specs.Inputs.{AreRead}
use Rattle.rt_perform.specs.Objects.{GivesObject}
use Rattle.rt_perform.specs.Packed.{GivesSystem}
use Rattle.rt_perform.specs.Paths.{first_path, made_path}
use Rattle.rt_perform.specs.Given.{is_placed, is_linked, Becomes, IsGiven}
use Rattle.rt_perform.specs.Performs.{Performs}
use Rattle.rt_perform.specs.Working.Done.{PerformsGiven}
use Rattle.rt_perform.proofs.SaidLemmas.{no-memory}

-- a request that takes a system or an object has no list of names
no_names : (files : Option Files) (request : Request) (read names : List ℕ) → (is_placed request read || is_linked request read) ≡ true → AreRead files request read names → names ≡ []
no_names files (Image image object entry list name laid) read names taken are_read = absurd cc
no_names files (Print file text admission fail_on) read names taken are_read = are_read.3
no_names files (Debug system admission) read names taken are_read = are_read.3
no_names files (Gdb system admission) read names taken are_read = are_read.3
no_names files (Asm source object all name) read names taken are_read = are_read.3
no_names files (Elf file object name laid) read names taken are_read = are_read.3
no_names files (Pack set system) read names taken are_read = are_read.3
no_names files (Convert system converted) read names taken are_read = are_read.3

pub as_read : (files : Option Files) (request : Request) (read names : List ℕ) (less : ℕ) → AreRead files request read names → less ≡ 0 → is_placed request read ≡ false → is_linked request read ≡ false
    → IsGiven files request read names less
as_read files request read names less are_read none placed linked = record { read = read; are_read = are_read; becomes = rw (placed, linked) (refl, none) }

pub as_made : (files : Option Files) (request : Request) (read names first : List ℕ) (less : ℕ) → AreRead files request read names → (is_placed request read || is_linked request read) ≡ true
    → Becomes (is_placed request read) files request read first less → IsGiven files request first [] less
as_made files request read names first less are_read taken becomes =
    record { read = read; are_read = subst (λ (n : List ℕ). AreRead files request read n) (no_names files request read names taken are_read) are_read; becomes = becomes }

-- what was made of the one file
pub as_system : (files : Option Files) (request : Request) (read : List ℕ) (made : Vec ℕ) (less : ℕ) → is_placed request read ≡ true → GivesSystem files (made_path request) read made less
    → Becomes (is_placed request read) files request read made.items less
as_system files request read made less placed gives = rw placed (made, gives, refl)

pub as_object : (files : Option Files) (request : Request) (read : List ℕ) (made : Vec ℕ) (less : ℕ) → is_placed request read ≡ false → is_linked request read ≡ true
    → GivesObject (first_path request) read made less → Becomes (is_placed request read) files request read made.items less
as_object files request read made less placed linked gives = rw (placed, linked) (made, gives, refl)

module _ {D S : Type 0} (files : D → Option Files) (said : D → Option (List ℕ)) (is_deaf : D → Bool) (seen : S → Seen) (request : Request) (first names : List ℕ) (less : ℕ) (input : Option (List ℕ))
    (old : D) (out : BufferedSink S) (status : ℕ) (new : D) (after : BufferedSink S) where
  pub done : (read : List ℕ) (others : List ℕ) → AreRead (files old) request read others → IsGiven (files old) request first names less
      → PerformsGiven files said is_deaf seen request first names less input old out status new after → Performs files said is_deaf seen request input old out status new after
  done read others are_read given (result, is, inl (memory, kept, silent, reports)) =
      (result, is, inl (record { fault = Sim Memory; is = memory; nothing = inl (no-memory (files old) request read others (Sim Memory) refl are_read); kept = kept; silent = silent }, reports))
  done read others are_read given (result, is, inr (works, reports)) = (result, is, inr (first, record { names = names; less = less; given = given; works = works }, reports))
