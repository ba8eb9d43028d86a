-- A set file in place of a system file, as far as it was read, gives what the whole does.
use Rattle.rt_perform.proofs.Common.{◌≡◌, ℕ, true, List, [], ◌++◌, Option, Some, refl, sym, ap, ◌∙◌, inl, inr, Vec, Files, set_of, ProgramFault}
use Rattle.std.proofs.Common.{◌↔◌, ◌&&◌}
use Rattle.std.proofs.lemmas.List.{append-nil}
use Rattle.rt_set.specs.SetLines.{is_set}
use Rattle.rt_desk.specs.declared.reading.kind.FileKind.{FileKind}
use Rattle.rt_desk.specs.declared.reading.kind.FileKind.TheVariants.{System, ObjectOrSystem}
use Rattle.rt_desk.specs.reading.Extent.{takes_sets, IsEnough, IsNoSet}
use Rattle.rt_desk.specs.reading.Reads.{ReadsSome}
use Rattle.rt_desk.proofs.reading_laws.Sets.{set_law}
use Rattle.rt_desk.proofs.reading_laws.PlacedSets.{is_set_law}
use Rattle.rt_perform.specs.Packed.{GivesSystem, RefusesSet}
use Rattle.rt_perform.proofs.laws.Made.{set_stays}
use Rattle.rt_perform.proofs.laws.Requests.{refuses_set}

placed_on : (kind : FileKind) (read rest : List ℕ) → IsEnough kind read → (takes_sets kind && is_set (read ++ rest)) ≡ (takes_sets kind && is_set read)
placed_on System read rest enough = is_set_law read rest enough.1
placed_on ObjectOrSystem read rest enough = is_set_law read rest enough.2
placed_on kind read rest enough = refl

no_set : (kind : FileKind) (read : List ℕ) → takes_sets kind ≡ true → IsEnough kind read → IsNoSet read
no_set System read takes enough = enough.1
no_set ObjectOrSystem read takes enough = enough.2
no_set kind read takes enough = absurd cc

pub takes_of : (kind : FileKind) (read : List ℕ) → (takes_sets kind && is_set read) ≡ true → takes_sets kind ≡ true
takes_of System read is = refl
takes_of ObjectOrSystem read is = refl
takes_of kind read is = is

pub whole_of : (read rest whole : List ℕ) → whole ≡ read ++ rest → rest ≡ [] → whole ≡ read
whole_of read rest whole is none = is ∙ ap (λ (r : List ℕ). read ++ r) none ∙ append-nil read

pub placed : (kind : FileKind) (whole read : List ℕ) → ReadsSome kind (Some whole) read → (takes_sets kind && is_set whole) ≡ (takes_sets kind && is_set read)
placed kind whole read (rest, is, inl none) = ap (λ (bytes : List ℕ). takes_sets kind && is_set bytes) (whole_of read rest whole is none)
placed kind whole read (rest, is, inr (long, enough)) = ap (λ (bytes : List ℕ). takes_sets kind && is_set bytes) is ∙ placed_on kind read rest enough

pub says_same : (kind : FileKind) (whole read : List ℕ) → ReadsSome kind (Some whole) read → takes_sets kind ≡ true → set_of whole ≡ set_of read
says_same kind whole read (rest, is, inl none) takes = ap set_of (whole_of read rest whole is none)
says_same kind whole read (rest, is, inr (long, enough)) takes = ap set_of is ∙ set_law read rest (no_set kind read takes enough)

gives : (a b : List ℕ) → set_of b ≡ set_of a → (files : Option Files) (made : Option (List ℕ)) (file : Vec ℕ) (left_out : ℕ) → GivesSystem files made a file left_out → GivesSystem files made b file left_out
gives a b like files made file left_out (lines, tasks, objects, is, read, stand, packs) = (lines, tasks, objects, set_stays a b like lines is, read, stand, packs)

pub gives_same : (a b : List ℕ) → set_of b ≡ set_of a → (files : Option Files) (made : Option (List ℕ)) (file : Vec ℕ) (left_out : ℕ) → GivesSystem files made a file left_out ↔ GivesSystem files made b file left_out
gives_same a b like files made file left_out = (gives a b like files made file left_out, gives b a (sym like) files made file left_out)

pub refuses_same : (a b : List ℕ) → set_of b ≡ set_of a → (files : Option Files) (made : Option (List ℕ)) (fault : ProgramFault) → RefusesSet files made a fault ↔ RefusesSet files made b fault
refuses_same a b like files made fault = (refuses_set a b like files made fault, refuses_set b a (sym like) files made fault)
