-- What the certificate of an object means.
use Rattle.std.specs.Prelude.{◌≡◌, ℕ, ◌≤◌, ◌++◌, ◌⊎◌, if◌then◌else◌, List, [], ◌∷◌, length, codes, decimal, Option, Some, None, IfSome, Result, Ok, Err}
use Rattle.std.specs.Option.{option_map}
use Rattle.rt_words.specs.Limits.{is_ram_size, tick_limit}
use Rattle.rt_image.specs.ObjectFile.{ObjectValue}
use Rattle.rt_image.specs.ObjectReading.{spelled_object}
use Rattle.rt_image.specs.declared.system.Version.TheVariants.{Two}
use Rattle.rt_image.specs.SystemFile.{SetTask, TaskSet}
use Rattle.rt_history.specs.Legal.{legal}
use Rattle.rt_history.specs.OwnPart.{own}
use Rattle.rt_history.specs.Program.{origin}
use Rattle.rt_core.specs.Loading.{load_fault}
use Rattle.rt_certify.specs.declared.certificate.Certificate.{Certificate}
use Rattle.rt_certify.specs.declared.certificate.Extremes.{Extremes}
use Rattle.rt_certify.specs.declared.certificate.JobAt.{JobAt}
use Rattle.rt_certify.specs.declared.certificate.Limits.{Limits}
use Rattle.rt_certify.specs.declared.certificate.PlacedCertificate.{PlacedCertificate}
use Rattle.rt_certify.specs.Certified.{IsCertificate}
use Rattle.rt_certify.specs.Extremes.{AreExtremes}
use Rattle.rt_certify.specs.Refused.{IsRefused}
use Rattle.rt_opening.specs.Faults.{sim_load_fault}
use Rattle.rt_opening.specs.Alone.{Spells}
use Rattle.rt_programs.specs.declared.question.Question.{Question}
use Rattle.rt_opening.specs.declared.fault.LoadFault.TheVariants.{BadSize}
use Rattle.rt_opening.specs.declared.fault.SimFault.{SimFault}
use Rattle.rt_opening.specs.declared.fault.SimFault.TheVariants as faults

-- the one task that runs this object, with the whole hart as its share, and the set of it
abbrev pub lone_task : ObjectValue → Question → SetTask
lone_task o q = record { budget = 1; period = 1; start = q.start; split = q.split; ram = q.ram; object = o }

abbrev pub lone_set : ObjectValue → Question → TaskSet
lone_set o q = record { version = Two; hyper = 1; tasks = lone_task o q ∷ [] }

-- why an object can't be run so
abbrev pub lone_fault : ObjectValue → Question → Option SimFault
lone_fault o q = if is_ram_size q.ram then option_map sim_load_fault (load_fault (lone_set o q)) else Some (faults.Load BadSize)

-- the line of a certificate
abbrev pub distance_text : Option ℕ → List ℕ
distance_text (Some d) = decimal d
distance_text None = codes "-"

abbrev pub next_text : Option ℕ → List ℕ
next_text (Some w) = codes " next " ++ decimal w
next_text None = codes " ended"

abbrev pub certificate_text : Certificate → List ℕ
certificate_text c =
    codes "certified " ++ decimal c.jobs ++ codes " longest " ++ decimal c.longest ++ codes " distance " ++ distance_text c.distance ++ next_text c.next ++ codes "\n"

-- the lines of the jobs that have its numbers
abbrev pub job_text : JobAt → List ℕ
job_text at = codes " job " ++ decimal at.job ++ codes " release " ++ decimal at.release ++ codes "\n"

abbrev pub longest_text : Option JobAt → List ℕ
longest_text (Some at) = codes "longest" ++ job_text at
longest_text None = []

abbrev pub closest_text : Option JobAt → List ℕ
closest_text (Some at) = codes "distance" ++ job_text at
closest_text None = []

abbrev pub places_text : Extremes → List ℕ
places_text e = longest_text e.longest ++ closest_text e.distance

-- the line of an object's certificate, and those of these jobs where they are asked for
abbrev pub placed_text : Question → PlacedCertificate → List ℕ
placed_text q placed = certificate_text placed.certificate ++ (if q.places then places_text placed.extremes else [])

-- The certificate of a program that is asked for so many jobs: these, or the program has ended with fewer, or its run alone comes to the
-- last tick with fewer.
pub record IsCertificateFor (o : ObjectValue) (q : Question) (c : Certificate) : Type 0 where
  pub attempts : ℕ
  pub is : IsCertificate (origin (lone_task o q)) q.start q.limits attempts c
  pub jobs : c.jobs ≤ q.jobs
  pub all : (c.jobs ≡ q.jobs) ⊎ ((c.next ≡ None) ⊎ (attempts ≡ length (own 0 (legal (lone_set o q) tick_limit))))

-- and the jobs that have its numbers, in the same run
abbrev pub IsPlacedFor : ObjectValue → Question → PlacedCertificate → Type 0
IsPlacedFor o q placed =
    (is : IsCertificateFor o q placed.certificate) × AreExtremes (origin (lone_task o q)) q.start is.attempts placed.certificate placed.extremes

-- Where jobs have one period, the longest job is no longer than the least distance: else no admitted set has a task with such a budget and
-- such a period. Of jobs of several periods nothing is said.
abbrev pub Fits : Limits → Certificate → Type 0
Fits l c = l.periods ≡ 1 → IfSome c.distance (λ d. c.longest ≤ d)

-- the certificate of a file's object is such a one, if it has one
abbrev pub CertifiesCalmly : List ℕ → Question → Type 0
CertifiesCalmly file q = (o : ObjectValue) → Spells file o → (c : Certificate) → IsCertificateFor o q c → Fits q.limits c

-- what the question on the object of a file means
abbrev pub CertifyMeans : List ℕ → Question → Result (List ℕ) SimFault → Type 0
CertifyMeans file q (Ok text) =
    (o : ObjectValue) × Spells file o × (lone_fault o q ≡ None) × ((placed : PlacedCertificate) × IsPlacedFor o q placed × (text ≡ placed_text q placed))
CertifyMeans file q (Err (faults.Image fault)) = spelled_object file ≡ Err fault
CertifyMeans file q (Err (faults.NotCertified e)) =
    (o : ObjectValue) × Spells file o × (lone_fault o q ≡ None)
    × ((k : ℕ) × IsRefused (origin (lone_task o q)) q.start q.limits k e)
CertifyMeans file q (Err fault) = (o : ObjectValue) × Spells file o × (lone_fault o q ≡ Some fault)
