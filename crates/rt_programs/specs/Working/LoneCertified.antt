-- What an object that runs alone comes to.
use Rattle.std.specs.Prelude.{◌≡◌, ⊤, ℕ, Some, None, Result, Ok, Err}
use Rattle.rt_image.specs.ObjectFile.{ObjectValue}
use Rattle.rt_history.specs.Program.{origin}
use Rattle.rt_certify.specs.declared.certificate.NotCertified.{NotCertified}
use Rattle.rt_certify.specs.declared.certificate.PlacedCertificate.{PlacedCertificate}
use Rattle.rt_certify.specs.Refused.{IsRefused}
use Rattle.rt_opening.specs.declared.fault.SimFault.{SimFault}
use Rattle.rt_opening.specs.declared.fault.SimFault.TheVariants.{Memory, Admit, Load}
use Rattle.rt_programs.specs.Certify.{lone_task, lone_fault, IsPlacedFor}
use Rattle.rt_programs.specs.declared.question.Question.{Question}

-- its certificate, or why it has none; or why it can't be run; or there is no memory
abbrev pub Certifies : ObjectValue → Question → Result (Result PlacedCertificate NotCertified) SimFault → Type 0
Certifies o q (Ok (Ok placed)) = (lone_fault o q ≡ None) × IsPlacedFor o q placed
Certifies o q (Ok (Err e)) = (lone_fault o q ≡ None) × ((k : ℕ) × IsRefused (origin (lone_task o q)) q.start q.limits k e)
Certifies o q (Err Memory) = ⊤
Certifies o q (Err (Admit fault)) = lone_fault o q ≡ Some (Admit fault)
Certifies o q (Err (Load fault)) = lone_fault o q ≡ Some (Load fault)
Certifies o q (Err fault) = ⊥
