-- What is said of a program that ended early.
use Rattle.std.specs.Prelude.{ℕ, List, ◌++◌, codes, decimal}
use Rattle.rt_admit.specs.FaultText.{admit_text}
use Rattle.rt_image.specs.FaultText.{image_text}
use Rattle.rt_text.specs.FaultText.{fault_text as text_fault_text}
use Rattle.rt_asm.specs.FaultText.{fault_text as source_fault_text}
use Rattle.rt_certify.specs.RefusalText.{refusal_text}
use Rattle.rt_opening.specs.declared.fault.LoadFault.{LoadFault}
use Rattle.rt_opening.specs.declared.fault.LoadFault.TheVariants.{BadSize, ImageTooBig, BadEntry}
use Rattle.rt_opening.specs.declared.fault.SimFault.{SimFault}
use Rattle.rt_opening.specs.declared.fault.SimFault.TheVariants.{Image, Admit, Load, Text, Source, NotCertified, NoTask, Memory, Device}

abbrev pub load_text : LoadFault → List ℕ
load_text BadSize = codes "load: BadSize"
load_text (ImageTooBig task) = codes "load: ImageTooBig task " ++ decimal task
load_text (BadEntry task) = codes "load: BadEntry task " ++ decimal task

abbrev pub sim_text : SimFault → List ℕ
sim_text (Image fault) = image_text fault
sim_text (Admit fault) = admit_text fault
sim_text (Load fault) = load_text fault
sim_text (Text fault) = text_fault_text fault
sim_text (Source fault) = source_fault_text fault
sim_text (NotCertified fault) = codes "certify: " ++ refusal_text fault
sim_text (NoTask task count) = codes "task " ++ decimal task ++ codes " of " ++ decimal count
sim_text Memory = codes "memory"
sim_text (Device fault) = codes "device after " ++ decimal fault.written ++ codes " bytes"
