-- What the file of a text is to hold.
use Rattle.rt_desk.specs.declared.reading.kind.FileKind.{FileKind}
use Rattle.rt_desk.specs.declared.reading.kind.FileKind.TheVariants as kinds
use Rattle.rt_programs.specs.declared.printing.file_text.FileText.{FileText}
use Rattle.rt_programs.specs.declared.printing.file_text.FileText.TheVariants.{Solo, SoloPart, Certificate, Certificates, Listing, Contents}

abbrev pub text_kind : FileText → FileKind
text_kind (Solo ticks task) = kinds.Object
text_kind (SoloPart ticks task part) = kinds.Object
text_kind (Certificate question) = kinds.Object
text_kind Listing = kinds.Object
text_kind (Certificates question) = kinds.ObjectOrSystem
text_kind Contents = kinds.ObjectOrSystem
text_kind text = kinds.System
