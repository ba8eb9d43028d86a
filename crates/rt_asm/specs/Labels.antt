-- The labels of a source, and the addresses of targets.
use Rattle.std.specs.Prelude.{ℕ, List, [], ◌∷◌, map, Option, Some, None, Result, Ok, if◌then◌else◌}
use Rattle.std.specs.Option.{ok_or}
use Rattle.std.specs.Str.{bytes_eq}
use Rattle.rt_image.specs.ObjectFile.{Label}
use Rattle.rt_token.specs.Slice.{Slice}
use Rattle.rt_text.specs.declared.meaning.Target.{Target}
use Rattle.rt_text.specs.declared.meaning.Target.TheVariants as targets
use Rattle.rt_words.specs.Modular.{modulo}
use Rattle.rt_asm.specs.declared.fault.AsmKind.{AsmKind}
use Rattle.rt_asm.specs.declared.fault.AsmKind.TheVariants.{UndefinedLabel}

-- the address of the first label of this name
abbrev pub address_in : List Label → List ℕ → Option ℕ
address_in [] name = None
address_in (l ∷ ls) name = if bytes_eq name l.name then Some l.address else address_in ls name

-- the labels before a statement have its address
abbrev pub labels_at : ℕ → List Slice → List Label
labels_at place names = map (λ s. record { name = s.text; address = place }) names

-- the number that a target is: a label's address, or an absolute address modulo 2^32
abbrev pub address_of : List Label → Target → Result ℕ AsmKind
address_of labels (targets.Label s) = ok_or (address_in labels s.text) UndefinedLabel
address_of labels (targets.Number n) = Ok (modulo 32 n)
