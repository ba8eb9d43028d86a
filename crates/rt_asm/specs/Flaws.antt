-- What is wrong with each faulty line of a source.
use Rattle.std.specs.Prelude.{ℕ, ◌+◌, ◌-◌, nat_lt, is_some, length, if◌then◌else◌, List, [], ◌∷◌, ◌++◌, Option, Some, None, Result, Ok, Err}
use Rattle.std.specs.Option.{option_map, option_and_then}
use Rattle.std.specs.Result.{result_err}
use Rattle.rt_words.specs.Base.{base}
use Rattle.rt_words.specs.Limits.{image_limit}
use Rattle.rt_image.specs.ObjectFile.{Label}
use Rattle.rt_token.specs.Slice.{Slice}
use Rattle.rt_token.specs.declared.pieces.Span.{Span}
use Rattle.rt_text.specs.AllFaults.{told}
use Rattle.rt_text.specs.Line.{SourceLine}
use Rattle.rt_text.specs.Meaning.{or_else}
use Rattle.rt_text.specs.Operands.{span_at}
use Rattle.rt_text.specs.Text.{text_lines}
use Rattle.rt_text.specs.declared.fault.TextFault.{TextFault}
use Rattle.rt_asm.specs.AllFaults.{behind, mended, new_label, new_labels, room_of}
use Rattle.rt_asm.specs.Code.{statement_code}
use Rattle.rt_asm.specs.Labels.{address_in}
use Rattle.rt_asm.specs.Layout.{Layout, fault_at, layout, line_layout}
use Rattle.rt_asm.specs.Size.{statement_size}
use Rattle.rt_asm.specs.declared.fault.AsmFault.{AsmFault}
use Rattle.rt_asm.specs.declared.fault.AsmKind.{AsmKind}
use Rattle.rt_asm.specs.declared.flaws.Flaw.{Flaw}
use Rattle.rt_asm.specs.declared.flaws.Reason.{Reason}
use Rattle.rt_asm.specs.declared.flaws.Reason.TheVariants as reason
use Rattle.rt_asm.specs.Reasons.{number_reason, line_reason}

-- the first label of a line that is defined before it
abbrev pub repeated : ℕ → List Label → List Slice → Option Span
repeated place labels [] = None
repeated place labels (s ∷ ss) = if is_some (address_in labels s.text) then Some (span_at s) else repeated place (new_label place labels s.text) ss

-- which limit an image that ends there, with so many labels, exceeds
abbrev pub too_large : ℕ → ℕ → Reason
too_large end labels = if nat_lt (base + image_limit) end then reason.Image (end - base) else reason.Labels labels

-- why a line isn't laid out whose labels are new: by the size of its statement, or its end
abbrev pub size_reason : Layout → SourceLine → Result ℕ AsmKind → Option Reason
size_reason before line (Err kind) = option_and_then number_reason line.statement
size_reason before line (Ok size) = Some (too_large (before.place + size) (length (new_labels before.place before.labels line.labels)))

-- why a line isn't laid out behind others
abbrev pub layout_reason : Layout → SourceLine → AsmKind → Option Reason
layout_reason before line kind =
    or_else (option_map reason.Duplicate (repeated before.place before.labels line.labels)) (size_reason before line (statement_size before.place line.statement))

-- a fault of a line, and why it has it
abbrev pub with_reason : (AsmKind → Option Reason) → Option AsmKind → Option (AsmKind × Option Reason)
with_reason why fault = option_map (λ kind. (kind, why kind)) fault

abbrev pub flaw_at : ℕ → AsmKind × Option Reason → Flaw
flaw_at n found = record { fault = fault_at n found.0; reason = found.1 }

-- the flaws of the layout of lines, as `layout_faults` tells their faults
abbrev pub layout_flaws : ℕ → Layout → List SourceLine → List Flaw
layout_flaws n before [] = []
layout_flaws n before (l ∷ ls) =
    told flaw_at n (with_reason (layout_reason before l) (result_err (line_layout before l))) ++ behind (mended before l) (λ after. layout_flaws (n + 1) after ls)

-- the flaws of their operands, as `operand_faults` tells their faults
abbrev pub operand_flaws : List Label → ℕ → ℕ → List SourceLine → List Flaw
operand_flaws labels n place [] = []
operand_flaws labels n place (l ∷ ls) =
    told flaw_at n (with_reason (line_reason labels place l.statement) (result_err (statement_code labels place l.statement)))
    ++ operand_flaws labels (n + 1) (place + room_of place l.statement) ls

-- the flaws of a source that is laid out so: those of its operands, or else of its layout
abbrev pub flaws_under : Result Layout AsmFault → List SourceLine → List Flaw
flaws_under (Ok plan) lines = operand_flaws plan.labels 1 base lines
flaws_under (Err fault) lines = layout_flaws 1 (record { place = base; labels = [] }) lines

abbrev pub source_flaws : List SourceLine → List Flaw
source_flaws lines = flaws_under (layout lines) lines

-- the flaws of a text that is read as this
abbrev pub flaws_of : Result (List SourceLine) TextFault → List Flaw
flaws_of (Ok lines) = source_flaws lines
flaws_of (Err fault) = []

-- all faults of a text's layout, or else of its operands, each with why the line has it
abbrev pub all_flaws : List ℕ → List Flaw
all_flaws text = flaws_of (text_lines text)
