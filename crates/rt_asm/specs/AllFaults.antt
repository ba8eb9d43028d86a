-- All lines of a text that are at fault.
use Rattle.std.specs.Prelude.{ℕ, ◌+◌, is_some, if◌then◌else◌, List, [], ◌∷◌, ◌++◌, map, Option, Result, Ok, Err}
use Rattle.std.specs.Result.{result_err, result_unwrap_or}
use Rattle.rt_words.specs.Base.{base}
use Rattle.rt_image.specs.ObjectFile.{Label}
use Rattle.rt_token.specs.Slice.{Slice}
use Rattle.rt_text.specs.AllFaults.{told, text_faults}
use Rattle.rt_text.specs.Line.{SourceStatement, SourceLine}
use Rattle.rt_text.specs.Text.{text_lines}
use Rattle.rt_text.specs.declared.fault.TextFault.{TextFault}
use Rattle.rt_asm.specs.Code.{statement_code}
use Rattle.rt_asm.specs.Labels.{address_in}
use Rattle.rt_asm.specs.Layout.{Layout, within_limits, line_layout, fault_at, layout}
use Rattle.rt_asm.specs.Size.{statement_size}
use Rattle.rt_asm.specs.declared.fault.AsmFault.{AsmFault}
use Rattle.rt_asm.specs.declared.fault.AsmKind.{AsmKind}
use Rattle.rt_asm.specs.declared.fault.LineFault.{LineFault}
use Rattle.rt_asm.specs.declared.fault.LineFault.TheVariants.{Text, Source}

-- the labels with those of a line; a name that is there keeps its place
abbrev pub new_label : ℕ → List Label → List ℕ → List Label
new_label place labels name =
    if is_some (address_in labels name) then labels else labels ++ record { name = name; address = place } ∷ []

abbrev pub new_labels : ℕ → List Label → List Slice → List Label
new_labels place labels [] = labels
new_labels place labels (s ∷ ss) = new_labels place (new_label place labels s.text) ss

-- the bytes that a statement takes: none where its size is at fault
abbrev pub room_of : ℕ → Option SourceStatement → ℕ
room_of place statement = result_unwrap_or (statement_size place statement) 0

-- the layout after a line, whatever is wrong with it, where it is within the limits
abbrev pub mended : Layout → SourceLine → Result Layout AsmKind
mended before line = within_limits (before.place + room_of before.place line.statement) (new_labels before.place before.labels line.labels)

-- what is told behind a line: nothing where the limits are passed
abbrev pub behind : {F : Type 0} → Result Layout AsmKind → (Layout → List F) → List F
behind (Ok after) later = later after
behind (Err kind) later = []

-- the faults of the layout of lines of which the first is line n: of each line its first
abbrev pub layout_faults : ℕ → Layout → List SourceLine → List AsmFault
layout_faults n before [] = []
layout_faults n before (l ∷ ls) =
    told fault_at n (result_err (line_layout before l)) ++ behind (mended before l) (λ after. layout_faults (n + 1) after ls)

-- the faults of the operands of lines of which the first is line n and stands at place
abbrev pub operand_faults : List Label → ℕ → ℕ → List SourceLine → List AsmFault
operand_faults labels n place [] = []
operand_faults labels n place (l ∷ ls) =
    told fault_at n (result_err (statement_code labels place l.statement)) ++ operand_faults labels (n + 1) (place + room_of place l.statement) ls

-- the faults of a source that is laid out so: those of its operands, or else of its layout
abbrev pub faults_under : Result Layout AsmFault → List SourceLine → List AsmFault
faults_under (Ok plan) lines = operand_faults plan.labels 1 base lines
faults_under (Err fault) lines = layout_faults 1 (record { place = base; labels = [] }) lines

abbrev pub source_faults : List SourceLine → List AsmFault
source_faults lines = faults_under (layout lines) lines

-- the faults of a text that is read as this: those of its lines, or else of itself
abbrev pub faults_of : Result (List SourceLine) TextFault → List ℕ → List LineFault
faults_of (Ok lines) text = map Source (source_faults lines)
faults_of (Err fault) text = map Text (text_faults text)

-- All faults of a text of one kind, each of another line, in order: of lines that are no assembly text; where there are none, of
-- the layout; where there are none, of operands. A missing `_start` is none of them.
abbrev pub all_faults : List ℕ → List LineFault
all_faults text = faults_of (text_lines text) text
