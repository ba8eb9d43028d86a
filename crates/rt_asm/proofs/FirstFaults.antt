-- All faults of a source, and the one that it is refused for.
use Rattle.rt_asm.proofs.Common.{◌≡◌, ℕ, ◌+◌, ◌≤◌, ◌<◌, Bool, true, false, List, [], ◌∷◌, ◌++◌, Option, Some, None, Result, Ok, Err, refl, sym, ap, ◌∙◌, arith, is_some, if◌then◌else◌, codes, ok_or, Label, Slice, SourceLine, ◌>>=◌, mapped, base, next, Code, statement_code, code_size, address_in, Layout, with_labels, within_limits, line_layout, layout_from, layout, fault_at, statement_size, end_from, assembled, AsmFault, AsmKind, DuplicateLabel}
use Rattle.std.specs.Result.{result_err, result_unwrap_or}
use Rattle.rt_text.specs.AllFaults.{told}
use Rattle.rt_text.proofs.FaultLemmas.{Begins}
use Rattle.rt_words.specs.Run.{run}
use Rattle.rt_asm.specs.AllFaults.{new_labels, room_of, mended, behind, layout_faults, operand_faults, faults_under, source_faults}
use Rattle.rt_asm.specs.Source.{line_end, started}
use Rattle.rt_asm.specs.declared.fault.AsmKind.TheVariants.{NoEntry}
use Rattle.rt_asm.proofs.LayoutLemmas.{at_end}
use Rattle.rt_asm.proofs.SizeLemmas.{statement_len}

-- labels that are all new are added
all_new : (place : ℕ) (ls : List Label) (names : List Slice) (more : List Label) → with_labels place ls names ≡ Ok more → new_labels place ls names ≡ more
all_new place ls [] more h = cc
all_new place ls (s ∷ ss) more h = by (is_some (address_in ls s.text)) (λ e. all_new place (at_end place ls s.text) ss more e) h
  where
    by : (b : Bool) → (with_labels place (at_end place ls s.text) ss ≡ Ok more → new_labels place (at_end place ls s.text) ss ≡ more)
        → ◌>>=◌ (if b then Err DuplicateLabel else Ok (at_end place ls s.text)) (λ found. with_labels place found ss) ≡ Ok more
        → new_labels place (if b then ls else at_end place ls s.text) ss ≡ more
    by true each e = cc
    by false each e = each e

-- a line that is laid out needs no mending
mended_ok : (before : Layout) (line : SourceLine) (mid : Layout) → line_layout before line ≡ Ok mid → mended before line ≡ Ok mid
mended_ok before line mid h = by_labels (with_labels before.place before.labels line.labels) (λ ls e. all_new before.place before.labels line.labels ls e) h
  where
    by_size : (ls : List Label) (r : Result ℕ AsmKind) → ◌>>=◌ r (λ size. within_limits (before.place + size) ls) ≡ Ok mid → within_limits (before.place + result_unwrap_or r 0) ls ≡ Ok mid
    by_size ls (Ok size) e = e
    by_size ls (Err k) e = cc

    by_labels : (r : Result (List Label) AsmKind) → ((ls : List Label) → r ≡ Ok ls → new_labels before.place before.labels line.labels ≡ ls)
        → ◌>>=◌ r (λ labels. ◌>>=◌ (statement_size before.place line.statement) (λ size. within_limits (before.place + size) labels)) ≡ Ok mid → mended before line ≡ Ok mid
    by_labels (Ok ls) each e =
        ap (λ (m : List Label). within_limits (before.place + room_of before.place line.statement) m) (each ls refl) ∙ by_size ls (statement_size before.place line.statement) e
    by_labels (Err k) each e = cc

-- where the layout is refused
pub layout_first : (n : ℕ) (before : Layout) (lines : List SourceLine) (fault : AsmFault) → layout_from n before lines ≡ Err fault → Begins fault (layout_faults n before lines)
layout_first n before [] fault h = cc
layout_first n before (line ∷ lines) fault h = by (line_layout before line) (λ mid e. mended_ok before line mid e) (λ mid e. layout_first (n + 1) mid lines fault e) h
  where
    by : (r : Result Layout AsmKind) → ((mid : Layout) → r ≡ Ok mid → mended before line ≡ Ok mid)
        → ((mid : Layout) → layout_from (n + 1) mid lines ≡ Err fault → Begins fault (layout_faults (n + 1) mid lines))
        → next fault_at n r (λ mid. layout_from (n + 1) mid lines) ≡ Err fault
        → Begins fault (told fault_at n (result_err r) ++ behind (mended before line) (λ mid. layout_faults (n + 1) mid lines))
    by (Ok mid) whole each e =
        let b : Begins fault (layout_faults (n + 1) mid lines) = each mid e in
        record { rest = b.rest; is = ap (λ (m : Result Layout AsmKind). behind m (λ mid. layout_faults (n + 1) mid lines)) (whole mid refl) ∙ b.is }
    by (Err k) whole each e =
        let s : fault_at n k ≡ fault = cc in
        record { rest = behind (mended before line) (λ mid. layout_faults (n + 1) mid lines); is = ap (λ (f : AsmFault). f ∷ behind (mended before line) (λ mid. layout_faults (n + 1) mid lines)) s }

-- the place behind a statement that has code
room_is : (labels : List Label) (place : ℕ) (line : SourceLine) (code : Code) → statement_code labels place line.statement ≡ Ok code → place + code_size code ≡ place + room_of place line.statement
room_is labels place line code h = ap (λ (r : Result ℕ AsmKind). place + result_unwrap_or r 0) (sym (statement_len labels place line.statement code h))

-- where the operands are refused
pub operands_first : (labels : List Label) (n place : ℕ) (lines : List SourceLine) (fault : AsmFault) → end_from labels n place lines ≡ Err fault → Begins fault (operand_faults labels n place lines)
operands_first labels n place [] fault h = cc
operands_first labels n place (line ∷ lines) fault h =
    by (statement_code labels place line.statement) (λ code e. room_is labels place line code e) (λ end e. operands_first labels (n + 1) end lines fault e) h
  where
    by : (r : Result Code AsmKind) → ((code : Code) → r ≡ Ok code → place + code_size code ≡ place + room_of place line.statement)
        → ((end : ℕ) → end_from labels (n + 1) end lines ≡ Err fault → Begins fault (operand_faults labels (n + 1) end lines))
        → next fault_at n (mapped (λ code. place + code_size code) r) (λ end. end_from labels (n + 1) end lines) ≡ Err fault
        → Begins fault (told fault_at n (result_err r) ++ operand_faults labels (n + 1) (place + room_of place line.statement) lines)
    by (Ok code) room each e =
        let b : Begins fault (operand_faults labels (n + 1) (place + code_size code) lines) = each (place + code_size code) e in
        record { rest = b.rest; is = ap (λ (m : ℕ). operand_faults labels (n + 1) m lines) (sym (room code refl)) ∙ b.is }
    by (Err k) room each e =
        let s : fault_at n k ≡ fault = cc in
        record { rest = operand_faults labels (n + 1) (place + room_of place line.statement) lines; is = ap (λ (f : AsmFault). f ∷ operand_faults labels (n + 1) (place + room_of place line.statement) lines) s }

-- where they aren't
pub operands_none : (labels : List Label) (n place : ℕ) (lines : List SourceLine) (end : ℕ) → end_from labels n place lines ≡ Ok end → operand_faults labels n place lines ≡ []
operands_none labels n place [] end h = refl
operands_none labels n place (line ∷ lines) end h =
    by (statement_code labels place line.statement) (λ code e. room_is labels place line code e) (λ place e. operands_none labels (n + 1) place lines end e) h
  where
    by : (r : Result Code AsmKind) → ((code : Code) → r ≡ Ok code → place + code_size code ≡ place + room_of place line.statement)
        → ((place : ℕ) → end_from labels (n + 1) place lines ≡ Ok end → operand_faults labels (n + 1) place lines ≡ [])
        → next fault_at n (mapped (λ code. place + code_size code) r) (λ place. end_from labels (n + 1) place lines) ≡ Ok end
        → told fault_at n (result_err r) ++ operand_faults labels (n + 1) (place + room_of place line.statement) lines ≡ []
    by (Ok code) room each e = ap (λ (m : ℕ). operand_faults labels (n + 1) m lines) (sym (room code refl)) ∙ each (place + code_size code) e
    by (Err k) room each e = cc

-- a fault of lines is of no line before the first
pub later : {S : Type 0} (step : S → SourceLine → Result S AsmKind) (n : ℕ) (s : S) (lines : List SourceLine) (fault : AsmFault) → run fault_at step n s lines ≡ Err fault → n ≤ fault.line
later step n s [] fault h = cc
later {S = S} step n s (line ∷ lines) fault h = by (step s line) (λ t e. later step (n + 1) t lines fault e) h
  where
    by : (r : Result S AsmKind) → ((t : S) → run fault_at step (n + 1) t lines ≡ Err fault → n + 1 ≤ fault.line)
        → next fault_at n r (λ t. run fault_at step (n + 1) t lines) ≡ Err fault → n ≤ fault.line
    by (Ok t) each e = omega (arith, each t e)
    by (Err k) each e = let s : fault_at n k ≡ fault = cc in omega (arith, ap (λ (f : AsmFault). f.line) s)

abbrev start : Layout
start = record { place = base; labels = [] }

started_at : (labels : List Label) (fault : AsmFault) → started labels ≡ Err fault → fault.line ≡ 0
started_at labels fault h = by (address_in labels (codes "_start")) h
  where
    by : (o : Option ℕ) → mapped {B = ℕ × List Label} (λ entry. (entry, labels)) (ok_or o (fault_at 0 NoEntry)) ≡ Err fault → fault.line ≡ 0
    by None e = let s : fault_at 0 NoEntry ≡ fault = cc in sym (ap (λ (f : AsmFault). f.line) s)
    by (Some x) e = cc

-- a source that is assembled has no faults
pub assembled_none : (lines : List SourceLine) (made : ℕ × List Label) → assembled lines ≡ Ok made → source_faults lines ≡ []
assembled_none lines made h = by_layout (layout lines) h
  where
    by_end : (plan : Layout) (r : Result ℕ AsmFault) → end_from plan.labels 1 base lines ≡ r → ◌>>=◌ r (λ end. started plan.labels) ≡ Ok made → operand_faults plan.labels 1 base lines ≡ []
    by_end plan (Ok end) q e = operands_none plan.labels 1 base lines end q
    by_end plan (Err f) q e = cc

    by_layout : (r : Result Layout AsmFault) → ◌>>=◌ r (λ plan. ◌>>=◌ (end_from plan.labels 1 base lines) (λ end. started plan.labels)) ≡ Ok made → faults_under r lines ≡ []
    by_layout (Ok plan) e = by_end plan (end_from plan.labels 1 base lines) refl e
    by_layout (Err f) e = cc

-- nor has one that only lacks `_start`
pub no_entry_none : (lines : List SourceLine) (fault : AsmFault) → assembled lines ≡ Err fault → fault.line ≡ 0 → source_faults lines ≡ []
no_entry_none lines fault h none = by_layout (layout lines) refl h
  where
    by_end : (plan : Layout) (r : Result ℕ AsmFault) → end_from plan.labels 1 base lines ≡ r → ◌>>=◌ r (λ end. started plan.labels) ≡ Err fault → operand_faults plan.labels 1 base lines ≡ []
    by_end plan (Ok end) q e = operands_none plan.labels 1 base lines end q
    by_end plan (Err f) q e =
        let s : f ≡ fault = cc in
        absurd (omega (arith, later (line_end plan.labels) 1 base lines f q, ap (λ (f : AsmFault). f.line) s, none))

    by_layout : (r : Result Layout AsmFault) → layout lines ≡ r → ◌>>=◌ r (λ plan. ◌>>=◌ (end_from plan.labels 1 base lines) (λ end. started plan.labels)) ≡ Err fault → faults_under r lines ≡ []
    by_layout (Ok plan) q e = by_end plan (end_from plan.labels 1 base lines) refl e
    by_layout (Err f) q e =
        let s : f ≡ fault = cc in
        absurd (omega (arith, later line_layout 1 start lines f q, ap (λ (f : AsmFault). f.line) s, none))

-- of one that is refused for a line the first is that
pub refused_first : (lines : List SourceLine) (fault : AsmFault) → assembled lines ≡ Err fault → 0 < fault.line → Begins fault (source_faults lines)
refused_first lines fault h some = by_layout (layout lines) refl h
  where
    by_end : (plan : Layout) (r : Result ℕ AsmFault) → end_from plan.labels 1 base lines ≡ r → ◌>>=◌ r (λ end. started plan.labels) ≡ Err fault → Begins fault (operand_faults plan.labels 1 base lines)
    by_end plan (Ok end) q e = absurd (omega (arith, started_at plan.labels fault e, some))
    by_end plan (Err f) q e = let s : f ≡ fault = cc in operands_first plan.labels 1 base lines fault (q ∙ ap Err s)

    by_layout : (r : Result Layout AsmFault) → layout lines ≡ r → ◌>>=◌ r (λ plan. ◌>>=◌ (end_from plan.labels 1 base lines) (λ end. started plan.labels)) ≡ Err fault → Begins fault (faults_under r lines)
    by_layout (Ok plan) q e = by_end plan (end_from plan.labels 1 base lines) refl e
    by_layout (Err f) q e = let s : f ≡ fault = cc in layout_first 1 start lines fault (q ∙ ap Err s)
