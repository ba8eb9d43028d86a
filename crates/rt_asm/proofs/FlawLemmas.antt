-- The flaws of a source are of its faults.
use Rattle.rt_asm.proofs.Common.{◌≡◌, ℕ, ◌+◌, List, [], ◌∷◌, ◌++◌, map, Option, Some, None, Result, Ok, Err, refl, sym, ap, ◌∙◌, base, Label, SourceLine, TextFault, statement_code, Layout, fault_at, layout, line_layout, AsmFault, AsmKind, Source}
use Rattle.std.specs.Result.{result_err}
use Rattle.rt_text.specs.AllFaults.{told}
use Rattle.rt_text.specs.Text.{text_lines}
use Rattle.rt_asm.specs.AllFaults.{all_faults, behind, faults_of, faults_under, layout_faults, mended, operand_faults, room_of}
use Rattle.rt_asm.specs.Flaws.{flaw_at, flaws_under, layout_flaws, layout_reason, operand_flaws, source_flaws, with_reason}
use Rattle.rt_asm.specs.Reasons.{line_reason}
use Rattle.rt_asm.specs.declared.fault.LineFault.{LineFault}
use Rattle.rt_asm.specs.declared.flaws.Flaw.{Flaw}
use Rattle.rt_asm.specs.declared.flaws.Reason.{Reason}

abbrev faults : List Flaw → List AsmFault
faults flaws = map (λ flaw. flaw.fault) flaws

told_same : (why : AsmKind → Option Reason) (n : ℕ) (fault : Option AsmKind) (flaws : List Flaw) (others : List AsmFault) → faults flaws ≡ others
    → faults (told flaw_at n (with_reason why fault) ++ flaws) ≡ told fault_at n fault ++ others
told_same why n None flaws others same = same
told_same why n (Some kind) flaws others same = ap (λ (fs : List AsmFault). fault_at n kind ∷ fs) same

behind_same : (after : Result Layout AsmKind) (f : Layout → List Flaw) (g : Layout → List AsmFault) → ((s : Layout) → faults (f s) ≡ g s) → faults (behind after f) ≡ behind after g
behind_same (Ok s) f g same = same s
behind_same (Err kind) f g same = refl

layout_same : (n : ℕ) (before : Layout) (lines : List SourceLine) → faults (layout_flaws n before lines) ≡ layout_faults n before lines
layout_same n before [] = refl
layout_same n before (l ∷ ls) =
    told_same (layout_reason before l) n (result_err (line_layout before l)) (behind (mended before l) (λ after. layout_flaws (n + 1) after ls)) (behind (mended before l) (λ after. layout_faults (n + 1) after ls))
    (behind_same (mended before l) (λ after. layout_flaws (n + 1) after ls) (λ after. layout_faults (n + 1) after ls) (λ after. layout_same (n + 1) after ls))

operands_same : (labels : List Label) (n place : ℕ) (lines : List SourceLine) → faults (operand_flaws labels n place lines) ≡ operand_faults labels n place lines
operands_same labels n place [] = refl
operands_same labels n place (l ∷ ls) =
    told_same (line_reason labels place l.statement) n (result_err (statement_code labels place l.statement)) (operand_flaws labels (n + 1) (place + room_of place l.statement) ls) (operand_faults labels (n + 1) (place + room_of place l.statement) ls)
    (operands_same labels (n + 1) (place + room_of place l.statement) ls)

under_same : (plan : Result Layout AsmFault) (lines : List SourceLine) → faults (flaws_under plan lines) ≡ faults_under plan lines
under_same (Ok plan) lines = operands_same plan.labels 1 base lines
under_same (Err fault) lines = layout_same 1 (record { place = base; labels = [] }) lines

sources : (flaws : List Flaw) → map (λ flaw. Source flaw.fault) flaws ≡ map Source (faults flaws)
sources [] = refl
sources (f ∷ fs) = ap (λ (rest : List LineFault). Source f.fault ∷ rest) (sources fs)

pub flaws_are_faults : (text : List ℕ) (lines : List SourceLine) → text_lines text ≡ Ok lines → map (λ flaw. Source flaw.fault) (source_flaws lines) ≡ all_faults text
flaws_are_faults text lines read =
    sources (source_flaws lines) ∙ ap (λ (fs : List AsmFault). map Source fs) (under_same (layout lines) lines)
    ∙ sym (ap (λ (r : Result (List SourceLine) TextFault). faults_of r text) read)
