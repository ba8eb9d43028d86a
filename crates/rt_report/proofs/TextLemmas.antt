-- The texts of a report's forms.
use Rattle.rt_report.proofs.Common.{◌≡◌, ℕ, ◌≤◌, List, [], ◌∷◌, ◌++◌, ◌-◌, length, replicate, map, take, refl, sym, ap, ◌∙◌, arith, flat_map, flat_map-append, Row, TaskSet, legal, rows, TaskReport, wide_row_at, report_at, all_unfinished}
use Rattle.std.proofs.Common.{max, length-append}
use Rattle.std.proofs.lemmas.List.{take-replicate, length-replicate}
use Rattle.rt_text_out.specs.Lines.{lines}
use Rattle.rt_text_out.proofs.LineLemmas.{lines-unnumbered}
use Rattle.rt_exec.specs.declared.outcome.Fault.{Fault}
use Rattle.rt_exec.specs.declared.outcome.Fault.TheVariants.{Illegal, JumpMisaligned, FetchAccess, LoadMisaligned, LoadAccess, StoreMisaligned, StoreAccess, Break, UnknownCall}
use Rattle.rt_exec.specs.Numbering.{fault_name}
use Rattle.rt_report.specs.declared.detailed_job.UnfinishedJob.{UnfinishedJob}
use Rattle.rt_report.specs.declared.wide_row.WideRow.{WideRow}
use Rattle.rt_names.specs.TaskNames.{task_names}
use Rattle.rt_report.specs.ReportText.{right, text_of, report_text}
use Rattle.rt_report.specs.WideRows.{wide_rows}
use Rattle.rt_report.specs.WideText.{wide_text_of, wide_text}
use Rattle.rt_report.specs.CsvText.{csv_text_of, csv_text}
use Rattle.rt_report.specs.Working.Detailing.{unfinished_at}
use Rattle.rt_report.proofs.ReportLaws.{rows_at, wide_rows_at, idle_at}

flat_map-twice : {X Y : Type 0} (g : Y → List ℕ) (f : X → List Y) (xs : List X) → flat_map g (flat_map f xs) ≡ flat_map (λ x. flat_map g (f x)) xs
flat_map-twice g f [] = refl
flat_map-twice g f (x ∷ xs) = flat_map-append g (f x) (flat_map f xs) ∙ ap (λ (t : List ℕ). flat_map g (f x) ++ t) (flat_map-twice g f xs)

-- the lines of the tasks, of each those of its open job
pub open_lines_by : (line : UnfinishedJob → List ℕ) (xs : List TaskReport) → lines (λ _ x. flat_map line (unfinished_at x)) 0 xs ≡ flat_map line (all_unfinished xs)
open_lines_by line xs = lines-unnumbered (λ (x : TaskReport). flat_map line (unfinished_at x)) 0 xs ∙ sym (flat_map-twice line unfinished_at xs)

-- the text of a report that stands so
pub text_at : (set : TaskSet) (t : ℕ) → text_of (map (λ x. x.row) (report_at set t).tasks) (report_at set t).idle ≡ report_text set (legal set t)
text_at set t = ap (λ (rs : List Row). text_of rs (report_at set t).idle) (rows_at set t) ∙ ap (text_of (rows set (legal set t))) (idle_at set t)

-- ---- the wide text

pub wide_text_at : (set : TaskSet) (t : ℕ)
    → wide_text_of (task_names set) (map (wide_row_at (report_at set t).tick) (report_at set t).tasks) (report_at set t).idle ≡ wide_text set t (legal set t)
wide_text_at set t =
    ap (λ (rs : List WideRow). wide_text_of (task_names set) rs (report_at set t).idle) (wide_rows_at set t)
    ∙ ap (wide_text_of (task_names set) (wide_rows set t (legal set t))) (idle_at set t)

-- ---- its comma-separated values

pub csv_text_at : (set : TaskSet) (t : ℕ) → csv_text_of (task_names set) (map (wide_row_at (report_at set t).tick) (report_at set t).tasks) ≡ csv_text set t (legal set t)
csv_text_at set t = ap (csv_text_of (task_names set)) (wide_rows_at set t)

-- ---- words

-- a fault's name has some letters
pub named_long : (f : Fault) → 4 ≤ length (fault_name f)
named_long Illegal = omega arith
named_long JumpMisaligned = omega arith
named_long FetchAccess = omega arith
named_long LoadMisaligned = omega arith
named_long LoadAccess = omega arith
named_long StoreMisaligned = omega arith
named_long StoreAccess = omega arith
named_long Break = omega arith
named_long UnknownCall = omega arith

-- ---- cells

-- a text to the right of at most 18 places
pub to_the_right : (places : ℕ) (d : List ℕ) → places ≤ 18 → take (places - length d) (replicate 18 32) ++ d ≡ right places d
to_the_right places d few = ap (λ (b : List ℕ). b ++ d) (take-replicate (places - length d) 18 32 (omega (arith, few)))

pub length-right : (places : ℕ) (d : List ℕ) → length (right places d) ≡ max places (length d)
length-right places d = omega (arith, length-append (replicate (places - length d) 32) d, length-replicate {A = ℕ} (places - length d) 32)
