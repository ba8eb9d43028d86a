use Rattle.rt_programs.proofs.Common.{◌≡◌, ◌^◌, ℕ, min, List, [], Option, Some, Result, Err, sym, ap, subst, ◌∙◌, err_from_is_err_and, Apart, SimFault, Accounts, TextMeans}
use Rattle.rt_accounts.specs.JobListing.{form_text, JobsMeans}
use Rattle.rt_programs.specs.printing.TextMeans.{Traces}
use Rattle.rt_programs.specs.printing.Working.Judged.{IsOf, told_of, PrintsRun}
use Rattle.rt_programs.specs.declared.printing.file_text.FileText.{FileText}
use Rattle.rt_programs.specs.declared.printing.file_text.FileText.TheVariants as texts
use Rattle.rt_programs.proofs.printing.JudgeLemmas.{told-set, untold-whole}
use Rattle.rt_programs.proofs.printing.judging.print_run.Goals as goal

pub returns-in-Some-clause-prints : goal.returns-in-Some-clause-prints
returns-in-Some-clause-prints g c = λ none words excepted of.
    let told : told_of c.args.text ≡ Some (c.in-Some.telling, c.in-Some.part) = sym c.told_of.ensures ∙ c.in-Some.is in
    let run = rw told at (told-set g.S.Sink.seen c.args.admission words c.args.text c.args.bytes.now c.args.ticks c.args.run c.requires.asked c.requires.opens) in
    run.2 c.args.task of c.print_told.result c.print_told.new.out.inner (rw c.min-n.ensures at (c.print_told.ensures.prints none run.0 run.1))

pub returns-in-Some-clause-calm : goal.returns-in-Some-clause-calm
returns-in-Some-clause-calm g c = λ calm noted.
    let told : told_of c.args.text ≡ Some (c.in-Some.telling, c.in-Some.part) = sym c.told_of.ensures ∙ c.in-Some.is in
    let run = rw told at (told-set g.S.Sink.seen c.args.admission [] c.args.text c.args.bytes.now c.args.ticks c.args.run c.requires.asked c.requires.opens) in
    c.print_told.ensures.calm run.0 run.1 (rw c.min-n.ensures (run.3 calm)) noted

pub returns-in-Report-clause-prints : goal.returns-in-Report-clause-prints
returns-in-Report-clause-prints g c = λ none words excepted of.
    let o = rw c.in-Report.is at c.requires.opens in
    let asked = rw c.in-Report.is at c.requires.asked in
    let ticks : c.args.ticks ≡ c.in-Report.ticks = cc in
    rw c.in-Report.is
    (c.print_report.ensures.prints none c.args.admission c.args.bytes.now c.in-Report.ticks o (c.min-n.ensures ∙ ap (λ (t : ℕ). min t (2 ^ 40)) ticks))

pub returns-in_err-print_lines-in-Jobs-clause-prints : goal.returns-in_err-print_lines-in-Jobs-clause-prints
returns-in_err-print_lines-in-Jobs-clause-prints g c = λ none words excepted of.
    let o = rw c.in-Jobs.is at c.requires.opens in
    let asked = rw c.in-Jobs.is at c.requires.asked in
    let ticks : c.args.ticks ≡ c.in-Jobs.ticks = cc in
    let form = c.in-Jobs.form in
    let text = form_text form o.0 c.min-n.result in
    let is : text ≡ form_text form o.0 (min c.in-Jobs.ticks (2 ^ 40)) = ap (form_text form o.0) (c.min-n.ensures ∙ ap (λ (t : ℕ). min t (2 ^ 40)) ticks) in
    let means = Apart (JobsMeans c.args.bytes.now c.args.admission form c.in-Jobs.ticks) in
    let e = err_from_is_err_and c.from_residual.result c.from_residual.ensures.1 in
    rw c.in-Jobs.is (subst (λ (r : Result Accounts SimFault). PrintsRun g.S.Sink.seen means r c.print_lines.new.out.inner) (sym (e.1 ∙ ap Err e.2))
    (text, (o.0, o.1, o.2, is), c.in_err-print_lines-in-Jobs.ensures.delivers o.0 o.3 none))

pub print-requires-clause-whole : goal.print-requires-clause-whole
print-requires-clause-whole g c = untold-whole c.args.text c.args.ticks c.requires.asked (sym c.told_of.ensures ∙ c.in_default.is) c.in_default-text.not-Jobs

-- a trace is of the task that its word means
traced : (text : FileText) (file : List ℕ) (task : Option ℕ) → IsOf text file task → Traces text file task
traced (texts.Trace from n word) file task of = of
traced text file task of = tt

pub returns-in_err-print-in_default-text-clause-prints : goal.returns-in_err-print-in_default-text-clause-prints
returns-in_err-print-in_default-text-clause-prints g c = λ none words excepted of.
    let means = TextMeans c.args.admission words c.args.text c.args.bytes.now in
    let e = err_from_is_err_and c.from_residual-in_err-print-in_default-text.result c.from_residual-in_err-print-in_default-text.ensures.1 in
    subst (λ (r : Result Accounts SimFault). PrintsRun g.S.Sink.seen means r c.print.new.out.inner) (sym (e.1 ∙ ap Err e.2))
    (c.in_err-print-in_default-text.ensures.prints none words excepted (traced c.args.text c.args.bytes.now c.args.task of))

pub returns-in_ok-print-in_default-text-clause-prints : goal.returns-in_ok-print-in_default-text-clause-prints
returns-in_ok-print-in_default-text-clause-prints g c = λ none words excepted of.
    c.in_ok-print-in_default-text.ensures.prints none words excepted (traced c.args.text c.args.bytes.now c.args.task of)
