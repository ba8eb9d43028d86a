use Rattle.rt_programs.proofs.Common.{Result, Ok, Err, sym, subst, ◌∙◌, TextMeans}
use Rattle.std.proofs.Common.{IfOk}
use Rattle.rt_programs.specs.printing.TextMeans.{EndsCalmly}
use Rattle.rt_programs.proofs.printing.JudgeLemmas.{some-looked, opened-tick, unopened, of-certificates}
use Rattle.rt_programs.specs.declared.printing.file_text.FileText.{FileText}
use Rattle.rt_programs.specs.printing.Fails.{Fails, Misnames}
use Rattle.rt_programs.specs.printing.Judges.{Judges}
use Rattle.rt_programs.proofs.printing.judging.print_judged.Goals as goal

pub returns-in-Some-clause-judges : goal.returns-in-Some-clause-judges
returns-in-Some-clause-judges g c = λ none.
    let file = c.args.bytes.now in
    let words = c.args.asked.except.now in
    let fail_on = c.args.asked.fail_on.now in
    let is = of-certificates c.args.text c.in-Some.question (sym c.certificates_of.ensures ∙ c.in-Some.is) in
    subst (λ (text : FileText). Judges g.S.Sink.seen (TextMeans c.args.admission words text file) (Fails text file fail_on words) (Misnames text file words) c.print_certificates.result c.print_certificates.new.out.inner) (sym is)
    (c.print_certificates.ensures.judges c.args.admission fail_on none)

any-ok : {T E : Type 0} (r : Result T E) (P : T → Type 0) → ((x : T) → P x) → IfOk r P
any-ok (Ok x) P all = all x
any-ok (Err e) P all = tt

pub returns-in-Some-clause-calm : goal.returns-in-Some-clause-calm
returns-in-Some-clause-calm g c =
    let is = of-certificates c.args.text c.in-Some.question (sym c.certificates_of.ensures ∙ c.in-Some.is) in
    any-ok c.print_certificates.result _
    (λ verdict judged calm none. c.print_certificates.ensures.calm (subst (λ (text : FileText). EndsCalmly text c.args.bytes.now) is calm) ∙ none)

pub judge_run-requires-clause-asked : goal.judge_run-requires-clause-asked
judge_run-requires-clause-asked g c = some-looked c.args.text c.args.asked.fail_on.now c.args.asked.except.now c.in-Some-looked_at.ticks (sym c.looked_at.ensures ∙ c.in-Some-looked_at.is)

pub judge_run-requires-clause-start : goal.judge_run-requires-clause-start
judge_run-requires-clause-start g c =
    let asked = some-looked c.args.text c.args.asked.fail_on.now c.args.asked.except.now c.in-Some-looked_at.ticks (sym c.looked_at.ensures ∙ c.in-Some-looked_at.is) in
    opened-tick c.args.admission c.args.text c.args.bytes.now c.in-Some-looked_at.ticks c.in-Ok.run' asked c.in-Ok.ensures

pub returns-in-Err-clause-judges : goal.returns-in-Err-clause-judges
returns-in-Err-clause-judges g c = λ none.
    let asked = some-looked c.args.text c.args.asked.fail_on.now c.args.asked.except.now c.in-Some-looked_at.ticks (sym c.looked_at.ensures ∙ c.in-Some-looked_at.is) in
    let ends = unopened g.S.Sink.seen c.args.admission c.args.asked.except.now c.args.text c.args.bytes.now c.in-Some-looked_at.ticks c.in-Err.fault c.args.out.now c.requires asked c.in-Err.ensures in
    c.refuse.ensures.judges c.args.out.now c.args.admission c.args.text c.args.bytes.now c.args.asked.fail_on.now c.args.asked.except.now c.requires none ends
