use Rattle.rt_programs.proofs.Common.{Result, sym, subst, ◌∙◌, Apart, SimFault, ReportMeans, Prints}
use Rattle.rt_programs.proofs.printing.JudgeLemmas.{report-prints}
use Rattle.rt_programs.proofs.printing.judging.print_report.Goals as goal

pub returns-in-Ok-clause-prints : goal.returns-in-Ok-clause-prints
returns-in-Ok-clause-prints g c = λ none admission file ticks o is.
    let steps = c.finish.ensures in
    let counts = c.write_report.ensures o.0 c.args.n (c.run-run.ensures.stands o.0 0 o.3) in
    subst (λ (r : Result (Unit {0}) SimFault). Prints g.S.Sink.seen (Apart (ReportMeans file admission ticks c.args.width)) r c.finish.new.out.inner) (sym steps.2 ∙ c.in-Ok.is)
    (report-prints g.S.Sink.seen file admission ticks c.args.n c.args.width c.args.run c.args.out.now c.write_report.new.out c.finish.new.out c.write_report.result c.answer-done.result steps.0
    none c.requires.is_open o is c.answer-done.ensures counts steps.1)

pub returns-clause-prints : goal.returns-clause-prints
returns-clause-prints g c = λ none admission file ticks o is.
    let steps = c.finish.ensures in
    let counts = c.write_report.ensures o.0 c.args.n (c.run-run.ensures.stands o.0 0 o.3) in
    subst (λ (r : Result (Unit {0}) SimFault). Prints g.S.Sink.seen (Apart (ReportMeans file admission ticks c.args.width)) r c.finish.new.out.inner) (sym steps.2 ∙ c.in-Err.is)
    (report-prints g.S.Sink.seen file admission ticks c.args.n c.args.width c.args.run c.args.out.now c.write_report.new.out c.finish.new.out c.write_report.result c.answer-done.result steps.0
    none c.requires.is_open o is c.answer-done.ensures counts steps.1)
