use Rattle.rt_programs.specs.Solo.{SoloMeans}
use Rattle.rt_programs.specs.Simulation.{RunMeans}
use Rattle.rt_programs.proofs.Common.{subst, ◌∙◌, ReportMeans}
use Rattle.rt_programs.specs.Profiling.{ProfileMeans}
use Rattle.rt_programs.specs.Charting.{ChartMeans}
use Rattle.rt_programs.specs.Waving.{WavesMean}
use Rattle.rt_programs.specs.Tracing.{window_text, WordTraceMeans}
use Rattle.rt_programs.specs.Certify.{CertifyMeans}
use Rattle.rt_programs.specs.Dis.{DisMeans}
use Rattle.rt_programs.specs.Showing.{ShowMeans}
use Rattle.rt_programs.specs.printing.TextMeans.{EndsCalmly}
use Rattle.rt_programs.specs.declared.printing.file_text.FileText.{FileText}
use Rattle.rt_programs.proofs.WordLemmas.{ends-of-word}
use Rattle.rt_programs.proofs.printing.EndsLemmas.{ends-apart}
use Rattle.rt_programs.proofs.printing.file_text.FileText.write.Goals as goal

pub returns-in-Solo-clause-ends : goal.returns-in-Solo-clause-ends
returns-in-Solo-clause-ends g c = λ words excepted traced. rw c.in-Solo.is (ends-apart g.S.Sink.seen (SoloMeans c.args.bytes.now c.in-Solo.task c.in-Solo.ticks) c.args.out.now c.solo.new.out c.solo.result c.requires.is_open c.solo.ensures.ends)

pub returns-in-Run-clause-ends : goal.returns-in-Run-clause-ends
returns-in-Run-clause-ends g c = λ words excepted traced. rw c.in-Run.is (ends-apart g.S.Sink.seen (RunMeans c.args.bytes.now c.args.admission c.in-Run.ticks) c.args.out.now c.simulate.new.out c.simulate.result c.requires.is_open c.simulate.ensures.ends)

pub returns-in-Report-clause-ends : goal.returns-in-Report-clause-ends
returns-in-Report-clause-ends g c = λ words excepted traced. rw c.in-Report.is (ends-apart g.S.Sink.seen (ReportMeans c.args.bytes.now c.args.admission c.in-Report.ticks c.in-Report.width) c.args.out.now c.report.new.out c.report.result c.requires.is_open c.report.ensures)

pub returns-in-Profile-clause-ends : goal.returns-in-Profile-clause-ends
returns-in-Profile-clause-ends g c = λ words excepted traced. rw c.in-Profile.is (ends-apart g.S.Sink.seen (ProfileMeans c.args.bytes.now c.args.admission c.in-Profile.ticks c.in-Profile.form) c.args.out.now c.profile.new.out c.profile.result c.requires.is_open c.profile.ensures)

pub returns-in-Chart-clause-ends : goal.returns-in-Chart-clause-ends
returns-in-Chart-clause-ends g c = λ words excepted traced. rw c.in-Chart.is (ends-apart g.S.Sink.seen (ChartMeans c.args.bytes.now c.args.admission c.in-Chart.window c.in-Chart.style words) c.args.out.now c.chart.new.out c.chart.result c.requires.is_open (c.chart.ensures words (rw c.in-Chart.is at excepted)))

pub returns-in-Waves-clause-ends : goal.returns-in-Waves-clause-ends
returns-in-Waves-clause-ends g c = λ words excepted traced. rw c.in-Waves.is (ends-apart g.S.Sink.seen (WavesMean c.args.bytes.now c.args.admission c.in-Waves.from c.in-Waves.ticks c.in-Waves.scale) c.args.out.now c.vcd.new.out c.vcd.result c.requires.is_open c.vcd.ensures)

pub returns-in-Trace-clause-ends : goal.returns-in-Trace-clause-ends
returns-in-Trace-clause-ends g c = λ words excepted traced. rw c.in-Trace.is (
    ends-apart g.S.Sink.seen (WordTraceMeans c.args.bytes.now c.args.admission c.in-Trace.from c.in-Trace.ticks c.in-Trace.task) c.args.out.now c.trace.new.out c.trace.result c.requires.is_open
    (ends-of-word g.S.Sink.seen c.args.admission c.args.bytes.now (window_text c.in-Trace.from c.in-Trace.ticks) c.in-Trace.task c.args.task (rw c.in-Trace.is at traced) c.args.out.now c.trace.new.out c.trace.result c.trace.ensures)
    )

pub returns-in-Listing-clause-ends : goal.returns-in-Listing-clause-ends
returns-in-Listing-clause-ends g c = λ words excepted traced. rw c.in-Listing.is (ends-apart g.S.Sink.seen (DisMeans c.args.bytes.now) c.args.out.now c.dis.new.out c.dis.result c.requires.is_open c.dis.ensures)

pub returns-in-Certificate-clause-ends : goal.returns-in-Certificate-clause-ends
returns-in-Certificate-clause-ends g c = λ words excepted traced. rw c.in-Certificate.is (ends-apart g.S.Sink.seen (CertifyMeans c.args.bytes.now c.in-Certificate.question) c.args.out.now c.certify.new.out c.certify.result c.requires.is_open c.certify.ensures.ends)

pub returns-in-Certificate-clause-calm : goal.returns-in-Certificate-clause-calm
returns-in-Certificate-clause-calm g c = λ calm none. c.certify.ensures.calm (subst (λ (text : FileText). EndsCalmly text c.args.bytes.now) c.in-Certificate.is calm) ∙ none

pub returns-in-Contents-clause-ends : goal.returns-in-Contents-clause-ends
returns-in-Contents-clause-ends g c = λ words excepted traced. rw c.in-Contents.is (ends-apart g.S.Sink.seen (ShowMeans c.args.bytes.now) c.args.out.now c.show.new.out c.show.result c.requires.is_open c.show.ensures)
