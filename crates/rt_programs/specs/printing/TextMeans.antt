-- What the requested text of a file means.
use Rattle.std.specs.Prelude.{ℕ, List, Bool, true, false, Option, ⊤}
use Rattle.rt_admit.specs.declared.admission.Admission.{Admission}
use Rattle.rt_names.specs.declared.task_word.TaskWord.{TaskWord}
use Rattle.rt_opening.specs.declared.fault.SimFault.{SimFault}
use Rattle.rt_opening.specs.Ends.{Apart}
use Rattle.rt_programs.specs.Solo.{SoloMeans, RunsAloneCalmly}
use Rattle.rt_programs.specs.Simulation.{RunMeans, RunsCalmly}
use Rattle.rt_programs.specs.Parts.{RunPartMeans, SoloPartMeans}
use Rattle.rt_accounts.specs.Reporting.{ReportMeans}
use Rattle.rt_accounts.specs.JobListing.{JobsMeans}
use Rattle.rt_programs.specs.Profiling.{ProfileMeans}
use Rattle.rt_programs.specs.Charting.{MeanTasks, ChartMeans}
use Rattle.rt_programs.specs.Waving.{WavesMean}
use Rattle.rt_programs.specs.Tracing.{WordTraceMeans}
use Rattle.rt_programs.specs.Asked.{MeansTask}
use Rattle.rt_programs.specs.Certify.{CertifyMeans, CertifiesCalmly}
use Rattle.rt_programs.specs.CertifySet.{SetCertifies}
use Rattle.rt_programs.specs.Dis.{DisMeans}
use Rattle.rt_programs.specs.Showing.{is_object, ShowMeans}
use Rattle.rt_programs.specs.Check.{CheckMeans}
use Rattle.rt_programs.specs.declared.question.Question.{Question}
use Rattle.rt_programs.specs.declared.printing.file_text.FileText.{FileText}
use Rattle.rt_programs.specs.declared.printing.file_text.FileText.TheVariants.{Solo, SoloPart, Run, RunPart, Report, Jobs, Profile, Chart, Waves, Trace, Certificate, Certificates, Listing, Contents, Admitted}

-- the certificate of a file that begins as an object file does, or those of the set of another
abbrev pub CertificatesMean : Bool → Question → List TaskWord → List ℕ → List ℕ → Option SimFault → Type 0
CertificatesMean true question except file = Apart (CertifyMeans file question)
CertificatesMean false question except file = SetCertifies file question.jobs except

-- Of a file of these bytes, a text and a refusal or none; of the test of admission, also for certificates of a set, both. A set is
-- run where admission is required, or waived. A picture is drawn without the jobs over the period of the tasks that these words mean, and these
-- aren't certified.
abbrev pub TextMeans : Admission → List TaskWord → FileText → List ℕ → List ℕ → Option SimFault → Type 0
TextMeans admission except (Solo ticks task) file = Apart (SoloMeans file task ticks)
TextMeans admission except (SoloPart ticks task part) file = Apart (SoloPartMeans file task ticks part)
TextMeans admission except (Run ticks) file = Apart (RunMeans file admission ticks)
TextMeans admission except (RunPart ticks part) file = Apart (RunPartMeans file admission ticks part)
TextMeans admission except (Report ticks width) file = Apart (ReportMeans file admission ticks width)
TextMeans admission except (Jobs ticks form) file = Apart (JobsMeans file admission form ticks)
TextMeans admission except (Profile ticks form) file = Apart (ProfileMeans file admission ticks form)
TextMeans admission except (Chart window style) file = Apart (ChartMeans file admission window style except)
TextMeans admission except (Waves from ticks scale) file = Apart (WavesMean file admission from ticks scale)
TextMeans admission except (Trace from ticks word) file = Apart (WordTraceMeans file admission from ticks word)
TextMeans admission except (Certificate question) file = Apart (CertifyMeans file question)
TextMeans admission except (Certificates question) file = CertificatesMean (is_object file) question except file
TextMeans admission except Listing file = Apart (DisMeans file)
TextMeans admission except Contents file = Apart (ShowMeans file)
TextMeans admission except Admitted file = CheckMeans file

-- of a picture, the tasks that these words mean in the set of the file; of another text, whatever they are
abbrev pub Excepts : FileText → List ℕ → List TaskWord → List ℕ → Type 0
Excepts (Chart window style) file words tasks = MeanTasks file words tasks
Excepts text file words tasks = ⊤

-- of a trace, its word means this task in the set of the file
abbrev pub Traces : FileText → List ℕ → Option ℕ → Type 0
Traces (Trace from ticks word) file task = MeansTask file word task
Traces text file task = ⊤

-- after a run of a file of these bytes no task has faulted, and outputs had room for all writes; a budget for each job of its object is within
-- the least distance; of the test of admission nothing is known
abbrev pub EndsCalmly : FileText → List ℕ → Type 0
EndsCalmly (Solo ticks task) file = RunsAloneCalmly file task ticks
EndsCalmly (SoloPart ticks task part) file = RunsAloneCalmly file task ticks
EndsCalmly (Run ticks) file = RunsCalmly file ticks
EndsCalmly (RunPart ticks part) file = RunsCalmly file ticks
EndsCalmly (Certificate question) file = CertifiesCalmly file question
EndsCalmly (Certificates question) file = CertifiesCalmly file question
EndsCalmly Admitted file = ⊥
EndsCalmly text file = ⊤
