-- Failures that are looked for in a run, and a run that isn't loaded.
use Rattle.rt_programs.proofs.Common.{◌≡◌, ◌<◌, ◌≤◌, ◌^◌, ℕ, min, state_at, List, [], ◌∷◌, ◌++◌, false, arith, Option, Some, None, Result, Ok, Err, refl, sym, ap, subst, ◌∙◌, Seen, tick_limit, TaskSet, gathering, BufferedSink, told, Flushes, Counts, DeviceFault, Apart, Ends, EndsTelling, ends-written, Accounts, IsAccounted, RunPartMeans, SoloPartMeans, ReportMeans, alone, SimFault, Image, Admit, Load, Text, Source, NotCertified, NoTask, Memory, Device, TextMeans, Prints, option_map}
use Rattle.std.specs.Prelude.{IfOk, IfSome, length}
use Rattle.rt_admit.specs.declared.admission.Admission.{Admission}
use Rattle.rt_sink.proofs.Flushed.{parts_of}
use Rattle.rt_report.specs.declared.failing.Failing.{Failing}
use Rattle.rt_opening.specs.Ends.{answer_of}
use Rattle.rt_accounts.specs.Accounting.{OpensAccounts, OpensAlone}
use Rattle.rt_names.specs.TaskWords.{tasks_of}
use Rattle.rt_names.specs.declared.task_word.TaskWord.{TaskWord}
use Rattle.rt_names.specs.declared.task_word.TaskFault.{TaskFault}
use Rattle.rt_accounts.specs.Failures.{first_failure}
use Rattle.rt_accounts.specs.JobListing.{JobsMeans}
use Rattle.rt_accounts.specs.declared.list_jobs.JobsForm.{JobsForm}
use Rattle.rt_accounts.specs.Reporting.{text_at}
use Rattle.rt_accounts.specs.declared.report_system.ReportWidth.{ReportWidth}
use Rattle.rt_opening.specs.Sets.{SetMeans}
use Rattle.rt_chart.specs.declared.style.Style.{Style}
use Rattle.rt_drawing.specs.declared.window.Window.{Window}
use Rattle.rt_names.specs.TaskNames.{task_names}
use Rattle.rt_programs.specs.Charting.{ChartMeans}
use Rattle.rt_programs.specs.printing.TextMeans.{Excepts, Traces, EndsCalmly}
use Rattle.rt_fault_lines.specs.Calm.{IsCalm}
use Rattle.rt_trace.specs.RunText.{run_text}
use Rattle.rt_trace.specs.declared.telling.Telling.TheVariants.{WithServers, Alone}
use Rattle.rt_programs.specs.Working.Told.{ToldIs}
use Rattle.rt_programs.proofs.PartLemmas.{set-part, solo-part}
use Rattle.rt_programs.proofs.WordLemmas.{names-count}
use Rattle.rt_programs.specs.Simulation.{RunMeans}
use Rattle.rt_programs.specs.Solo.{SoloMeans}
use Rattle.rt_programs.specs.Asked.{IsMeant, WordMeans}
use Rattle.rt_programs.specs.Tracing.{WordTraceMeans}
use Rattle.rt_image.specs.ObjectFile.{ObjectValue}
use Rattle.rt_image.specs.SystemFile.{task_limit}
use Rattle.rt_opening.specs.Alone.{Spells}
use Rattle.rt_accounts.specs.declared.accounts.Failure.{Failure}
use Rattle.rt_opening.specs.declared.solo_task.SoloTask.{SoloTask}
use Rattle.rt_programs.specs.declared.run_part.RunPart.{RunPart}
use Rattle.rt_image.proofs.Objects.{one_image}
use Rattle.rt_image.proofs.Systems.{one_set}
use Rattle.rt_accounts.proofs.JobLemmas.{own-tick}
use Rattle.rt_programs.specs.printing.Finishes.{answer_after}
use Rattle.rt_programs.specs.printing.Fails.{ticks_of, certificates_of, RunsSet, FailsIn, FailsOf, Fails, text_word, IsMisnamed, MisnamesOf, Misnames}
use Rattle.rt_programs.specs.declared.question.Question.{Question}
use Rattle.rt_programs.specs.declared.printing.judging.Finding.TheVariants.{Failed}
use Rattle.rt_programs.specs.printing.Working.Judged.{IsWhole, looked_at, Opens, IsOf, told_of, PrintsRun}
use Rattle.rt_programs.specs.declared.printing.file_text.FileText.{FileText}
use Rattle.rt_programs.specs.declared.printing.file_text.FileText.TheVariants as texts
use Rattle.rt_programs.proofs.printing.EndsLemmas.{ends-apart}
use Rattle.rt_programs.proofs.printing.FinishLemmas.{prints}

-- ---- failures

pub none-looked : (text : FileText) (file : List ℕ) (fail_on : List Failing) (except : List TaskWord) → certificates_of text ≡ None → looked_at text fail_on except ≡ None → Fails text file fail_on except None
none-looked text file fail_on except plain none = subst (λ (q : Option Question). FailsOf q text file fail_on except None) (sym plain) (at fail_on none)
  where
    at : (fail_on : List Failing) → looked_at text fail_on except ≡ None → FailsOf None text file fail_on except None
    at [] none = refl
    at (f ∷ fs) none = rw none refl

pub of-certificates : (text : FileText) (question : Question) → certificates_of text ≡ Some question → text ≡ texts.Certificates question
of-certificates (texts.Certificates q) question is = cc
of-certificates text question is = absurd cc

-- a run is of no certificates
of-run : (text : FileText) (ticks : ℕ) → ticks_of text ≡ Some ticks → certificates_of text ≡ None
of-run (texts.Certificates question) ticks is = absurd cc
of-run text ticks is = refl

pub none-asked : (text : FileText) (file : List ℕ) (fail_on : List Failing) (except : List TaskWord) (ticks : ℕ) → ticks_of text ≡ Some ticks → fail_on ≡ [] → Fails text file fail_on except None
none-asked text file [] except ticks is none = subst (λ (q : Option Question). FailsOf q text file [] except None) (sym (of-run text ticks is)) refl
none-asked text file (f ∷ fs) except ticks is none = absurd cc

-- a text without such a run is written as a whole
pub none-whole : (text : FileText) (fail_on : List Failing) (except : List TaskWord) → certificates_of text ≡ None → looked_at text fail_on except ≡ None → IsWhole text
none-whole (texts.Jobs n form) [] except plain none = absurd cc
none-whole (texts.Jobs n form) (f ∷ fs) except plain none = absurd cc
none-whole (texts.SoloPart n task part) [] except plain none = absurd cc
none-whole (texts.SoloPart n task part) (f ∷ fs) except plain none = absurd cc
none-whole (texts.RunPart n part) [] except plain none = absurd cc
none-whole (texts.RunPart n part) (f ∷ fs) except plain none = absurd cc
none-whole (texts.Certificates question) fail_on except plain none = absurd cc
none-whole text fail_on except plain none = tt

-- and so is one that isn't told itself, if it is not of jobs
pub untold-whole : (text : FileText) (ticks : ℕ) → ticks_of text ≡ Some ticks → told_of text ≡ None → ((n : ℕ) (form : JobsForm) → text ≡ texts.Jobs n form → ⊥) → IsWhole text
untold-whole (texts.SoloPart n task part) ticks is untold other = absurd cc
untold-whole (texts.RunPart n part) ticks is untold other = absurd cc
untold-whole (texts.Jobs n form) ticks is untold other = other n form refl
untold-whole (texts.Certificates question) ticks is untold other = absurd cc
untold-whole text ticks is untold other = tt

-- no word means a task that it is of, if it is a trace
pub none-traced : (text : FileText) (file : List ℕ) (fail_on : List Failing) (except : List TaskWord) → looked_at text fail_on except ≡ None → Traces text file None
none-traced (texts.Trace from ticks None) file fail_on except none = λ s spells. refl
none-traced (texts.Trace from ticks (Some word)) file [] except none = absurd cc
none-traced (texts.Trace from ticks (Some word)) file (f ∷ fs) except none = absurd cc
none-traced text file fail_on except none = tt

-- no word excepts a task in it, if it is a picture
pub none-excepted : (text : FileText) (file : List ℕ) (fail_on : List Failing) (except : List TaskWord) → looked_at text fail_on except ≡ None → Excepts text file except []
none-excepted (texts.Chart window style) file [] [] none = λ s spells. refl
none-excepted (texts.Chart window style) file [] (e ∷ es) none = absurd cc
none-excepted (texts.Chart window style) file (f ∷ fs) except none = absurd cc
none-excepted text file fail_on except none = tt

pub some-looked : (text : FileText) (fail_on : List Failing) (except : List TaskWord) (ticks : ℕ) → looked_at text fail_on except ≡ Some ticks → ticks_of text ≡ Some ticks
some-looked (texts.Jobs n form) [] except ticks is = is
some-looked (texts.SoloPart n task part) [] except ticks is = is
some-looked (texts.RunPart n part) [] except ticks is = is
some-looked (texts.Trace from n (Some word)) [] except ticks is = is
some-looked (texts.Chart window style) [] (e ∷ es) ticks is = is
some-looked text [] except ticks is = absurd cc
some-looked text (f ∷ fs) except ticks is = is

-- the set of a run that is loaded
opened : (admission : Admission) (text : FileText) (file : List ℕ) (ticks : ℕ) (run : Accounts) → ticks_of text ≡ Some ticks → Opens admission text file (Ok run)
    → (set : TaskSet) × RunsSet text file set × IsAccounted set 0 run
opened admission (texts.Solo n task) file ticks run is o = (alone o.0 task, (o.0, o.1, refl), o.3)
opened admission (texts.SoloPart n task part) file ticks run is o = (alone o.0 task, (o.0, o.1, refl), o.3)
opened admission (texts.Run n) file ticks run is o = (o.0, o.1, o.3)
opened admission (texts.RunPart n part) file ticks run is o = (o.0, o.1, o.3)
opened admission (texts.Report n width) file ticks run is o = (o.0, o.1, o.3)
opened admission (texts.Jobs n form) file ticks run is o = (o.0, o.1, o.3)
opened admission (texts.Chart window style) file ticks run is o = (o.0, o.1, o.3)
opened admission (texts.Trace from n word) file ticks run is o = (o.0, o.1, o.3)
opened admission text file ticks run is o = absurd cc

-- a run has gone on to a tick up to n
abbrev pub IsBefore : ℕ → Accounts → Accounts → Type 0
IsBefore n run end = (t : ℕ) × (t ≤ n) × ((set : TaskSet) → IsAccounted set 0 run → IsAccounted set t end)

pub ran-to : (n m : ℕ) (run : Accounts) (result : Result Accounts SimFault) → n ≡ m → IfOk result (λ end. (set : TaskSet) → IsAccounted set 0 run → IsAccounted set n end)
    → IfOk result (λ end. IsBefore m run end)
ran-to n m run (Ok end) is ran = (n, omega (arith, is), ran)
ran-to n m run (Err fault) is ran = tt

-- the first failure of a list, of tasks that aren't excepted, in the run that was loaded
abbrev FirstIn : Accounts → List Failing → List ℕ → ℕ → Option Failure → Type 0
FirstIn run fail_on tasks ticks found = (set : TaskSet) → IsAccounted set 0 run → found ≡ first_failure fail_on tasks set (min ticks tick_limit)

module _ (admission : Admission) (text : FileText) (file : List ℕ) (except : List TaskWord) (ticks : ℕ) (run : Accounts) (is : ticks_of text ≡ Some ticks) (o : Opens admission text file (Ok run)) where
  in-run : (fail_on : List Failing) (tasks : List ℕ) (found : Option Failure) → tasks_of run.names except ≡ Ok tasks → FirstIn run fail_on tasks ticks found → FailsIn text file fail_on except (Some ticks) (option_map Failed found)
  in-run fail_on tasks found named first =
      let r = opened admission text file ticks run is o in
      (r.0, tasks, r.1, ap (λ (names : List (List ℕ)). tasks_of names except) (sym r.2.names) ∙ named, ap (option_map Failed) (first r.0 r.2))

  pub fails : (fail_on : List Failing) (tasks : List ℕ) (found : Option Failure) → tasks_of run.names except ≡ Ok tasks → FirstIn run fail_on tasks ticks found → Fails text file fail_on except (option_map Failed found)
  fails fail_on tasks found named first = subst (λ (q : Option Question). FailsOf q text file fail_on except (option_map Failed found)) (sym (of-run text ticks is)) (at fail_on first)
    where
      at : (fail_on : List Failing) → FirstIn run fail_on tasks ticks found → FailsOf None text file fail_on except (option_map Failed found)
      at [] first = (in-run [] tasks found named first).4
      at (f ∷ fs) first = subst (λ (n : Option ℕ). FailsIn text file (f ∷ fs) except n (option_map Failed found)) (sym is) (in-run (f ∷ fs) tasks found named first)

  -- the words mean the same tasks in the set of the file, which is one
  pub excepts : (tasks given : List ℕ) → tasks_of run.names except ≡ Ok tasks → given ≡ tasks → Excepts text file except given
  excepts tasks given named same = subst (Excepts text file except) (sym same) (at text o)
    where
      at : (text : FileText) → Opens admission text file (Ok run) → Excepts text file except tasks
      at (texts.Chart window style) o = λ s spells.
          let same : s ≡ o.0 = one_set s o.0 spells.valid o.1.valid (sym spells.bytes ∙ o.1.bytes) in
          ap (λ (x : TaskSet). tasks_of (task_names x) except) same ∙ ap (λ (names : List (List ℕ)). tasks_of names except) (sym o.3.names) ∙ named
      at text o = tt

  -- a run that has gone on by few ticks goes on to the end
  pub goes-on : (end : Accounts) (ran : IsBefore (min ticks tick_limit) run end) → end.machine.tick ≤ min ticks tick_limit
  goes-on end ran =
      let r = opened admission text file ticks run is o in
      omega (arith, ran.1, own-tick r.0 ran.0 end.machine (ran.2 r.0 r.2).machine)

  pub misnames : (fault : TaskFault) → IsMisnamed run.names except (text_word text) fault → Misnames text file except fault
  misnames fault named =
      let r = opened admission text file ticks run is o in
      subst (λ (q : Option Question). MisnamesOf q text file except fault) (sym (of-run text ticks is))
      (ticks, is, r.0, r.1, subst (λ (names : List (List ℕ)). IsMisnamed names except (text_word text) fault) r.2.names named)

  -- there are few names, and the word of the text means the same task in the set that is run, which is one
  pub few-names : length run.names < 2 ^ 32
  few-names =
      let r = opened admission text file ticks run is o in
      let count : length run.names ≡ length r.0.tasks = ap (λ (names : List (List ℕ)). length names) r.2.names ∙ names-count r.0 in
      omega (arith, count, few text r.0 r.1)
    where
      few : (text : FileText) (set : TaskSet) → RunsSet text file set → length set.tasks ≤ task_limit
      few (texts.Solo n task) set runs = omega (arith, ap (λ (s : TaskSet). length s.tasks) runs.2)
      few (texts.SoloPart n task part) set runs = omega (arith, ap (λ (s : TaskSet). length s.tasks) runs.2)
      few text set runs = runs.valid.count

  pub is-of : (task : Option ℕ) → IsMeant run.names (text_word text) task → IsOf text file task
  is-of task meant = λ s runs.
      let r = opened admission text file ticks run is o in
      let same : s ≡ r.0 = one-run text s r.0 runs r.1 in
      subst (λ (x : TaskSet). IsMeant (task_names x) (text_word text) task) (sym same) (subst (λ (names : List (List ℕ)). IsMeant names (text_word text) task) r.2.names meant)
    where
      one-object : (a b : ObjectValue) → Spells file a → Spells file b → a ≡ b
      one-object a b p q = one_image a b p.valid q.valid (sym p.bytes ∙ q.bytes)

      one-run : (text : FileText) (a b : TaskSet) → RunsSet text file a → RunsSet text file b → a ≡ b
      one-run (texts.Solo n task) a b p q = p.2 ∙ ap (λ (x : ObjectValue). alone x task) (one-object p.0 q.0 p.1 q.1) ∙ sym q.2
      one-run (texts.SoloPart n task part) a b p q = p.2 ∙ ap (λ (x : ObjectValue). alone x task) (one-object p.0 q.0 p.1 q.1) ∙ sym q.2
      one-run text a b p q = one_set a b p.valid q.valid (sym p.bytes ∙ q.bytes)

-- ---- a run that is loaded begins at tick 0

pub opened-tick : (admission : Admission) (text : FileText) (file : List ℕ) (ticks : ℕ) (run : Accounts) → ticks_of text ≡ Some ticks → Opens admission text file (Ok run) → run.machine.tick ≡ 0
opened-tick admission text file ticks run is o = let r = opened admission text file ticks run is o in own-tick r.0 0 run.machine r.2.machine

-- ---- a run that isn't loaded

-- after a refusal the answer is one, whatever the device did
pub answer-refuses : (fault : SimFault) (flushed : Result (Unit {0}) DeviceFault) → (e : SimFault) × (answer_after (Err fault) flushed ≡ Err e)
answer-refuses (Device d) (Ok x) = (Device d, refl)
answer-refuses (Device d) (Err e) = (Device e, refl)
answer-refuses Memory flushed = (Memory, refl)
answer-refuses (Image d) flushed = (Image d, refl)
answer-refuses (Admit d) flushed = (Admit d, refl)
answer-refuses (Load d) flushed = (Load d, refl)
answer-refuses (Text d) flushed = (Text d, refl)
answer-refuses (Source d) flushed = (Source d, refl)
answer-refuses (NotCertified d) flushed = (NotCertified d, refl)
answer-refuses (NoTask i k) flushed = (NoTask i k, refl)

module _ {S : Type 0} (seen : S → Seen) where
  abbrev Ending : (Result (List ℕ) SimFault → Type 0) → SimFault → BufferedSink S → Type 0
  Ending Means fault b = Ends (gathering seen) Means b (Err fault) b

  of-set : (admission : Admission) (told_of : TaskSet → List ℕ) (file : List ℕ) (b : BufferedSink S) (fault : SimFault) → OpensAccounts file admission (Err fault) → Ending (SetMeans admission told_of file) fault b
  of-set admission told_of file b Memory o = refl
  of-set admission told_of file b (Device d) o = absurd o
  of-set admission told_of file b (Image d) o = (o, refl)
  of-set admission told_of file b (Admit d) o = (o, refl)
  of-set admission told_of file b (Load d) o = (o, refl)
  of-set admission told_of file b (Text d) o = (o, refl)
  of-set admission told_of file b (Source d) o = (o, refl)
  of-set admission told_of file b (NotCertified d) o = (o, refl)
  of-set admission told_of file b (NoTask i k) o = (o, refl)

  of-task : (admission : Admission) (word : Option TaskWord) (told : TaskSet → Option ℕ → List ℕ) (file : List ℕ) (b : BufferedSink S) (fault : SimFault) → OpensAccounts file admission (Err fault)
      → Ending (WordMeans admission word told file) fault b
  of-task admission word told file b Memory o = refl
  of-task admission word told file b (Device d) o = absurd o
  of-task admission word told file b (Image d) o = (o, refl)
  of-task admission word told file b (Admit d) o = (o, refl)
  of-task admission word told file b (Load d) o = (o, refl)
  of-task admission word told file b (Text d) o = (o, refl)
  of-task admission word told file b (Source d) o = (o, refl)
  of-task admission word told file b (NotCertified d) o = (o, refl)
  of-task admission word told file b (NoTask i k) o = (o, refl)

  of-object : (task : SoloTask) (n : ℕ) (file : List ℕ) (b : BufferedSink S) (fault : SimFault) → OpensAlone file task (Err fault) → Ending (SoloMeans file task n) fault b
  of-object task n file b Memory o = refl
  of-object task n file b (Device d) o = absurd o
  of-object task n file b (Image d) o = (o, refl)
  of-object task n file b (Admit d) o = (o, refl)
  of-object task n file b (Load d) o = (o, refl)
  of-object task n file b (Text d) o = (o, refl)
  of-object task n file b (Source d) o = (o, refl)
  of-object task n file b (NotCertified d) o = (o, refl)
  of-object task n file b (NoTask i k) o = (o, refl)

  of-object-part : (part : RunPart) (task : SoloTask) (n : ℕ) (file : List ℕ) (b : BufferedSink S) (fault : SimFault) → OpensAlone file task (Err fault) → Ending (SoloPartMeans file task n part) fault b
  of-object-part part task n file b Memory o = refl
  of-object-part part task n file b (Device d) o = absurd o
  of-object-part part task n file b (Image d) o = (o, refl)
  of-object-part part task n file b (Admit d) o = (o, refl)
  of-object-part part task n file b (Load d) o = (o, refl)
  of-object-part part task n file b (Text d) o = (o, refl)
  of-object-part part task n file b (Source d) o = (o, refl)
  of-object-part part task n file b (NotCertified d) o = (o, refl)
  of-object-part part task n file b (NoTask i k) o = (o, refl)

  of-picture : (admission : Admission) (window : Window) (style : Style) (except : List TaskWord) (file : List ℕ) (b : BufferedSink S) (fault : SimFault) → OpensAccounts file admission (Err fault)
      → Ending (ChartMeans file admission window style except) fault b
  of-picture admission window style except file b Memory o = refl
  of-picture admission window style except file b (Device d) o = absurd o
  of-picture admission window style except file b (Image d) o = (o, refl)
  of-picture admission window style except file b (Admit d) o = (o, refl)
  of-picture admission window style except file b (Load d) o = (o, refl)
  of-picture admission window style except file b (Text d) o = (o, refl)
  of-picture admission window style except file b (Source d) o = (o, refl)
  of-picture admission window style except file b (NotCertified d) o = (o, refl)
  of-picture admission window style except file b (NoTask i k) o = (o, refl)

  -- it ends as the text does that isn't printed
  pub unopened : (admission : Admission) (except : List TaskWord) (text : FileText) (file : List ℕ) (ticks : ℕ) (fault : SimFault) (b : BufferedSink S) → (seen b.inner).failed ≡ false
      → ticks_of text ≡ Some ticks → Opens admission text file (Err fault) → EndsTelling (gathering seen) (TextMeans admission except text file) b (Err fault) b
  unopened admission except text file ticks fault b opened is o = at text is o
    where
      apart : (Means : Result (List ℕ) SimFault → Type 0) → Ending Means fault b → EndsTelling (gathering seen) (Apart Means) b (Err fault) b
      apart Means ends = ends-apart (gathering seen) Means b b (Err fault) opened ends

      at : (text : FileText) → ticks_of text ≡ Some ticks → Opens admission text file (Err fault) → EndsTelling (gathering seen) (TextMeans admission except text file) b (Err fault) b
      at (texts.Solo n task) is o = apart (SoloMeans file task n) (of-object task n file b fault o)
      at (texts.SoloPart n task part) is o = apart (SoloPartMeans file task n part) (of-object-part part task n file b fault o)
      at (texts.Run n) is o = apart (RunMeans file admission n) (of-set admission _ file b fault o)
      at (texts.RunPart n part) is o = apart (RunPartMeans file admission n part) (of-task admission _ _ file b fault o)
      at (texts.Report n width) is o = apart (ReportMeans file admission n width) (of-set admission _ file b fault o)
      at (texts.Jobs n form) is o = apart (JobsMeans file admission form n) (of-set admission _ file b fault o)
      at (texts.Chart window style) is o = apart (ChartMeans file admission window style except) (of-picture admission window style except file b fault o)
      at (texts.Trace from n word) is o = apart (WordTraceMeans file admission from n word) (of-task admission word _ file b fault o)
      at text is o = absurd cc

  -- what says more, says this too of what is printed
  pub prints-as : (Means More : Result (List ℕ) SimFault → Type 0) (result : Result Accounts SimFault) (sink : S) → ((r : Result (List ℕ) SimFault) → Means r → More r)
      → PrintsRun seen (Apart Means) result sink → PrintsRun seen (Apart More) result sink
  prints-as Means More (Ok run) sink so (text, is, arrived) = (text, so (Ok text) is, arrived)
  prints-as Means More (Err (Device d)) sink so (text, is, arrived) = (text, so (Ok text) is, arrived)
  prints-as Means More (Err Memory) sink so nothing = nothing
  prints-as Means More (Err (Image d)) sink so (text, (is, none), arrived) = (text, (so (Err (Image d)) is, none), arrived)
  prints-as Means More (Err (Admit d)) sink so (text, (is, none), arrived) = (text, (so (Err (Admit d)) is, none), arrived)
  prints-as Means More (Err (Load d)) sink so (text, (is, none), arrived) = (text, (so (Err (Load d)) is, none), arrived)
  prints-as Means More (Err (Text d)) sink so (text, (is, none), arrived) = (text, (so (Err (Text d)) is, none), arrived)
  prints-as Means More (Err (Source d)) sink so (text, (is, none), arrived) = (text, (so (Err (Source d)) is, none), arrived)
  prints-as Means More (Err (NotCertified d)) sink so (text, (is, none), arrived) = (text, (so (Err (NotCertified d)) is, none), arrived)
  prints-as Means More (Err (NoTask i k)) sink so (text, (is, none), arrived) = (text, (so (Err (NoTask i k)) is, none), arrived)

  -- the set of a run that is told, what is meant by what is told, and that it ends calmly
  pub told-set : (admission : Admission) (words : List TaskWord) (text : FileText) (file : List ℕ) (ticks : ℕ) (run : Accounts) → ticks_of text ≡ Some ticks → Opens admission text file (Ok run)
      → IfSome (told_of text) (λ told. (set : TaskSet) × IsAccounted set 0 run
      × ((task : Option ℕ) → IsOf text file task → (result : Result Accounts SimFault) (sink : S) → PrintsRun seen (Apart (ToldIs told.0 told.1 task set (min ticks tick_limit))) result sink
      → PrintsRun seen (TextMeans admission words text file) result sink)
      × (EndsCalmly text file → IsCalm (state_at set (min ticks tick_limit))))
  told-set admission words (texts.Run k) file ticks run is o =
      let same : ticks ≡ k = cc in
      let end = ap (λ (t : ℕ). min t tick_limit) same in (
        o.0,
        o.3,
        λ task of result sink.
            prints-as (ToldIs WithServers None task o.0 (min ticks tick_limit)) (RunMeans file admission k) result sink
            (λ r said. subst (RunMeans file admission k) (sym said) (o.0, o.1, o.2, ap (λ (t : ℕ). run_text WithServers o.0 t) end)),
        λ calm. subst (λ (t : ℕ). IsCalm (state_at o.0 t)) (sym end) (calm o.0 o.1),
      )
  told-set admission words (texts.RunPart k part) file ticks run is o =
      let same : ticks ≡ k = cc in
      let end = ap (λ (t : ℕ). min t tick_limit) same in (
        o.0,
        o.3,
        λ task of result sink.
            prints-as (ToldIs WithServers (Some part) task o.0 (min ticks tick_limit)) (RunPartMeans file admission k part) result sink
            (set-part file admission o.0 k (min ticks tick_limit) part task o.1 o.2 (of o.0 o.1) end),
        λ calm. subst (λ (t : ℕ). IsCalm (state_at o.0 t)) (sym end) (calm o.0 o.1),
      )
  told-set admission words (texts.Solo k task) file ticks run is o =
      let same : ticks ≡ k = cc in
      let end = ap (λ (t : ℕ). min t tick_limit) same in
      let set = alone o.0 task in (
        set,
        o.3,
        λ i of result sink.
            prints-as (ToldIs Alone None i set (min ticks tick_limit)) (SoloMeans file task k) result sink
            (λ r said. subst (SoloMeans file task k) (sym said) (o.0, o.1, o.2, ap (λ (t : ℕ). run_text Alone set t) end)),
        λ calm. subst (λ (t : ℕ). IsCalm (state_at set t)) (sym end) (calm o.0 o.1),
      )
  told-set admission words (texts.SoloPart k task part) file ticks run is o =
      let same : ticks ≡ k = cc in
      let end = ap (λ (t : ℕ). min t tick_limit) same in
      let set = alone o.0 task in (
        set,
        o.3,
        λ i of result sink.
            prints-as (ToldIs Alone (Some part) i set (min ticks tick_limit)) (SoloPartMeans file task k part) result sink
            (solo-part file o.0 task k (min ticks tick_limit) part i o.1 o.2 (of set (o.0, o.1, refl)) end),
        λ calm. subst (λ (t : ℕ). IsCalm (state_at set t)) (sym end) (calm o.0 o.1),
      )
  told-set admission words text file ticks run is o = tt

  -- a report that was written and delivered is printed
  pub report-prints : (file : List ℕ) (admission : Admission) (ticks n : ℕ) (width : ReportWidth) (run : Accounts) (before mid after : BufferedSink S)
      (written : Result ℕ DeviceFault) (done : Result ℕ SimFault) (flushed : Result (Unit {0}) DeviceFault) → told seen before ≡ Some [] → (seen before.inner).failed ≡ false
      → (o : OpensAccounts file admission (Ok run)) → n ≡ min ticks tick_limit → done ≡ answer_of written → Counts (gathering seen) before (text_at width o.0 n) written mid
      → Flushes seen mid flushed after → Prints seen (Apart (ReportMeans file admission ticks width)) (answer_after done flushed) after.inner
  report-prints file admission ticks n width run before mid after written done flushed none opened o is answers counts flushes =
      let set = o.0 in
      let means = ReportMeans file admission ticks width in
      let ends = ends-written (gathering seen) means before mid (text_at width set n) written done answers (set, o.1, o.2, ap (text_at width set) is) counts in
      prints seen (Apart means) before mid after done flushed none opened (ends-apart (gathering seen) means before mid done opened ends) flushes

-- a sink that was told nothing has nothing
pub told-nothing : {S : Type 0} (seen : S → Seen) (b : BufferedSink S) → told seen b ≡ Some [] → (seen b.inner).contents ≡ Some []
told-nothing seen b none =
    let p = parts_of (seen b.inner).contents b.gathered b.delivered [] none in
    p.are ∙ ap Some (no-front p.taken b.gathered p.joined)
  where
    no-front : (xs ys : List ℕ) → [] ≡ xs ++ ys → xs ≡ []
    no-front [] ys is = refl
    no-front (x ∷ xs) ys is = absurd cc
