-- The certificates of a file, printed.
use Rattle.rt_programs.proofs.Common.{◌≡◌, ℕ, List, Bool, false, Option, None, Result, Ok, Err, refl, sym, ap, subst, ◌∙◌, option_map, Seen, Counts, DeviceFault, EndsTelling, SpellsSet, SimFault, TaskSet, task_set, TextMeans}
use Rattle.rt_admit.specs.declared.admission.Admission.{Admission}
use Rattle.rt_image.specs.SystemFile.{system_spelling}
use Rattle.rt_names.specs.TaskWords.{tasks_of}
use Rattle.rt_names.specs.declared.task_word.TaskWord.{TaskWord}
use Rattle.rt_names.specs.declared.task_word.TaskFault.{TaskFault}
use Rattle.rt_opening.specs.Ends.{answer_of}
use Rattle.rt_report.specs.declared.failing.Failing.{Failing}
use Rattle.rt_programs.specs.CertifySet.{AreOutcomes, outcomes_text, ComesTo, first_refused, IsFirst}
use Rattle.rt_programs.specs.Showing.{is_object}
use Rattle.rt_programs.specs.Working.SetOpened.{IsCertifiable}
use Rattle.rt_programs.specs.declared.certify_set.CertifiableSet.{CertifiableSet}
use Rattle.rt_programs.specs.declared.outcome.Outcome.{Outcome}
use Rattle.rt_programs.specs.declared.outcome.Uncertified.{Uncertified as Lacking}
use Rattle.rt_programs.specs.declared.question.Question.{Question}
use Rattle.rt_programs.specs.declared.printing.file_text.FileText.TheVariants.{Certificates}
use Rattle.rt_programs.specs.declared.printing.judging.Finding.TheVariants.{Uncertified}
use Rattle.rt_programs.specs.printing.Fails.{LacksIn, Fails, MisnamesIn, Misnames}
use Rattle.rt_programs.specs.printing.TextMeans.{CertificatesMean}
use Rattle.rt_programs.proofs.CertifySetLemmas.{Law, are-promised}

-- a text that was written, and no refusal
pub telling-written : {S : Type 0} (seen : S → Seen) (Means : List ℕ → Option SimFault → Type 0) (old new : S) (text : List ℕ) (written : Result ℕ DeviceFault) (result : Result ℕ SimFault) → result ≡ answer_of written
    → Means text None → Counts seen old text written new → EndsTelling seen Means old result new
telling-written seen Means old new text written result is means took = subst (λ (r : Result ℕ SimFault). EndsTelling seen Means old r new) (sym is) (at written took)
  where
    at : (written : Result ℕ DeviceFault) → Counts seen old text written new → EndsTelling seen Means old (answer_of written) new
    at (Ok length) took = (text, means, took.1, took.0)
    at (Err fault) took = (text, means, took)

module _ (admission : Admission) (question : Question) (words : List TaskWord) (fail_on : List Failing) (file : List ℕ) (set : CertifiableSet) (no : is_object file ≡ false) (can : IsCertifiable set)
    (spelled : file ≡ system_spelling (task_set set.system)) where
  abbrev s : TaskSet
  s = task_set set.system

  spells : SpellsSet file s
  spells = record { valid = can.valid; bytes = spelled }

  pub set-misnames : (fault : TaskFault) → tasks_of set.names words ≡ Err fault → Misnames (Certificates question) file words fault
  set-misnames fault is =
      subst (λ (b : Bool). MisnamesIn b file words fault) (sym no) (s, spells, ap (λ (names : List (List ℕ)). tasks_of names words) (sym can.named) ∙ is)

  module _ (law : Law) (except : List ℕ) (meant : tasks_of set.names words ≡ Ok except) (os : List Outcome) (are : AreOutcomes question.jobs except s.tasks os) where
    comes : ComesTo file question.jobs words s os
    comes = record {
      spells = spells;
      admitted = can.admitted;
      loads = can.loads;
      except = except;
      meant = ap (λ (names : List (List ℕ)). tasks_of names words) (sym can.named) ∙ meant;
      outcomes = are;
      in_time = are-promised s question.jobs except os law can.admitted are;
    }

    pub set-means : TextMeans admission words (Certificates question) file (outcomes_text set.names question.jobs os) None
    set-means =
        let is = ap (λ (names : List (List ℕ)). outcomes_text names question.jobs os) can.named in
        subst (λ (b : Bool). CertificatesMean b question words file (outcomes_text set.names question.jobs os) None) (sym no) (s, os, comes, is)

    pub set-lacks : (found : Option Lacking) → IsFirst set.names (first_refused 0 os) found → Fails (Certificates question) file fail_on words (option_map Uncertified found)
    set-lacks found first =
        let is = subst (λ (names : List (List ℕ)). IsFirst names (first_refused 0 os) found) can.named first in
        subst (λ (b : Bool). LacksIn b file question.jobs words (option_map Uncertified found)) (sym no) (found, (s, os, comes, is), refl)
