-- A word that means a task of a set, and that task's number.
use Rattle.rt_programs.proofs.Common.{◌≡◌, ◌<◌, ℕ, List, length, Option, Some, None, Result, Ok, Err, sym, ◌∙◌, arith, length-map, Seen, TaskSet, Ends, SimFault, Image, Admit, Load, Text, Source, NotCertified, NoTask, Memory, Device}
use Rattle.std.specs.Prelude.{bytes_eq}
use Rattle.std.specs.List.{enumerate_from}
use Rattle.std.proofs.lemmas.List.FromFn.{length-enumerate_from}
use Rattle.std.proofs.lemmas.List.Quantifiers.{position-Some}
use Rattle.rt_admit.specs.declared.admission.Admission.{Admission}
use Rattle.rt_image.specs.SystemFile.{SetTask}
use Rattle.rt_names.specs.TaskName.{task_name}
use Rattle.rt_names.specs.TaskNames.{task_names}
use Rattle.rt_names.specs.TaskWords.{task_of}
use Rattle.rt_names.specs.declared.task_word.TaskWord.{TaskWord}
use Rattle.rt_names.specs.declared.task_word.TaskWord.TheVariants.{Number, Name}
use Rattle.rt_programs.specs.Asked.{IsMissing, TaskMeans, IsMeant, MeansTask, WordMeans}

-- each task has a name
pub names-count : (s : TaskSet) → length (task_names s) ≡ length s.tasks
names-count s = length-map (enumerate_from 0 s.tasks) (λ (n : ℕ × SetTask). task_name n.0 n.1.object) ∙ length-enumerate_from 0 s.tasks

-- a task that a word means is one of them
meant-there : (names : List (List ℕ)) (word : TaskWord) (i : ℕ) → task_of names word ≡ Ok i → i < length names
meant-there names (Number n) i is = grind (arith, is)
meant-there names (Name w) i is = grind (arith, is, position-Some (λ (name : List ℕ). bytes_eq name w.now) names)

never-missing : (s : TaskSet) (word : Option TaskWord) (task : Option ℕ) (fault : SimFault) → IsMeant (task_names s) word task → IsMissing (length s.tasks) task fault → ⊥
never-missing s None task fault meant missing = let some : None ≡ Some missing.0 = sym meant ∙ missing.1 in absurd cc
never-missing s (Some word) task fault meant missing =
    let same : Some meant.0 ≡ Some missing.0 = sym meant.2 ∙ missing.1 in
    let one : meant.0 ≡ missing.0 = cc in
    omega (arith, meant-there (task_names s) word meant.0 meant.1, names-count s, one, missing.2)

-- a program that is asked for the task that a word means ends as it does for the word
pub ends-of-word : {S : Type 0} (seen : S → Seen) (admission : Admission) (file : List ℕ) (told : TaskSet → Option ℕ → List ℕ) (word : Option TaskWord) (task : Option ℕ) → MeansTask file word task
    → (old new : S) (result : Result ℕ SimFault) → Ends seen (TaskMeans admission task told file) old result new → Ends seen (WordMeans admission word told file) old result new
ends-of-word seen admission file told word task means old new (Ok n) e = (e.0, (e.1.0, e.1.1, e.1.2, task, means e.1.0 e.1.1, e.1.4), e.2, e.3)
ends-of-word seen admission file told word task means old new (Err (Device d)) e = (e.0, (e.1.0, e.1.1, e.1.2, task, means e.1.0 e.1.1, e.1.4), e.2)
ends-of-word seen admission file told word task means old new (Err (NoTask i k)) e =
    absurd (never-missing e.0.0 word task (NoTask i k) (means e.0.0 e.0.1) e.0.3)
ends-of-word seen admission file told word task means old new (Err Memory) e = e
ends-of-word seen admission file told word task means old new (Err (Image d)) e = e
ends-of-word seen admission file told word task means old new (Err (Admit d)) e = e
ends-of-word seen admission file told word task means old new (Err (Load d)) e = e
ends-of-word seen admission file told word task means old new (Err (Text d)) e = e
ends-of-word seen admission file told word task means old new (Err (Source d)) e = e
ends-of-word seen admission file told word task means old new (Err (NotCertified d)) e = e
