use Rattle.rt_names.proofs.Common.{◌≡◌}
use Rattle.std.proofs.Common.{drop}
use Rattle.rt_words.specs.Run.{run}
use Rattle.rt_names.specs.TaskWords.{task_of, with_task, tasks_of}
use Rattle.rt_names.proofs.task_names.TaskNames.tasks_of.Given as goal

-- the words go on with these tasks
abbrev pub invariant-loop-word : goal.invariant-loop-word
invariant-loop-word l =
    tasks_of l.self l.words ≡ run (λ _ fault. fault) (λ tasks word. with_task tasks (task_of l.self word)) l.word-index l.tasks.items (drop l.word-index l.words)
