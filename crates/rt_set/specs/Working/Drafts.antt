-- What a file that is read in part stands for.
use Rattle.rt_set.specs.declared.reading.Draft as declared
use Rattle.rt_set.specs.SetFile.{task_entries}
use Rattle.rt_set.specs.SetLines.{Draft}

abbrev pub draft_of : declared.Draft → Draft
draft_of d = record { hyper = d.hyper; tasks = task_entries d.tasks.items }
