use Rattle.rt_names.proofs.Common.{[], length, labels}
use Rattle.rt_names.specs.TaskName.{can_name}
use Rattle.rt_names.proofs.ShortLemmas.{short-labels, found-short}
use Rattle.rt_names.proofs.task_name.own_namer.Goals as goal

pub returns-clause-short : goal.returns-clause-short
returns-clause-short c =
    let ls = labels c.args.object.now.symbols.items in
    let found = rw c.deref.ensures.value at c.namer_among.ensures in
    found-short (can_name c.args.object.now.entry) ls c.namer_among.result (short-labels (length c.args.object.now.bytes.now) [] ls c.requires.labels_fit) found
