use Rattle.rt_queue.proofs.Common.{◌∙◌}
use Rattle.rt_queue.proofs.heap.RekeyLemmas.{rekeyed-sinking, keys_in-rekeyed}
use Rattle.rt_queue.proofs.heap.sift.rekey_first.Goals as goal

pub sift_down-requires-clause-sinking : goal.sift_down-requires-clause-sinking
sift_down-requires-clause-sinking c =
    rekeyed-sinking c.args.keys.now c.args.order.now c.args.places.now c.args.key c.args.len c.requires.heap c.requires.some

pub returns-clause-rekeyed : goal.returns-clause-rekeyed
returns-clause-rekeyed c =
    c.sift_down.ensures.present
    ∙ keys_in-rekeyed c.args.keys.now c.args.order.now c.args.places.now c.args.key c.args.len c.requires.heap c.requires.some
