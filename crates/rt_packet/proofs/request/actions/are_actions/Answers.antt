use Rattle.rt_packet.proofs.Common.{rules, tests, is_some, byte, YieldsList-from_slice_split, part_of, is_mark}
use Rattle.std.proofs.lemmas.Iterator.Search.{all_from_yields_List}
use Rattle.rt_packet.proofs.request.actions.are_actions.Goals as goal

pub returns : goal.returns
returns c =
    all_from_yields_List (λ part. is_some (part_of part)) _ _ c.all.result c.all.ensures.ran
    (YieldsList-from_slice_split _ (is_mark (byte ";")) c.args.text.now c.split.ensures.rest c.split.ensures.done c.split.ensures.closure (λ x b q k. search (rules, tests)))
    (λ x b q k. search (rules, tests))
