use Rattle.rt_packet.proofs.Common.{rules, tests, byte, YieldsList-from_slice_split, part_of, is_mark}
use Rattle.std.proofs.lemmas.Iterator.Consumers.{YieldsList-from_filter_map, YieldsList-at}
use Rattle.std.proofs.lemmas.Iterator.Search.{all_from_yields_List}
use Rattle.rt_packet.specs.request.Ids.{is_among}
use Rattle.rt_packet.proofs.request.actions.all_among.Goals as goal

pub returns : goal.returns
returns c =
    all_from_yields_List (λ part. is_among c.args.listed.now part.1) _ _ c.all.result c.all.ensures.ran
    (YieldsList-from_filter_map _ part_of
    (YieldsList-at c.filter_map.ensures.source (YieldsList-from_slice_split _ (is_mark (byte ";")) c.args.text.now c.split.ensures.rest c.split.ensures.done c.split.ensures.closure (λ x b q k. search (rules, tests))))
    c.filter_map.ensures.closure (λ x r q k. search (rules, tests)))
    (λ x b q k. search (rules, tests))
