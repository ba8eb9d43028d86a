use Rattle.rt_packet.proofs.Common.{ap, codes, rules, tests, byte, bytes_eq, YieldsList-from_slice_split, is_mark}
use Rattle.std.proofs.lemmas.Iterator.Search.{any_from_yields_List}
use Rattle.rt_packet.specs.declared.request.request.Request.TheVariants.{Supported}
use Rattle.rt_packet.proofs.request.prefixes.supported.Goals as goal

pub returns : goal.returns
returns c =
    ap Supported (any_from_yields_List (λ feature. bytes_eq feature (codes "multiprocess+")) _ _ c.any-has_processes.result c.any-has_processes.ensures.ran
    (YieldsList-from_slice_split _ (is_mark (byte ";")) c.args.text.now c.split.ensures.rest c.split.ensures.done c.split.ensures.closure (λ x b q k. search (rules, tests)))
    (λ x b q k. search (rules, tests)))
