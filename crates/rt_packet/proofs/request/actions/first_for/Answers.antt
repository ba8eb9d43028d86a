use Rattle.rt_packet.proofs.Common.{◌≡◌, Option, Some, None, refl, ◌∙◌, rules, tests, option_map, byte, YieldsList-from_slice_split, part_of, is_mark}
use Rattle.std.proofs.lemmas.Iterator.Consumers.{YieldsList-from_filter_map, YieldsList-at}
use Rattle.std.proofs.lemmas.Iterator.Search.{find_from_yields_List}
use Rattle.rt_packet.specs.request.Ids.{names}
use Rattle.rt_packet.proofs.request.actions.first_for.Goals as goal

as_it_is : {A : Type 0} (r : Option A) → r ≡ option_map (λ x. x) r
as_it_is None = refl
as_it_is (Some x) = refl

pub returns : goal.returns
returns c =
    as_it_is c.find.result
    ∙ find_from_yields_List (λ part. names part.1 c.args.task) _ _ c.find.result c.find.ensures.ran
    (YieldsList-from_filter_map _ part_of
    (YieldsList-at c.filter_map.ensures.source (YieldsList-from_slice_split _ (is_mark (byte ";")) c.args.text.now c.split.ensures.rest c.split.ensures.done c.split.ensures.closure (λ x b q k. search (rules, tests))))
    c.filter_map.ensures.closure (λ x r q k. search (rules, tests)))
    (λ x b q k. search (rules, tests))
