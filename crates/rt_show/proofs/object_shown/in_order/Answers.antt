use Rattle.std.proofs.Common.{rules, List, IsPermutation, subst}
use Rattle.std.proofs.lemmas.List.Sorted.{answers_always, IsPermutation-map}
use Rattle.rt_image.specs.declared.object.Symbol.{Symbol}
use Rattle.rt_image.specs.ObjectFile.{label}
use Rattle.rt_show.proofs.ShownLemmas.{sorted-labels}
use Rattle.rt_show.proofs.object_shown.in_order.Goals as goal

pub returns : goal.returns
returns c =
    let moved : IsPermutation c.args.symbols.now c.sort_by_key.new.self.items =
    subst (λ (ss : List Symbol). IsPermutation ss c.sort_by_key.new.self.items) c.in_ok-found.ensures.items c.sort_by_key.ensures.permutation in
    record {
      all = IsPermutation-map label c.args.symbols.now c.sort_by_key.new.self.items moved;
      rising = sorted-labels c.sort_by_key.new.self.items (c.in_ok-sort_by_key.ensures.sorted (λ s. (s.address, s.name)) (answers_always _ _ _ (λ f a r g k. search rules)));
    }
