use Rattle.rt_names.proofs.Common.{◌≡◌, Symbol}
use Rattle.std.proofs.Common.{rules}
use Rattle.std.proofs.lemmas.List.Sorted.{IsNonDecreasingBy-from_sort_by_key, answers_always}
use Rattle.rt_names.proofs.places.by_address.Goals as goal

pub returns-clause-sorted : goal.returns-clause-sorted
returns-clause-sorted c = IsNonDecreasingBy-from_sort_by_key (λ s. s.address) _ c.in_ok-sort_by_key.ensures.sorted (λ a r q k. search rules)

pub returns-clause-stable : goal.returns-clause-stable
returns-clause-stable c =
    let whole : c.extend_from_slice.new.self.items ≡ c.args.symbols.now = search (rules, c.in_ok-extend_from_slice.ensures.items, c.new-found.ensures.items) in
    let stable = c.sort_by_key.ensures.stable (λ (s : Symbol). s.address) (answers_always _ _ _ (λ f a r g h. search rules)) in
    rw whole at stable
