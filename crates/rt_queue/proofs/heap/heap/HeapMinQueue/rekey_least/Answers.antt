use Rattle.rt_queue.proofs.Common.{◌≡◌, ◌∙◌, ℕ, List, Option, Some, set, get_or, ap, keys_in}
use Rattle.std.proofs.Common.{rules}
use Rattle.std.proofs.lemmas.List.{with_items_is, places}
use Rattle.rt_queue.proofs.heap.RekeyLemmas.{least-some, least-first}
use Rattle.rt_queue.proofs.heap.heap.HeapMinQueue.rekey_least.Goals as goal

pub rekey_first-requires-clause-some : goal.rekey_first-requires-clause-some
rekey_first-requires-clause-some c =
    least-some c.self.inside.keys.items c.self.inside.places.items c.self.inside.len c.args._least (rw (← c.self.view_is) at c.requires)

pub returns : goal.returns
returns c =
    let inside = c.self.inside in
    let row : List (Option ℕ) → ℕ → List (Option ℕ) = λ keys number. set keys number (Some c.args.key) in
    let rekeyed : keys_in c.rekey_first.new.keys c.rekey_first.new.places inside.len
    ≡ row (keys_in inside.keys.items inside.places.items inside.len) (get_or inside.order.items 0 0) =
    rw (c.deref_mut.ensures.value, c.deref_mut-2.ensures.value, c.deref_mut-3.ensures.value) at c.rekey_first.ensures.rekeyed in
    let first : get_or inside.order.items 0 0 ≡ c.args._least.1 =
    least-first inside.keys.items inside.order.items inside.places.items inside.len c.args._least c.self.invariant (rw (← c.self.view_is) at c.requires) in
    rw (with_items_is inside.keys c.rekey_first.new.keys (search (rules, places)), with_items_is inside.places c.rekey_first.new.places (search (rules, places)))
    (rekeyed ∙ ap (λ keys. row keys (get_or inside.order.items 0 0)) c.self.view_is ∙ ap (row c.args.self.now) first)
