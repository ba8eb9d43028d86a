use Rattle.rt_asm.proofs.Common.{rules, ◌≡◌, ◌<◌, List, refl, subst, arith, labels}
use Rattle.std.proofs.lemmas.List.Elements.{All-from_get_or}
use Rattle.std.specs.Prelude.{IsPermutation}
use Rattle.std.proofs.lemmas.List.Sorted.{answers_always, IsPermutation-map, IsPermutation-trans}
use Rattle.rt_image.specs.ObjectFile.{label}
use Rattle.rt_image.specs.declared.object.Symbol.{Symbol}
use Rattle.rt_asm.proofs.ObjectLemmas.{IsOrdered, in_order}
use Rattle.rt_asm.proofs.assembled.in_order.Goals as goal

-- first by the fronts of names, then by names
moved : {given copied fronts sorted : List Symbol} → copied ≡ given → IsPermutation copied fronts → IsPermutation fronts sorted → IsPermutation given sorted
moved {given} {copied} {fronts} {sorted} same first second =
    IsPermutation-trans given fronts sorted (subst (λ (ss : List Symbol). IsPermutation ss fronts) same first) second

pub returns-clause-spelled : goal.returns-clause-spelled
returns-clause-spelled c =
    let all : IsPermutation c.args.labels.now c.sort_by_key.new.self.items = moved c.in_ok-symbols.ensures.items c.order_by_fronts.ensures c.sort_by_key.ensures.permutation in
    let o : IsOrdered (record { entry = c.args.entry; bytes = c.args.bytes.now; labels = labels c.args.labels.now }) c.sort_by_key.new.self.items =
    in_order _ c.args.labels.now c.sort_by_key.new.self.items c.requires refl all
    (c.in_ok-sort_by_key.ensures.sorted (λ s. s.name) (answers_always _ _ _ (λ f a r g k. search rules))) in
    record { entry_fits = c.ranges.entry.fits; bytes_fit = All-from_get_or (λ b. b < 256) c.args.bytes.now 0 (λ i _. omega (arith, c.type_inv.bytes i)); size = c.requires.size; count = o.count; labels_fit = o.fit }

pub returns-clause-labels : goal.returns-clause-labels
returns-clause-labels c =
    IsPermutation-map label c.args.labels.now c.sort_by_key.new.self.items
    (moved c.in_ok-symbols.ensures.items c.order_by_fronts.ensures c.sort_by_key.ensures.permutation)
