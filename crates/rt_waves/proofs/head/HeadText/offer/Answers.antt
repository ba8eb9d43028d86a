use Rattle.rt_waves.proofs.Common.{◌≡◌, ◌+◌, [], ◌++◌, ℕ, List, length, length-append, codes, append-nil, append_assoc, sym, ap, ◌∙◌, arith, flat_map, range_with_len, task_head, scope_name, all_differ}
use Rattle.rt_waves.specs.Scale.{scale_line}
use Rattle.rt_waves.proofs.BlockLemmas.{range-first}
use Rattle.rt_waves.proofs.head.HeadText.offer.Goals as goal

pub loop-task-init : goal.loop-task-init
loop-task-init g c =
    let front = scale_line c.args.self.now.scale.now ++ codes "$scope module system $end\n$var wire 1 i idle $end\n" in
    let none : front ++ [] ≡ front = append-nil front in
    let offers = rw c.plain.ensures at c.offer.ensures.offers in
    let short = rw c.plain.ensures at c.offer.ensures.short in
    record { offered = rw none offers; short = omega (arith, ap length none, short) }

pub loop-task-preserved : goal.loop-task-preserved
loop-task-preserved g c =
    let names = c.args.self.now.names.now in
    let named = all_differ names c.args.self.now.count in
    let front = scale_line c.args.self.now.scale.now ++ codes "$scope module system $end\n$var wire 1 i idle $end\n" in
    let n = c.loop-task.task in
    let head : ℕ → List ℕ = λ i. task_head (scope_name named names i) i in
    let heads = front ++ flat_map head (range_with_len 0 n) in
    let more : front ++ flat_map head (range_with_len 0 (n + 1)) ≡ heads ++ head n =
    ap (λ (xs : List ℕ). front ++ xs) (range-first head n) ∙ sym (append_assoc front (flat_map head (range_with_len 0 n)) (head n)) in
    let offers = rw c.all_differ-are_used.ensures at c.offer-in-loop-task.ensures.offers in
    let short = rw c.all_differ-are_used.ensures at c.offer-in-loop-task.ensures.short in
    record {
      offered = rw more (g.met.O.Out.joined _ _ _ _ _ c.loop-task.invariant.offered offers);
      short = omega (arith, ap length more, length-append heads (head n), c.loop-task.invariant.short, short);
    }

pub returns-clause-offers : goal.returns-clause-offers
returns-clause-offers g c =
    let all : c.loop-task.task ≡ c.args.self.now.count = omega arith in
    let closing = rw c.plain-2.ensures at c.offer-2.ensures.offers in
    rw all at (g.met.O.Out.joined _ _ _ _ _ c.loop-task.invariant.offered closing)
