use Rattle.rt_effects.proofs.Common.{◌≡◌, ◌-◌, ℕ, List, length, nat_lt, slice_get, take, drop, Some, IfSome, sym, ap, subst, ◌∙◌, arith, TaskWords, middle_text}
use Rattle.std.proofs.Common.{length-append}
use Rattle.std.proofs.lemmas.List.{length-set}
use Rattle.std.proofs.lemmas.List.Elements.{All-set}
use Rattle.rt_effects.specs.Working.Kept.{IsKept}
use Rattle.rt_effects.proofs.KeptLemmas.{sliced, words-there, kept-new}
use Rattle.rt_effects.proofs.teller.Teller.push_kept.Goals as goal

pub slice_bounds-new-count : goal.slice_bounds-new-count
slice_bounds-new-count c =
    let found = words-there c.args.self.now c.args.number c.requires.task in
    let text = c.push_middle.ensures.text found.0 found.1 in
    let middle = middle_text (nat_lt 1 (length c.args.self.now)) found.0 c.args.number c.args.pc (Some c.args.word) in
    omega (arith, c.len-from.ensures.value, ap (λ (l : List ℕ). length l) text, length-append c.push_decimal.new.out.items middle, ap (λ (l : List ℕ). length l) c.deref.ensures.0)

pub slice_bounds-new-start : goal.slice_bounds-new-start
slice_bounds-new-start c =
    let found = words-there c.args.self.now c.args.number c.requires.task in
    let text = c.push_middle.ensures.text found.0 found.1 in
    let middle = middle_text (nat_lt 1 (length c.args.self.now)) found.0 c.args.number c.args.pc (Some c.args.word) in
    omega (arith, c.len-from.ensures.value, ap (λ (l : List ℕ). length l) text, length-append c.push_decimal.new.out.items middle, ap (λ (l : List ℕ). length l) c.deref.ensures.0)

pub invariant_of-self : goal.invariant_of-self
invariant_of-self c =
    let ws = c.args.self.now in
    let i = c.args.number in
    let all = c.deref.result.now in
    let from = c.len-from.result in
    let front = c.push_decimal.new.out.items in
    let told : (w : TaskWords) → slice_get ws i ≡ Some w → take (length all - from) (drop from all) ≡ middle_text (nat_lt 1 (length ws)) w i c.args.pc (Some c.args.word) =
    λ w there. sliced all front (middle_text (nat_lt 1 (length ws)) w i c.args.pc (Some c.args.word)) from (c.deref.ensures.0 ∙ c.push_middle.ensures.text w there) c.len-from.ensures.value in
    let kept = kept-new ws i c.args.pc c.args.word (take (length all - from) (drop from all)) c.new.result c.new.ensures.sound c.new.ensures.of c.new.ensures.text told in (
      length-set c.self.inside.kept.items c.slot_of.result c.new.result ∙ c.self.invariant.0,
      All-set (λ k. IfSome k (IsKept c.self.inside.tasks.items)) c.self.inside.kept.items c.slot_of.result c.new.result
          (subst (λ (vs : List TaskWords). IfSome c.new.result (IsKept vs)) (sym c.self.view_is) kept) c.self.invariant.1,
    )
