use Rattle.rt_chart.proofs.Common.{◌≡◌, ◌*◌, ℕ, true, false, get_or, Option, sym, ap, ◌∙◌, arith, nat_tests, ticks_in}
use Rattle.std.proofs.Common.{nat_le, unwrap_or}
use Rattle.std.proofs.lemmas.Bool.{le-leb}
use Rattle.rt_chart.specs.Scale.{width, steps}
use Rattle.rt_chart.proofs.ScaleLemmas.{find-here, find-later, find-none}
use Rattle.rt_chart.proofs.scale.Scale.step.Goals as goal

pub loop-step-preserved : goal.loop-step-preserved
loop-step-preserved c =
    let w = c.args.self.now.look.window in
    let style = c.args.self.now.look.style in
    let p = λ (s : ℕ). nat_le (100 * ticks_in w) (s * width w style) in
    let i = c.loop-step.step-index in
    let wide = c.args.self.now.is in
    let ticks = c.ticks-least.ensures.value in
    let less = rw (ticks, wide) at c.if-step-self.false in
    let not : p (get_or steps i 0) ≡ false = grind (arith, nat_tests) in
    find-later p steps i c.loop-step-test.true not ∙ c.loop-step.invariant

pub returns-then-step-self-clause-value : goal.returns-then-step-self-clause-value
returns-then-step-self-clause-value c =
    let w = c.args.self.now.look.window in
    let style = c.args.self.now.look.style in
    let p = λ (s : ℕ). nat_le (100 * ticks_in w) (s * width w style) in
    let i = c.loop-step.step-index in
    let wide = c.args.self.now.is in
    let ticks = c.ticks-least.ensures.value in
    let holds : p (get_or steps i 0) ≡ true = le-leb _ _ (rw (ticks, wide) at c.if-step-self.true) in
    ap (λ (r : Option ℕ). unwrap_or r 50000) (sym (find-here p steps i c.loop-step-test.true holds) ∙ c.loop-step.invariant)

pub returns-clause-value : goal.returns-clause-value
returns-clause-value c =
    let w = c.args.self.now.look.window in
    let style = c.args.self.now.look.style in
    let p = λ (s : ℕ). nat_le (100 * ticks_in w) (s * width w style) in
    ap (λ (r : Option ℕ). unwrap_or r 50000) (sym (find-none p steps c.loop-step.step-index c.loop-step-test.false) ∙ c.loop-step.invariant)
