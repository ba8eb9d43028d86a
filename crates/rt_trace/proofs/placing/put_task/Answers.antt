use Rattle.rt_trace.proofs.Common.{ℕ, List, ◌∷◌, [], ◌++◌, ap, ◌∙◌, arith, decimal_digit}
use Rattle.rt_trace.proofs.Places.{two_digits}
use Rattle.rt_trace.proofs.placing.put_task.Goals as goal

pub returns-then-task-lt10-clause-text : goal.returns-then-task-lt10-clause-text
returns-then-task-lt10-clause-text c = rw (decimal_digit c.args.task c.if-task-lt10.true) c.place_front.ensures.bytes

pub returns-clause-text : goal.returns-clause-text
returns-clause-text c =
    let text = rw c.pair_of.ensures at c.place_front-2.ensures.bytes in
    text ∙ ap (λ (digits : List ℕ). 32 ∷ (digits ++ 32 ∷ [])) (two_digits c.args.task (omega (arith, c.if-task-lt10.false)) (omega (arith, c.requires)))
