use Rattle.rt_waves.proofs.Common.{◌≡◌, ℕ, List, [], ◌++◌, length, get_or, slice_get, slice_set, Option, Some, refl, sym, ap, ◌∙◌, option_map_or, slice_get_read, AttemptOutcome, outcome_of, TaskStanding, seen, visited, lines_of}
use Rattle.rt_waves.proofs.visiting.visit.Goals as goal

-- what the visit left of the task
made : (c : goal.After-visit) → c.visit.new.self ≡ visited c.args.moment.now.tick (outcome_of c.args.number c.args.moment.now.of) c.index-tasks-number.result
made c =
    c.visit.ensures.stands
    ∙ ap (λ (o : Option AttemptOutcome). visited c.args.moment.now.tick o (get_or c.args.tasks.now c.args.number c.index-tasks-number.result)) c.outcome_of.ensures
    ∙ ap (visited c.args.moment.now.tick (outcome_of c.args.number c.args.moment.now.of)) (sym c.index-tasks-number.is)

there : (c : goal.After-visit) → slice_get c.args.tasks.now c.args.number ≡ Some c.index-tasks-number.result
there c = slice_get_read c.args.tasks.now (length c.args.tasks.now) c.args.number c.index-tasks-number.result refl c.requires.there c.index-tasks-number.is

pub returns-clause-visited : goal.returns-clause-visited
returns-clause-visited c =
    let xs = c.args.tasks.now in
    let i = c.args.number in
    ap (slice_set xs i) (made c)
    ∙ sym (ap (λ (f : Option TaskStanding). option_map_or (λ y. slice_set xs i (visited c.args.moment.now.tick (outcome_of i c.args.moment.now.of) y)) f xs) (there c))

pub returns-clause-text : goal.returns-clause-text
returns-clause-text c =
    let t = c.args.moment.now.telling in
    let u = c.args.moment.now.tick in
    let r = c.args.moment.now.of in
    let i = c.args.number in
    let x = c.index-tasks-number.result in
    let page = c.args.page.now in
    c.visit.ensures.text
    ∙ ap (λ (y : TaskStanding). page ++ lines_of t i y.told (seen u c.outcome_of.result y)) (sym c.index-tasks-number.is)
    ∙ ap (λ (o : Option AttemptOutcome). page ++ lines_of t i x.told (seen u o x)) c.outcome_of.ensures
    ∙ ap (λ (l : List ℕ). page ++ l) (sym (ap (λ (f : Option TaskStanding). option_map_or (λ y. lines_of t i y.told (seen u (outcome_of i r) y)) f []) (there c)))
