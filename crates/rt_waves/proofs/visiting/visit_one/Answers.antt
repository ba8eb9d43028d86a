use Rattle.rt_waves.proofs.Common.{◌≡◌, ℕ, List, ◌++◌, sym, ap, ◌∙◌, visited_all, lines_all, visited_at, lines_by}
use Rattle.rt_waves.proofs.VisitLemmas.{quiet-of, visited_one}
use Rattle.rt_waves.proofs.visiting.visit_one.Goals as goal

-- what a visit of all is
all : (c : goal.After-tasks-1)
    → (visited_all c.args.moment.now.tick c.args.moment.now.of c.args.tasks.now ≡ visited_at c.args.moment.now.tick c.args.moment.now.of c.args.number c.args.tasks.now)
    × (lines_all c.args.moment.now.telling c.args.moment.now.tick c.args.moment.now.of c.args.tasks.now ≡ lines_by c.args.moment.now.telling c.args.moment.now.tick c.args.moment.now.of c.args.number c.args.tasks.now)
all c =
    visited_one c.args.moment.now.telling c.args.moment.now.tick c.args.moment.now.of c.args.number c.args.tasks.now
    (λ j x there other. quiet-of c.args.moment.now.telling c.args.moment.now.tick c.args.moment.now.of j x c.requires.part (c.requires.quiet j x there other))

pub returns-clause-visited : goal.returns-clause-visited
returns-clause-visited c = c.visit.ensures.visited ∙ sym (all c).0

pub returns-clause-text : goal.returns-clause-text
returns-clause-text c = c.visit.ensures.text ∙ ap (λ (zs : List ℕ). c.args.page.now ++ zs) (sym (all c).1)
