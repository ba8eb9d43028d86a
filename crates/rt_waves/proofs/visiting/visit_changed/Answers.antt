use Rattle.rt_waves.proofs.Common.{◌≡◌, ℕ, List, [], ◌++◌, append-nil, sym, ap, ◌∙◌, visited_all, lines_all}
use Rattle.rt_waves.proofs.VisitLemmas.{quiet-of, visited_none}
use Rattle.rt_waves.proofs.visiting.visit_changed.Goals as goal

-- a visit of all changes nothing
all : (c : goal.In-None-None) → (visited_all c.args.moment.now.tick c.args.moment.now.of c.args.tasks.now ≡ c.args.tasks.now)
    × (lines_all c.args.moment.now.telling c.args.moment.now.tick c.args.moment.now.of c.args.tasks.now ≡ [])
all c =
    visited_none c.args.moment.now.telling c.args.moment.now.tick c.args.moment.now.of c.args.tasks.now
    (λ j x there. quiet-of c.args.moment.now.telling c.args.moment.now.tick c.args.moment.now.of j x c.requires.part
    (c.requires.quiet j x there (λ last. let none = c.in-None-None.is-0 in cc) (λ now. let none = c.in-None-None.is-1 in let is = c.running.ensures in cc)))

pub returns-in-None-None-clause-visited : goal.returns-in-None-None-clause-visited
returns-in-None-None-clause-visited c = sym (all c).0

pub returns-in-None-None-clause-text : goal.returns-in-None-None-clause-text
returns-in-None-None-clause-text c = sym (append-nil c.args.page.now) ∙ ap (λ (zs : List ℕ). c.args.page.now ++ zs) (sym (all c).1)
