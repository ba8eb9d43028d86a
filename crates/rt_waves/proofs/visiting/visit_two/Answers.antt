use Rattle.rt_waves.proofs.Common.{◌≡◌, ℕ, List, ◌++◌, All, append_assoc, sym, ap, subst, ◌∙◌, TaskStanding, visited_all, lines_all, visited_at, lines_by}
use Rattle.rt_waves.proofs.SoundLemmas.{Bounded, bounded-place}
use Rattle.rt_waves.proofs.VisitLemmas.{quiet-of, visited_two}
use Rattle.rt_waves.proofs.visiting.visit_two.Goals as goal

pub visit-requires-2-clause-sound : goal.visit-requires-2-clause-sound
visit-requires-2-clause-sound c =
    subst (All (Bounded c.args.moment.now.tick)) (sym c.visit.ensures.visited)
    (bounded-place c.args.moment.now.tick c.args.moment.now.of c.args.first c.args.tasks.now c.requires.sound)

-- what a visit of all is
all : (c : goal.After-tasks-2-1)
    → (visited_all c.args.moment.now.tick c.args.moment.now.of c.args.tasks.now
    ≡ visited_at c.args.moment.now.tick c.args.moment.now.of c.args.second (visited_at c.args.moment.now.tick c.args.moment.now.of c.args.first c.args.tasks.now))
    × (lines_all c.args.moment.now.telling c.args.moment.now.tick c.args.moment.now.of c.args.tasks.now
    ≡ lines_by c.args.moment.now.telling c.args.moment.now.tick c.args.moment.now.of c.args.first c.args.tasks.now
    ++ lines_by c.args.moment.now.telling c.args.moment.now.tick c.args.moment.now.of c.args.second (visited_at c.args.moment.now.tick c.args.moment.now.of c.args.first c.args.tasks.now))
all c =
    visited_two c.args.moment.now.telling c.args.moment.now.tick c.args.moment.now.of c.args.first c.args.second c.args.tasks.now c.requires.order
    (λ j x there no_first no_second. quiet-of c.args.moment.now.telling c.args.moment.now.tick c.args.moment.now.of j x c.requires.part (c.requires.quiet j x there no_first no_second))

-- the lines of both
lines : (c : goal.After-tasks-2-1) → lines_all c.args.moment.now.telling c.args.moment.now.tick c.args.moment.now.of c.args.tasks.now
    ≡ lines_by c.args.moment.now.telling c.args.moment.now.tick c.args.moment.now.of c.args.first c.args.tasks.now
    ++ lines_by c.args.moment.now.telling c.args.moment.now.tick c.args.moment.now.of c.args.second c.visit.new.tasks
lines c =
    (all c).1
    ∙ ap (λ (ys : List TaskStanding). lines_by c.args.moment.now.telling c.args.moment.now.tick c.args.moment.now.of c.args.first c.args.tasks.now
    ++ lines_by c.args.moment.now.telling c.args.moment.now.tick c.args.moment.now.of c.args.second ys) (sym c.visit.ensures.visited)

pub returns-clause-visited : goal.returns-clause-visited
returns-clause-visited c =
    c.visit-2.ensures.visited ∙ ap (visited_at c.args.moment.now.tick c.args.moment.now.of c.args.second) c.visit.ensures.visited ∙ sym (all c).0

pub returns-clause-text : goal.returns-clause-text
returns-clause-text c =
    let one = lines_by c.args.moment.now.telling c.args.moment.now.tick c.args.moment.now.of c.args.first c.args.tasks.now in
    let two = lines_by c.args.moment.now.telling c.args.moment.now.tick c.args.moment.now.of c.args.second c.visit.new.tasks in
    c.visit-2.ensures.text ∙ ap (λ (page : List ℕ). page ++ two) c.visit.ensures.text ∙ append_assoc c.args.page.now one two ∙ ap (λ (zs : List ℕ). c.args.page.now ++ zs) (sym (lines c))
