use Rattle.rt_waves.proofs.Common.{◌≡◌, ◌+◌, ℕ, List, ◌++◌, All, append_assoc, append-nil, refl, sym, ap, subst, ◌∙◌, arith, TaskStanding, visited_at, lines_by}
use Rattle.rt_waves.proofs.SoundLemmas.{Bounded, bounded-place}
use Rattle.rt_waves.proofs.VisitLemmas.{lines_first, first-next, lines-next, first-whole, lines-whole}
use Rattle.rt_waves.proofs.visiting.visit_all.Goals as goal

pub loop-number-init : goal.loop-number-init
loop-number-init c = record {
  short = omega arith;
  sound = c.requires.sound;
  visited = refl;
  text = sym (append-nil c.args.page.now);
}

pub loop-number-preserved : goal.loop-number-preserved
loop-number-preserved c =
    let l = c.loop-number in
    let t = c.args.moment.now.telling in
    let u = c.args.moment.now.tick in
    let r = c.args.moment.now.of in
    let xs = c.args.tasks.now in
    let n = l.number in
    let so_far = lines_first t u r 0 n xs in
    let one = lines_by t u r n l.tasks in
    let more : lines_first t u r 0 (n + 1) xs ≡ so_far ++ one = lines-next t u r n xs c.loop-number-test.true ∙ ap (λ (ys : List TaskStanding). so_far ++ lines_by t u r n ys) (sym l.invariant.visited) in
    record {
      short = omega (arith, c.visit.ensures.short, l.invariant.short);
      sound = subst (All (Bounded u)) (sym c.visit.ensures.visited) (bounded-place u r n l.tasks l.invariant.sound);
      visited = c.visit.ensures.visited ∙ ap (visited_at u r n) l.invariant.visited ∙ sym (first-next t u r n xs c.loop-number-test.true);
      text = c.visit.ensures.text ∙ ap (λ (page : List ℕ). page ++ one) l.invariant.text ∙ append_assoc c.args.page.now so_far one ∙ ap (λ (zs : List ℕ). c.args.page.now ++ zs) (sym more);
    }

pub returns-clause-visited : goal.returns-clause-visited
returns-clause-visited c =
    c.loop-number.invariant.visited ∙ first-whole c.args.moment.now.telling c.args.moment.now.tick c.args.moment.now.of c.loop-number.number c.args.tasks.now c.loop-number-test.false

pub returns-clause-text : goal.returns-clause-text
returns-clause-text c =
    c.loop-number.invariant.text
    ∙ ap (λ (zs : List ℕ). c.args.page.now ++ zs) (lines-whole c.args.moment.now.telling c.args.moment.now.tick c.args.moment.now.of c.loop-number.number c.args.tasks.now c.loop-number-test.false)
