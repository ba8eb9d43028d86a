use Rattle.rt_remote.proofs.Common.{◌≡◌, ℕ, List, [], ◌∷◌, ◌++◌, length, ap, sym, ◌∙◌, arith, filter, range_with_len, is_listed}
use Rattle.arrayvec.specs.ArrayVec.{ArrayVec}
use Rattle.rt_remote.proofs.FillLemmas.{those-with, those-without}
use Rattle.rt_remote.proofs.session.Session.listed.Goals as goal
use Rattle.rt_remote.proofs.session.Session.listed.Goals.{then-is_listed, else-is_listed}

pub loop-task-preserved : goal.loop-task-preserved
loop-task-preserved g c = elim c.if-is_listed.branch [
  | then-is_listed w ↦
      let items : c.if-is_listed.listed.items ≡ c.loop-task.listed.items ++ c.loop-task.task ∷ [] = ap (λ (v : ArrayVec ℕ). v.items) w.listed-is ∙ w.push.ensures.items in
      let long : length c.if-is_listed.listed.items ≡ length w.push.new.self.items = ap (λ (v : ArrayVec ℕ). length v.items) w.listed-is in
      record {
        few = omega (arith, long, w.push.ensures.len, c.loop-task.invariant.few);
        those = items ∙ ap (λ (l : List ℕ). l ++ c.loop-task.task ∷ []) c.loop-task.invariant.those ∙ sym (those-with (is_listed c.args.self.now) c.loop-task.task (sym c.is_listed.ensures ∙ w.if-is_listed.true));
      }
  | else-is_listed w ↦
      let items : c.if-is_listed.listed.items ≡ c.loop-task.listed.items = ap (λ (v : ArrayVec ℕ). v.items) w.listed-is in
      let long : length c.if-is_listed.listed.items ≡ length c.loop-task.listed.items = ap length items in
      record {
        few = omega (arith, long, c.loop-task.invariant.few);
        those = items ∙ c.loop-task.invariant.those ∙ sym (those-without (is_listed c.args.self.now) c.loop-task.task (sym c.is_listed.ensures ∙ w.if-is_listed.false));
      }
]

pub returns : goal.returns
returns g c =
    let end : c.loop-task.task ≡ 64 = omega (arith, c.loop-task-test.false, c.loop-task.auto.task-end) in
    c.loop-task.invariant.those ∙ ap (λ (n : ℕ). filter (is_listed c.args.self.now) (range_with_len 0 n)) end
