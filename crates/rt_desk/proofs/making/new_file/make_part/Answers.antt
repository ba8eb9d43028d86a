use Rattle.std.proofs.Common.{rules, ◌≡◌}
use Rattle.std.proofs.lemmas.Result.{err_from_is_err_and}
use Rattle.rt_desk.specs.making.Making.{beside}
use Rattle.rt_desk.proofs.making.Steps.{goes_on, both_same, next_taken, next_is_own}
use Rattle.rt_desk.proofs.making.new_file.make_part.Goals.{else-ne-via-then-ne+in_ok-create_new+else-branch, else-ne-via-else-ne}
use Rattle.rt_desk.proofs.making.new_file.make_part.Goals as goal

pub returns-in_err-create_new-clause-calls : goal.returns-in_err-create_new-clause-calls
returns-in_err-create_new-clause-calls g c =
    let refused = err_from_is_err_and c.from_residual-in_err-create_new.result c.from_residual-in_err-create_new.ensures.1 in
    rw refused.1 (goes_on _ _ _ c.loop-number.invariant.taken c.in_err-create_new.ensures.calls (λ _ x y. both_same _ _ _ x.0 y) (λ _ x y same. same) (λ _ x y z same _ too. both_same x y z same too))

pub loop-number-preserved : goal.loop-number-preserved
loop-number-preserved g c = record {
  taken = elim c.else-ne.branch [
    | else-ne-via-then-ne+in_ok-create_new+else-branch w ↦
        rw w.disk-is (next_taken c.args.path.now _ c.loop-number.number _ _ _ (search rules) c.loop-number.invariant.taken (rw w.if-branch.false at w.in_ok-create_new.ensures.calls))
    | else-ne-via-else-ne w ↦
        let own : beside c.args.path.now c.loop-number.number ≡ c.args.path.now = grind rules in
        rw w.disk-is (next_is_own c.args.path.now c.loop-number.number _ _ own c.loop-number.invariant.taken)
  ];
}
