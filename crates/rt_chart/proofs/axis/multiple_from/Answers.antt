use Rattle.rt_chart.proofs.Common.{◌+◌, ◌-◌, ◌/◌, arith}
use Rattle.std.proofs.Math.Nat.{mod-add-div', mul-mod_left}
use Rattle.std.proofs.lemmas.Nat.{mod_below}
use Rattle.rt_chart.proofs.axis.multiple_from.Goals as goal

pub overflow_mul-result : goal.overflow_mul-result
overflow_mul-result c =
    let m = c.args.tick + c.args.step - 1 in
    omega (arith, mod-add-div' m c.args.step, c.requires.room, c.requires.some)

pub returns-clause-multiple : goal.returns-clause-multiple
returns-clause-multiple c = mul-mod_left ((c.args.tick + c.args.step - 1) / c.args.step) c.args.step

pub returns-clause-onward : goal.returns-clause-onward
returns-clause-onward c =
    let m = c.args.tick + c.args.step - 1 in
    omega (arith, mod-add-div' m c.args.step, mod_below m c.args.step c.requires.some, c.requires.some)

pub returns-clause-near : goal.returns-clause-near
returns-clause-near c =
    let m = c.args.tick + c.args.step - 1 in
    omega (arith, mod-add-div' m c.args.step, c.requires.some)
