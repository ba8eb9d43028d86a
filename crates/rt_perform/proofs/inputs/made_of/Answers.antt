use Rattle.rt_perform.proofs.Common.{sym, ◌∙◌}
use Rattle.rt_perform.proofs.GivenLemmas.{as_system, as_object}
use Rattle.rt_perform.proofs.inputs.made_of.Goals as goal

pub returns-then-is_placed-clause-becomes : goal.returns-then-is_placed-clause-becomes
returns-then-is_placed-clause-becomes g c =
    let made = c.in_ok-system.system in
    as_system (g.D.Desk.files c.args.desk.now) c.args.request c.args.read.now.first.items made.bytes made.left_out (sym c.is_placed.ensures ∙ c.if-is_placed.true) c.in_ok-system.ensures

pub returns-then-is_linked-clause-becomes : goal.returns-then-is_linked-clause-becomes
returns-then-is_linked-clause-becomes g c =
    let made = c.in_ok-object.object in
    as_object (g.D.Desk.files c.args.desk.now) c.args.request c.args.read.now.first.items made.bytes made.left_out (sym c.is_placed.ensures ∙ c.if-is_placed.false)
    (sym c.is_linked.ensures ∙ c.if-is_linked.true) c.in_ok-object.ensures
