use Rattle.rt_perform.proofs.Common.{refl}
use Rattle.rt_perform.specs.FirstLine.{fault_text}
use Rattle.rt_perform.proofs.SaidLemmas.{line_more, was_heard}
use Rattle.rt_perform.proofs.performing.report_fault.Goals as goal

pub returns-clause-said : goal.returns-clause-said
returns-clause-said g c heard =
    let before = was_heard (g.D.Desk.is_deaf c.say_first.new.desk) (g.D.Desk.is_deaf c.say_more.new.desk) c.say_more.ensures.deaf heard in
    line_more (g.D.Desk.said c.args.desk.now) (fault_text c.args.fault) (g.D.Desk.said c.say_first.new.desk) (g.D.Desk.said c.say_more.new.desk)
    (c.say_first.ensures.said (fault_text c.args.fault) refl before) (c.say_more.ensures.said heard)
