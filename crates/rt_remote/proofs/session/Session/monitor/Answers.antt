use Rattle.rt_remote.proofs.Common.{ap, subst, ◌∙◌, arith}
use Rattle.rt_packet.specs.declared.request.monitor.Monitor.{Monitor}
use Rattle.rt_packet.specs.request.MonitorLine.{monitor_of}
use Rattle.rt_packet.proofs.request.LineLemmas.{cut_line}
use Rattle.rt_remote.specs.Monitors.{Monitors}
use Rattle.rt_remote.proofs.session.Session.monitor.Goals as goal

pub returns : goal.returns
returns g c =
    subst (λ (m : Monitor). Monitors c.args.self.now m c.do_line.result c.do_line.new.self)
    (ap monitor_of (c.deref.ensures.0 ∙ c.keep.ensures) ∙ cut_line 515 c.args.digits.now (omega arith)) c.do_line.ensures
