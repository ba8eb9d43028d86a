use Rattle.rt_remote.proofs.Common.{sym, subst}
use Rattle.rt_packet.specs.declared.request.request.Request.{Request}
use Rattle.rt_remote.specs.Executes.{Executes}
use Rattle.rt_remote.proofs.session.Session.change.Goals as goal

pub returns-in-Kill : goal.returns-in-Kill
returns-in-Kill g c = λ paused.
    subst (λ (r : Request). Executes c.args.self.now r paused c.end.result c.end.new.self) (sym c.in-Kill.is) (c.end.ensures paused)
