use Rattle.std.proofs.Common.{Some, sym, ap, ◌∙◌}
use Rattle.std.specs.Option.{option_map}
use Rattle.rt_debug.proofs.seeing.AskingHalt.look_risen.Goals as goal

pub returns : goal.returns
returns g c = λ m. ap (option_map Some) (c.happens_idle.ensures m) ∙ sym c.met.ensures
