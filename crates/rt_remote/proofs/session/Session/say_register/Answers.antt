use Rattle.rt_remote.proofs.Common.{◌≡◌, refl, sym, ap, subst, ◌∙◌, Some, option_map, lent, MachineState}
use Rattle.rt_packet.specs.declared.answer.replies.Refused.TheVariants.{Malformed}
use Rattle.rt_packet.specs.declared.answer.registers.TaskNumbers.{TaskNumbers}
use Rattle.rt_remote.specs.Said.{says_or}
use Rattle.rt_remote.specs.Shows.{NumberOf, shown_view}
use Rattle.rt_remote.proofs.session.Session.say_register.Goals as goal

pub returns : goal.returns
returns g c =
    let is : shown_view c.args.self.now ≡ Some (lent c.in-Some.view) = sym c.view.ensures ∙ ap (option_map lent) c.in-Some.is in
    let tick = c.now.ensures.value ∙ ap (λ (m : MachineState). m.tick) c.machine.ensures in
    let numbers : TaskNumbers = record { x = c.in-Some.view.x; pc = c.in-Some.view.pc; tick = c.now.result; budget = c.in-Some.view.c; deadline = c.in-Some.view.d } in
    subst (NumberOf c.args.self.now c.args.number c.payload_or.result) (sym is) (numbers, (refl, refl, tick, refl, refl), c.payload_or.ensures ∙ ap (says_or Malformed) c.register_answer.ensures)
