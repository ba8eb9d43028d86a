use Rattle.rt_perform.proofs.Common.{ℕ, List, sym, subst, ◌∙◌, Admission, IsOverload}
use Rattle.rt_perform.specs.Noted.{NotesOf}
use Rattle.rt_perform.proofs.performing.note_overload.Goals as goal

pub returns-in_ok-found-in-Waived-clause-noted : goal.returns-in_ok-found-in-Waived-clause-noted
returns-in_ok-found-in-Waived-clause-noted g c = λ heard.
    let said = g.D.Desk.said in
    let found = c.in_ok-found-in-Waived.found in
    let is = subst (λ (bytes : List ℕ). IsOverload bytes found) c.deref.ensures.value c.in_ok-found-in-Waived.ensures in
    subst (λ (a : Admission). NotesOf a c.args.inputs.now.first.items (said c.args.desk.now) (said c.say_overload.new.desk)) (sym c.in-Waived.is ∙ c.admission.ensures)
    (found, is, c.say_overload.ensures.noted heard)
