use Rattle.rt_perform.proofs.Common.{refl}
use Rattle.rt_perform.proofs.SaidLemmas.{keeps_same}
use Rattle.rt_perform.proofs.performing.work.Goals as goal

pub returns-in-Print-clause-works : goal.returns-in-Print-clause-works
returns-in-Print-clause-works g c =
    let files = g.D.Desk.files c.args.desk.now in rw c.in-Print.is (keeps_same files files refl, λ none. c.print_text.ensures.prints none)
