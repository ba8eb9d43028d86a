use Rattle.rt_programs.proofs.Common.{Result, sym, subst, SimFault, TextMeans, Prints}
use Rattle.rt_programs.proofs.printing.FinishLemmas.{prints}
use Rattle.rt_programs.proofs.printing.file_text.FileText.print.Goals as goal

pub returns-clause-prints : goal.returns-clause-prints
returns-clause-prints g c = λ none words excepted traced.
    let steps = c.finish.ensures in
    let means = TextMeans c.args.admission words c.args.self c.args.bytes.now in
    let after = c.finish.new.out in
    subst (λ (r : Result (Unit {0}) SimFault). Prints g.S.Sink.seen means r after.inner) (sym steps.2)
    (prints g.S.Sink.seen means c.args.out.now c.write-done.new.out after c.write-done.result steps.0 none c.requires.is_open (c.write-done.ensures.ends words excepted traced) steps.1)
