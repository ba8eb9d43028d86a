use Rattle.rt_programs.proofs.Common.{Result, Err, sym, subst, ◌∙◌, SimFault, Prints, TextMeans}
use Rattle.rt_programs.proofs.printing.FinishLemmas.{prints}
use Rattle.rt_programs.proofs.printing.JudgeLemmas.{answer-refuses}
use Rattle.rt_programs.proofs.printing.judging.refuse.Goals as goal

pub returns-in-Ok : goal.returns-in-Ok
returns-in-Ok g c =
    let steps = c.finish.ensures in
    let refused = answer-refuses c.args.fault steps.0 in
    let never : ⊥ = absurd cc in
    absurd never

pub returns-in-Err : goal.returns-in-Err
returns-in-Err g c = record {
  judges = λ begun admission text file fail_on except opened none ends.
      let steps = c.finish.ensures in
      subst (λ (r : Result (Unit {0}) SimFault). Prints g.S.Sink.seen (TextMeans admission except text file) r c.finish.new.out.inner) (sym steps.2 ∙ c.in-Err.is)
      (prints g.S.Sink.seen (TextMeans admission except text file) begun c.args.out.now c.finish.new.out (Err c.args.fault) steps.0 none opened ends steps.1);
  never = tt;
}
