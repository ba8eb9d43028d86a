use Rattle.rt_programs.proofs.Common.{Result, refl, sym, subst, ◌∙◌, gathering, Apart, SimFault, Prints, ends-written}
use Rattle.rt_programs.specs.Working.Told.{told_text, ToldIs}
use Rattle.rt_programs.proofs.printing.EndsLemmas.{ends-apart}
use Rattle.rt_programs.proofs.printing.FinishLemmas.{prints}
use Rattle.rt_programs.proofs.printing.judging.print_told.Goals as goal

pub returns-in-Ok-clause-prints : goal.returns-in-Ok-clause-prints
returns-in-Ok-clause-prints g c = λ none set has.
    let steps = c.finish.ensures in
    let seen = g.S.Sink.seen in
    let means = ToldIs c.args.telling c.args.part c.args.task set c.args.n in
    let text = told_text c.args.telling c.args.part c.args.task set c.args.n in
    let ends = ends-written (gathering seen) means c.args.out.now c.write_told-run.new.out text c.write_told-run.result.1 c.answer.result c.answer.ensures refl (c.write_told-run.ensures.writes set has) in
    subst (λ (r : Result (Unit {0}) SimFault). Prints seen (Apart means) r c.finish.new.out.inner) (sym steps.2 ∙ c.in-Ok.is)
    (prints seen (Apart means) c.args.out.now c.write_told-run.new.out c.finish.new.out c.answer.result steps.0 none c.requires.is_open
    (ends-apart (gathering seen) means c.args.out.now c.write_told-run.new.out c.answer.result c.requires.is_open ends) steps.1)

pub returns-clause-prints : goal.returns-clause-prints
returns-clause-prints g c = λ none set has.
    let steps = c.finish.ensures in
    let seen = g.S.Sink.seen in
    let means = ToldIs c.args.telling c.args.part c.args.task set c.args.n in
    let text = told_text c.args.telling c.args.part c.args.task set c.args.n in
    let ends = ends-written (gathering seen) means c.args.out.now c.write_told-run.new.out text c.write_told-run.result.1 c.answer.result c.answer.ensures refl (c.write_told-run.ensures.writes set has) in
    subst (λ (r : Result (Unit {0}) SimFault). Prints seen (Apart means) r c.finish.new.out.inner) (sym steps.2 ∙ c.in-Err.is)
    (prints seen (Apart means) c.args.out.now c.write_told-run.new.out c.finish.new.out c.answer.result steps.0 none c.requires.is_open
    (ends-apart (gathering seen) means c.args.out.now c.write_told-run.new.out c.answer.result c.requires.is_open ends) steps.1)
