use Rattle.rt_programs.proofs.Common.{Bool, None, Result, Ok, Err, refl, sym, subst, ◌∙◌, SimFault, Apart, Prints, gathering}
use Rattle.rt_programs.specs.Certify.{CertifyMeans}
use Rattle.rt_programs.specs.printing.Fails.{LacksIn, MisnamesIn}
use Rattle.rt_programs.specs.printing.TextMeans.{CertificatesMean}
use Rattle.rt_programs.proofs.printing.EndsLemmas.{ends-apart}
use Rattle.rt_programs.proofs.printing.FinishLemmas.{prints}
use Rattle.rt_programs.proofs.printing.JudgeLemmas.{told-nothing}
use Rattle.rt_programs.proofs.printing.judging.print_certificate.Goals as goal

pub returns-in-Some-clause-judges : goal.returns-in-Some-clause-judges
returns-in-Some-clause-judges g c = λ admission fail_on none. (
  told-nothing g.S.Sink.seen c.args.out.now none,
  subst (λ (b : Bool). MisnamesIn b c.args.bytes.now c.args.except.now c.in-Some.fault) (sym c.requires.object) c.in-Some.ensures.fault,
)

pub returns-in-Ok-clause-judges : goal.returns-in-Ok-clause-judges
returns-in-Ok-clause-judges g c = λ admission fail_on none.
    let seen = g.S.Sink.seen in
    let file = c.args.bytes.now in
    let means = CertifyMeans file c.args.question in
    let steps = c.finish.ensures in
    let ends = ends-apart (gathering seen) means c.args.out.now c.certify-done.new.out c.certify-done.result c.requires.is_open c.certify-done.ensures.ends in
    let printed = prints seen (Apart means) c.args.out.now c.certify-done.new.out c.finish.new.out c.certify-done.result steps.0 none c.requires.is_open ends steps.1 in (
      subst (λ (b : Bool). Prints {X = Unit {0}} seen (CertificatesMean b c.args.question c.args.except.now file) (Ok tt) c.finish.new.out.inner) (sym c.requires.object)
          (subst (λ (r : Result (Unit {0}) SimFault). Prints seen (Apart means) r c.finish.new.out.inner) (sym steps.2 ∙ c.in-Ok.is) printed),
      subst (λ (b : Bool). LacksIn b file c.args.question.jobs c.args.except.now None) (sym c.requires.object) refl,
    )

pub returns-in-Err-clause-judges : goal.returns-in-Err-clause-judges
returns-in-Err-clause-judges g c = λ admission fail_on none.
    let seen = g.S.Sink.seen in
    let file = c.args.bytes.now in
    let means = CertifyMeans file c.args.question in
    let steps = c.finish.ensures in
    let ends = ends-apart (gathering seen) means c.args.out.now c.certify-done.new.out c.certify-done.result c.requires.is_open c.certify-done.ensures.ends in
    let printed = prints seen (Apart means) c.args.out.now c.certify-done.new.out c.finish.new.out c.certify-done.result steps.0 none c.requires.is_open ends steps.1 in
    subst (λ (b : Bool). Prints {X = Unit {0}} seen (CertificatesMean b c.args.question c.args.except.now file) (Err c.in-Err.fault) c.finish.new.out.inner) (sym c.requires.object)
    (subst (λ (r : Result (Unit {0}) SimFault). Prints seen (Apart means) r c.finish.new.out.inner) (sym steps.2 ∙ c.in-Err.is) printed)
