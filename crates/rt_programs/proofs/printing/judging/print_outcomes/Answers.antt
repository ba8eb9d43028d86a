use Rattle.rt_programs.proofs.Common.{◌≡◌, List, ℕ, Result, Err, sym, ap, subst, ◌∙◌, err_from_is_err_and, set_tasks, SimFault, Memory, TextMeans, Prints, gathering}
use Rattle.rt_programs.specs.CertifySet.{AreOutcomes, outcomes_text}
use Rattle.rt_programs.specs.declared.printing.file_text.FileText.TheVariants.{Certificates}
use Rattle.rt_programs.specs.declared.printing.judging.Verdict.{Verdict}
use Rattle.rt_programs.specs.printing.Fails.{Fails, Misnames}
use Rattle.rt_programs.specs.printing.Judges.{Judges}
use Rattle.rt_programs.proofs.printing.CertificateLemmas.{telling-written, set-misnames, set-means, set-lacks}
use Rattle.rt_programs.proofs.printing.FinishLemmas.{prints}
use Rattle.rt_programs.proofs.printing.JudgeLemmas.{told-nothing}
use Rattle.rt_programs.proofs.printing.judging.print_outcomes.Goals as goal

pub returns-in-Err-Fault-clause-judges : goal.returns-in-Err-Fault-clause-judges
returns-in-Err-Fault-clause-judges g c = λ admission file fail_on no spelled none. (
  told-nothing g.S.Sink.seen c.args.out.now none,
  rw c.in-Err-Fault.field-0-is
      (set-misnames admission c.args.question c.args.words.now fail_on file c.args.set.now no c.requires.certifiable spelled c.in-Err-Fault.why (c.tasks_of.ensures.refused c.in-Err-Fault.why (c.in-Err-Fault.is ∙ ap Err c.in-Err-Fault.field-0-is))),
)

pub returns-in-Err-Memory-clause-judges : goal.returns-in-Err-Memory-clause-judges
returns-in-Err-Memory-clause-judges g c = λ admission file fail_on no spelled none. told-nothing g.S.Sink.seen c.args.out.now none

pub returns-in_err-outcomes-clause-judges : goal.returns-in_err-outcomes-clause-judges
returns-in_err-outcomes-clause-judges g c = λ admission file fail_on no spelled none.
    let e = err_from_is_err_and c.from_residual.result c.from_residual.ensures.1 in
    let memory : c.from_residual.result ≡ Err Memory = e.1 ∙ ap Err (e.2 ∙ c.in_err-outcomes.ensures.memory) in
    let text = Certificates c.args.question in
    let words = c.args.words.now in
    subst (λ (r : Result Verdict SimFault). Judges g.S.Sink.seen (TextMeans admission words text file) (Fails text file fail_on words) (Misnames text file words) r c.args.out.now.inner) (sym memory)
    (told-nothing g.S.Sink.seen c.args.out.now none)

pub returns-in-Ok-finish-clause-judges : goal.returns-in-Ok-finish-clause-judges
returns-in-Ok-finish-clause-judges g c = λ admission file fail_on no spelled none.
    let seen = g.S.Sink.seen in
    let text = Certificates c.args.question in
    let words = c.args.words.now in
    let os = c.in_ok-outcomes.outcomes.items in
    let n = c.args.question.jobs in
    let law = c.certified_set_is_in_time.ensures in
    let steps = c.finish.ensures in
    let are = subst (λ (ks : List ℕ). AreOutcomes n ks (set_tasks c.args.set.now.system.tasks.items) os) c.deref.ensures.value c.in_ok-outcomes.ensures.outcomes in
    let means = set-means admission c.args.question words fail_on file c.args.set.now no c.requires.certifiable spelled law c.in-Ok.tasks.items c.in-Ok.ensures.found os are in
    let counts = rw c.deref-2.ensures.value at c.write.ensures in
    let ends = telling-written (gathering seen) (TextMeans admission words text file) c.args.out.now c.write.new.out (outcomes_text c.args.set.now.names n os) c.write.result c.answer-done.result c.answer-done.ensures means counts in
    let printed = prints seen (TextMeans admission words text file) c.args.out.now c.write.new.out c.finish.new.out c.answer-done.result steps.0 none c.requires.is_open ends steps.1 in (
      subst (λ (r : Result (Unit {0}) SimFault). Prints seen (TextMeans admission words text file) r c.finish.new.out.inner) (sym steps.2 ∙ c.in-Ok-finish.is) printed,
      subst (Fails text file fail_on words) (sym c.uncertified.ensures)
          (set-lacks admission c.args.question words fail_on file c.args.set.now no c.requires.certifiable spelled law c.in-Ok.tasks.items c.in-Ok.ensures.found os are c.first_refused-first.result (rw c.deref-in-Ok-finish.ensures.value at c.first_refused-first.ensures)),
    )

pub returns-clause-judges : goal.returns-clause-judges
returns-clause-judges g c = λ admission file fail_on no spelled none.
    let seen = g.S.Sink.seen in
    let text = Certificates c.args.question in
    let words = c.args.words.now in
    let os = c.in_ok-outcomes.outcomes.items in
    let n = c.args.question.jobs in
    let law = c.certified_set_is_in_time.ensures in
    let steps = c.finish.ensures in
    let are = subst (λ (ks : List ℕ). AreOutcomes n ks (set_tasks c.args.set.now.system.tasks.items) os) c.deref.ensures.value c.in_ok-outcomes.ensures.outcomes in
    let means = set-means admission c.args.question words fail_on file c.args.set.now no c.requires.certifiable spelled law c.in-Ok.tasks.items c.in-Ok.ensures.found os are in
    let counts = rw c.deref-2.ensures.value at c.write.ensures in
    let ends = telling-written (gathering seen) (TextMeans admission words text file) c.args.out.now c.write.new.out (outcomes_text c.args.set.now.names n os) c.write.result c.answer-done.result c.answer-done.ensures means counts in
    let printed = prints seen (TextMeans admission words text file) c.args.out.now c.write.new.out c.finish.new.out c.answer-done.result steps.0 none c.requires.is_open ends steps.1 in
    subst (λ (r : Result (Unit {0}) SimFault). Prints seen (TextMeans admission words text file) r c.finish.new.out.inner) (sym steps.2 ∙ c.in-Err.is) printed
