use Rattle.rt_programs.proofs.Common.{◌≡◌, ◌^◌, ℕ, min, [], Result, Err, ap, sym, subst, ◌∙◌, arith, err_from_is_err_and, IsAccounted, SimFault, TextMeans}
use Rattle.std.proofs.lemmas.List.{nil_from_length}
use Rattle.std.proofs.Common.{rules, inl, inr}
use Rattle.rt_programs.specs.printing.Fails.{Fails, Misnames}
use Rattle.rt_programs.specs.printing.Judges.{Judges}
use Rattle.rt_programs.specs.declared.printing.judging.Verdict.{Verdict}
use Rattle.rt_programs.proofs.printing.JudgeLemmas.{fails, misnames, excepts, few-names, is-of, goes-on, none-asked, told-nothing}
use Rattle.rt_programs.proofs.printing.judging.judge_run.Goals as goal

pub returns-in-Err-Fault-clause-judges : goal.returns-in-Err-Fault-clause-judges
returns-in-Err-Fault-clause-judges g c = λ none. (
  told-nothing g.S.Sink.seen c.args.out.now none,
  rw c.in-Err-Fault.field-0-is
      (misnames c.args.admission c.args.text c.args.bytes.now c.args.asked.except.now c.args.ticks c.args.run c.requires.asked c.requires.opens c.in-Err-Fault.fault
      (inl (c.tasks_of.ensures.refused c.in-Err-Fault.fault (c.in-Err-Fault.is ∙ ap Err c.in-Err-Fault.field-0-is)))),
)

pub returns-in-Err-clause-judges : goal.returns-in-Err-clause-judges
returns-in-Err-clause-judges g c = λ none.
    let m = c.in-Err.ensures.missing in (
      told-nothing g.S.Sink.seen c.args.out.now none,
      misnames c.args.admission c.args.text c.args.bytes.now c.args.asked.except.now c.args.ticks c.args.run c.requires.asked c.requires.opens c.in-Err.fault
          (inr (c.in-Ok.tasks.items, c.in-Ok.ensures.found, m.0, sym c.word.ensures ∙ m.1, m.2)),
    )

pub returns-in-Err-Memory-clause-judges : goal.returns-in-Err-Memory-clause-judges
returns-in-Err-Memory-clause-judges g c = told-nothing g.S.Sink.seen c.args.out.now

pub run-run-requires-clause-before : goal.run-run-requires-clause-before
run-run-requires-clause-before g c =
    let few = goes-on c.args.admission c.args.text c.args.bytes.now c.args.asked.except.now c.args.ticks c.args.run c.requires.asked c.requires.opens _ c.in_ok-run.ensures.runs in
    omega (arith, few, c.min.ensures)

pub returns-in_err-run-clause-judges : goal.returns-in_err-run-clause-judges
returns-in_err-run-clause-judges g c = λ none.
    let words = c.args.asked.except.now in
    let file = c.args.bytes.now in
    let excepted = excepts c.args.admission c.args.text file words c.args.ticks c.args.run c.requires.asked c.requires.opens c.in-Ok.tasks.items c.deref.result.now c.in-Ok.ensures.found c.deref.ensures.value in
    let few = few-names c.args.admission c.args.text file words c.args.ticks c.args.run c.requires.asked c.requires.opens in
    let meant = rw c.word.ensures at (c.in-Ok-task_meant.ensures.found few) in
    let of = is-of c.args.admission c.args.text file words c.args.ticks c.args.run c.requires.asked c.requires.opens c.in-Ok-task_meant.task meant in
    let e = err_from_is_err_and c.from_residual.result c.from_residual.ensures.1 in
    subst (λ (r : Result Verdict SimFault). Judges g.S.Sink.seen (TextMeans c.args.admission words c.args.text file) (Fails c.args.text file c.args.asked.fail_on.now words) (Misnames c.args.text file words) r c.print_run.new.out.inner)
    (sym (e.1 ∙ ap Err e.2)) (c.in_err-run.ensures.prints none words excepted of)

pub returns-then-is_empty-clause-judges : goal.returns-then-is_empty-clause-judges
returns-then-is_empty-clause-judges g c = λ none.
    let words = c.args.asked.except.now in
    let file = c.args.bytes.now in
    let excepted = excepts c.args.admission c.args.text file words c.args.ticks c.args.run c.requires.asked c.requires.opens c.in-Ok.tasks.items c.deref.result.now c.in-Ok.ensures.found c.deref.ensures.value in
    let few = few-names c.args.admission c.args.text file words c.args.ticks c.args.run c.requires.asked c.requires.opens in
    let meant = rw c.word.ensures at (c.in-Ok-task_meant.ensures.found few) in
    let of = is-of c.args.admission c.args.text file words c.args.ticks c.args.run c.requires.asked c.requires.opens c.in-Ok-task_meant.task meant in
    let unasked : c.args.asked.fail_on.now ≡ [] = nil_from_length c.args.asked.fail_on.now (search rules) in
    (c.in_ok-run.ensures.prints none words excepted of, none-asked c.args.text file c.args.asked.fail_on.now words c.args.ticks c.requires.asked unasked)

pub returns-clause-judges : goal.returns-clause-judges
returns-clause-judges g c = λ none.
    let words = c.args.asked.except.now in
    let file = c.args.bytes.now in
    let excepted = excepts c.args.admission c.args.text file words c.args.ticks c.args.run c.requires.asked c.requires.opens c.in-Ok.tasks.items c.deref.result.now c.in-Ok.ensures.found c.deref.ensures.value in
    let few = few-names c.args.admission c.args.text file words c.args.ticks c.args.run c.requires.asked c.requires.opens in
    let meant = rw c.word.ensures at (c.in-Ok-task_meant.ensures.found few) in
    let of = is-of c.args.admission c.args.text file words c.args.ticks c.args.run c.requires.asked c.requires.opens c.in-Ok-task_meant.task meant in (
      c.in_ok-run.ensures.prints none words excepted of,
      subst (Fails c.args.text file c.args.asked.fail_on.now words) (sym c.failed.ensures)
          (fails c.args.admission c.args.text file words c.args.ticks c.args.run c.requires.asked c.requires.opens c.args.asked.fail_on.now c.in-Ok.tasks.items c.judge-first.result c.in-Ok.ensures.found
          (λ set accounted.
          let ran = c.in_ok-run.ensures.runs in
          let ends = subst (λ (t : ℕ). IsAccounted set t c.run-run.result) c.min.ensures (c.run-run.ensures.stands set ran.0 (ran.2 set accounted)) in
          rw c.deref-2.ensures.value at (c.judge-first.ensures.first set (min c.args.ticks (2 ^ 40)) ends))),
    )
