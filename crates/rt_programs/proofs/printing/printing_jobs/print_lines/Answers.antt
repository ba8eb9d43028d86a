use Rattle.rt_programs.proofs.Common.{◌≡◌, ℕ, ◌≤◌, Result, Ok, Err, sym, ap, subst, ◌∙◌, arith, err_from_is_err_and, legal, listed_text, Flushes, TaskSet, DeviceFault, Said, Accounts, IsAccounted}
use Rattle.rt_accounts.specs.JobListing.{form_text}
use Rattle.rt_programs.specs.printing.Prints.{IsDelivered}
use Rattle.rt_programs.proofs.printing.PartLemmas.{said_header, delivered_header, said_until, delivered_until, delivered_behind}
use Rattle.rt_programs.proofs.printing.printing_jobs.print_lines.Goals as goal

pub returns-in_err-flush-clause-delivers : goal.returns-in_err-flush-clause-delivers
returns-in_err-flush-clause-delivers g c = λ set ran none.
    let e = err_from_is_err_and c.from_residual.result c.from_residual.ensures.1 in
    let here = delivered_header g.S.Sink.seen set c.args.form c.args.n c.args.out.now c.write_jobs_header.new.out c.flush.new.self c.write_jobs_header.result _ none
    c.write_jobs_header.ensures c.in_err-flush.ensures.steps c.in_err-flush.ensures.arrives in
    subst (λ (r : Result Accounts DeviceFault). IsDelivered g.S.Sink.seen (form_text c.args.form set c.args.n) r c.flush.new.self.inner) (sym (e.1 ∙ ap Err e.2)) here

pub parts-init : goal.parts-init
parts-init g c =
    let flushed : Flushes g.S.Sink.seen c.write_jobs_header.new.out (Ok c.in_ok-flush.field-0) c.flush.new.self = c.in_ok-flush.ensures.steps in
    record {
      within = omega (arith, c.requires.start);
      is_open = c.in_ok-flush.ensures.steps.1;
      ran = λ set ran. subst (λ (t : ℕ). IsAccounted set t c.args.run) (sym c.requires.start) ran;
      said = λ set ran none.
          subst (λ (t : ℕ). Said g.S.Sink.seen (listed_text c.args.form.details set (legal set t)) c.flush.new.self) (sym c.requires.start)
          (said_header g.S.Sink.seen set c.args.form.details c.args.out.now c.write_jobs_header.new.out c.flush.new.self c.write_jobs_header.result _ none c.write_jobs_header.ensures flushed);
    }

pub parts-preserved : goal.parts-preserved
parts-preserved g c =
    let flushed : Flushes g.S.Sink.seen c.write_jobs_until-part.new.out (Ok c.in_ok-flush-2.field-0) c.flush-in-parts.new.self = c.in_ok-flush-2.ensures.steps in
    let at = c.in_ok-run.ensures.clock in
    let wrote = λ (set : TaskSet) (ran : IsAccounted set 0 c.args.run). c.in_ok-run.ensures.writes set c.parts.run.machine.tick (c.parts.invariant.ran set ran) in
    record {
      within = omega (arith, at, c.min-until.ensures);
      is_open = c.in_ok-flush-2.ensures.steps.1;
      ran = λ set ran.
          subst (λ (t : ℕ). IsAccounted set t c.in_ok-run.run') (sym at) (wrote set ran).run;
      said = λ set ran none.
          subst (λ (t : ℕ). Said g.S.Sink.seen (listed_text c.args.form.details set (legal set t)) c.flush-in-parts.new.self) (sym at)
          (said_until g.S.Sink.seen set c.args.form c.parts.run.machine.tick c.min-until.result c.parts.out c.write_jobs_until-part.new.out c.flush-in-parts.new.self (Ok c.in_ok-run.run') _
          (c.parts.invariant.said set ran none) (wrote set ran) flushed);
    }

pub returns-in_err-flush-2-clause-delivers : goal.returns-in_err-flush-2-clause-delivers
returns-in_err-flush-2-clause-delivers g c = λ set ran none.
    let e = err_from_is_err_and c.from_residual-in_err-flush-2.result c.from_residual-in_err-flush-2.ensures.1 in
    let within : c.min-until.result ≤ c.args.n = omega (arith, c.min-until.ensures) in
    let has = c.parts.invariant.ran set ran in
    let wrote = c.write_jobs_until-part.ensures.writes set c.parts.run.machine.tick has in
    let here = delivered_until g.S.Sink.seen set c.args.form c.parts.run.machine.tick c.min-until.result c.args.n c.parts.out c.write_jobs_until-part.new.out c.flush-in-parts.new.self
    c.write_jobs_until-part.result _ within (c.parts.invariant.said set ran none) wrote
    c.in_err-flush-2.ensures.steps c.in_err-flush-2.ensures.arrives in
    subst (λ (r : Result Accounts DeviceFault). IsDelivered g.S.Sink.seen (form_text c.args.form set c.args.n) r c.flush-in-parts.new.self.inner) (sym (e.1 ∙ ap Err e.2)) here

pub returns-in_err-flush-3-clause-delivers : goal.returns-in_err-flush-3-clause-delivers
returns-in_err-flush-3-clause-delivers g c = λ set ran none.
    let e = err_from_is_err_and c.from_residual-in_err-flush-3.result c.from_residual-in_err-flush-3.ensures.1 in
    let at : c.parts.run.machine.tick ≡ c.args.n = omega (arith, c.parts.invariant.within, c.parts-test.false, c.now.ensures.value) in
    let has = c.parts.invariant.ran set ran in
    let said : Said g.S.Sink.seen (listed_text c.args.form.details set (legal set c.args.n)) c.parts.out =
    subst (λ (t : ℕ). Said g.S.Sink.seen (listed_text c.args.form.details set (legal set t)) c.parts.out) at (c.parts.invariant.said set ran none) in
    let wrote = c.write_unfinished.ensures set c.args.n (subst (λ (t : ℕ). IsAccounted set t c.parts.run) at has) in
    let here = delivered_behind g.S.Sink.seen set c.args.form c.args.n c.parts.out c.write_unfinished.new.out c.flush-2.new.self c.write_unfinished.result _ said wrote
    c.in_err-flush-3.ensures.steps c.in_err-flush-3.ensures.arrives in
    subst (λ (r : Result Accounts DeviceFault). IsDelivered g.S.Sink.seen (form_text c.args.form set c.args.n) r c.flush-2.new.self.inner) (sym (e.1 ∙ ap Err e.2)) here
