use Rattle.rt_programs.proofs.Common.{[], refl}
use Rattle.rt_programs.specs.Check.{overload_text}
use Rattle.rt_programs.proofs.OverloadLemmas.{no-reason, load-reason, load-tells}
use Rattle.rt_programs.proofs.ReasonLemmas.{told-text, told-nothing}
use Rattle.rt_programs.proofs.check_system.write_reason.Goals as goal

pub returns-in-Some : goal.returns-in-Some
returns-in-Some g c = λ set fault at are is.
    let h = c.args.hyper in
    let tasks = c.args.params.now in
    let b = c.in-Some.breach in
    let reason = load-reason set h tasks fault b at are is (c.in-Some.ensures.refused.0 refl) (c.in-Some.ensures.first set at are) in
    (overload_text h tasks b, reason, told-text g.S.Sink.seen c.args.out.now c.write_overload.new.out (overload_text h tasks b) c.write_overload.result (load-tells h tasks b) c.write_overload.ensures)

pub returns-in_default : goal.returns-in_default
returns-in_default g c = λ set fault at are is.
    let calm = no-reason set c.args.hyper c.args.params.now fault is (λ over. let some = c.in_default.ensures.refused.1 over in absurd cc) in
    ([], calm, told-nothing g.S.Sink.seen c.args.out.now c.requires)
