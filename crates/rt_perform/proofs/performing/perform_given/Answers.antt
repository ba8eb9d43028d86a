use Rattle.rt_perform.proofs.Common.{ℕ, List, Option, Ok, Err, inl, inr, refl, sym, ap, subst, ◌∙◌, Files, Works}
use Rattle.rt_perform.specs.FirstLine.{fault_text, Begins}
use Rattle.rt_perform.specs.Performs.{Reports}
use Rattle.rt_perform.proofs.SaidLemmas.{keeps_same, was_heard}
use Rattle.rt_perform.proofs.performing.perform_given.Goals as goal

-- there is no memory to find out whether the set is overloaded
pub returns-in-Err : goal.returns-in-Err
returns-in-Err g c =
    let fault = c.in-Err.fault in
    let new = c.report_fault.new.desk in
    let kept = keeps_same (g.D.Desk.files c.args.desk.now) (g.D.Desk.files new) (c.report_fault.ensures.stays ∙ c.note_overload.ensures.stays) in (
      Err fault,
      c.report_fault.ensures.status,
      inl (
        ap Err c.in-Err.ensures.memory,
        kept,
        refl,
        λ heard. subst (λ (o : Option (List ℕ)). Begins o (fault_text fault) (g.D.Desk.said new)) c.in-Err.ensures.unsaid (c.report_fault.ensures.said heard),
      ),
    )

pub returns-in-Ok-work : goal.returns-in-Ok-work
returns-in-Ok-work g c =
    let files = g.D.Desk.files in
    let said = g.D.Desk.said in
    let left_out = c.in-Ok-work.left_out in
    let first = c.args.inputs.now.first.items in
    let names = c.args.inputs.now.names.items in
    let less = c.args.inputs.now.left_out in
    let input = g.I.Read.remaining c.args.input.now in
    let mid = c.note_overload.new.desk in
    let new = c.report_done.new.desk in
    let from =
    subst (λ (f : Option Files). Works g.S.Sink.seen c.args.request first names less input f c.args.out.now (Ok left_out) (files c.work.new.desk) c.work.new.out)
    c.note_overload.ensures.stays c.in-Ok-work.ensures.works
    in
    let works =
    subst (λ (f : Option Files). Works g.S.Sink.seen c.args.request first names less input (files c.args.desk.now) c.args.out.now (Ok left_out) f c.work.new.out)
    (sym c.report_done.ensures.stays) from
    in (
      Ok left_out,
      refl,
      inr (
        works,
        λ heard.
            let before = was_heard (g.D.Desk.is_deaf mid) (g.D.Desk.is_deaf new) (λ deaf. c.report_done.ensures.deaf (c.work.ensures.hears ∙ deaf)) heard in (
              said mid,
              c.in-Ok.ensures.noted before,
              subst (λ (o : Option (List ℕ)). Reports c.args.request first o (Ok left_out) (said new)) c.work.ensures.silent (c.report_done.ensures.said heard),
            ),
      ),
    )

pub returns-in-Err-work : goal.returns-in-Err-work
returns-in-Err-work g c =
    let files = g.D.Desk.files in
    let said = g.D.Desk.said in
    let fault = c.in-Err-work.fault in
    let first = c.args.inputs.now.first.items in
    let names = c.args.inputs.now.names.items in
    let less = c.args.inputs.now.left_out in
    let input = g.I.Read.remaining c.args.input.now in
    let mid = c.note_overload.new.desk in
    let new = c.report_fault-in-Err-work.new.desk in
    let from =
    subst (λ (f : Option Files). Works g.S.Sink.seen c.args.request first names less input f c.args.out.now (Err fault) (files c.work.new.desk) c.work.new.out)
    c.note_overload.ensures.stays c.in-Err-work.ensures.works
    in
    let works =
    subst (λ (f : Option Files). Works g.S.Sink.seen c.args.request first names less input (files c.args.desk.now) c.args.out.now (Err fault) f c.work.new.out)
    (sym c.report_fault-in-Err-work.ensures.stays) from
    in (
      Err fault,
      c.report_fault-in-Err-work.ensures.status,
      inr (
        works,
        λ heard.
            let before = was_heard (g.D.Desk.is_deaf mid) (g.D.Desk.is_deaf new) (λ deaf. c.report_fault-in-Err-work.ensures.deaf (c.work.ensures.hears ∙ deaf)) heard in (
              said mid,
              c.in-Ok.ensures.noted before,
              subst (λ (o : Option (List ℕ)). Begins o (fault_text fault) (said new)) c.work.ensures.silent (c.report_fault-in-Err-work.ensures.said heard),
            ),
      ),
    )
