use Rattle.rt_perform.proofs.Common.{◌≡◌, ℕ, List, Bool, true, Err, inl, inr, refl, sym, ap, subst, ◌∙◌, Vec}
use Rattle.std.proofs.Common.{◌||◌}
use Rattle.rt_perform.specs.Given.{is_placed, is_linked, Becomes, IsGiven}
use Rattle.rt_perform.proofs.SaidLemmas.{keeps_same}
use Rattle.rt_perform.proofs.GivenLemmas.{as_read, as_made, done}
use Rattle.rt_perform.proofs.performing.perform.Goals as goal

pub returns-in-Err : goal.returns-in-Err
returns-in-Err g c =
    let fault = c.in-Err.fault in
    let kept = keeps_same (g.D.Desk.files c.args.desk.now) (g.D.Desk.files c.report_fault.new.desk) c.report_fault.ensures.stays in (
      Err fault,
      c.report_fault.ensures.status,
      inl (record { fault = fault; is = refl; nothing = inl c.in-Err.ensures.read; kept = kept; silent = refl }, λ heard. c.report_fault.ensures.said heard),
    )

pub returns-in-Ok-None : goal.returns-in-Ok-None
returns-in-Ok-None g c =
    let inputs = c.in-Ok.read in
    let read = inputs.first.items in
    let names = inputs.names.items in
    let other = c.in-Ok-None.ensures.other c.in-Ok-None.field-0-is in
    let given = as_read (g.D.Desk.files c.args.desk.now) c.args.request read names inputs.left_out c.in-Ok.ensures.read c.in-Ok.ensures.whole other.0 other.1 in
    done g.D.Desk.files g.D.Desk.said g.D.Desk.is_deaf g.S.Sink.seen c.args.request read names inputs.left_out (g.I.Read.remaining c.args.input.now) c.args.desk.now c.args.out.now c.perform_given.result
    c.perform_given.new.desk c.perform_given.new.out read names c.in-Ok.ensures.read given c.perform_given.ensures

pub returns-in-Ok-Some : goal.returns-in-Ok-Some
returns-in-Ok-Some g c =
    let read = c.in-Ok.read.first.items in
    let names = c.in-Ok.read.names.items in
    let made = c.in-Ok-Some.made in
    let request = c.args.request in
    let files = g.D.Desk.files c.args.desk.now in
    let inputs = c.of-inputs.result in
    let becomes = rw c.in-Ok-Some.field-0-is at c.in-Ok-Some.ensures.becomes in
    let taken = rw c.in-Ok-Some.field-0-is at c.in-Ok-Some.ensures.whole in
    let now : Becomes (is_placed request read) files request read inputs.first.items inputs.left_out =
    subst (λ (v : Vec ℕ). Becomes (is_placed request read) files request read v.items inputs.left_out) (sym c.of-inputs.ensures.first)
    (subst (λ (n : ℕ). Becomes (is_placed request read) files request read made.bytes.items n) (sym c.of-inputs.ensures.left_out) becomes)
    in
    let given =
    subst (λ (none : List ℕ). IsGiven files request inputs.first.items none inputs.left_out) (sym c.of-inputs.ensures.names)
    (as_made files request read names inputs.first.items inputs.left_out c.in-Ok.ensures.read taken now)
    in
    done g.D.Desk.files g.D.Desk.said g.D.Desk.is_deaf g.S.Sink.seen request inputs.first.items inputs.names.items inputs.left_out (g.I.Read.remaining c.args.input.now) c.args.desk.now c.args.out.now
    c.perform_given-in-Ok-Some.result c.perform_given-in-Ok-Some.new.desk c.perform_given-in-Ok-Some.new.out read names c.in-Ok.ensures.read given c.perform_given-in-Ok-Some.ensures

pub returns : goal.returns
returns g c =
    let fault = c.in-Err-made_of.fault in
    let new = c.report_fault-in-Err-made_of.new.desk in
    let kept = keeps_same (g.D.Desk.files c.args.desk.now) (g.D.Desk.files new) c.report_fault-in-Err-made_of.ensures.stays in (
      Err fault,
      c.report_fault-in-Err-made_of.ensures.status,
      inl (
        record {
          fault = fault;
          is = refl;
          nothing = inr (c.in-Ok.read.first.items, c.in-Ok.read.names.items, c.in-Ok.ensures.read, c.in-Err-made_of.ensures.refused);
          kept = kept;
          silent = refl;
        },
        λ heard. c.report_fault-in-Err-made_of.ensures.said heard,
      ),
    )
