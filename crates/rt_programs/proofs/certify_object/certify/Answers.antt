use Rattle.rt_programs.proofs.Common.{Ok, refl, subst, ◌∙◌, object_value, Spells, ends-written}
use Rattle.rt_programs.specs.Certify.{CertifyMeans, placed_text}
use Rattle.rt_programs.specs.Working.LoneCertified.{Certifies}
use Rattle.rt_programs.proofs.certify_object.certify.Goals as goal

pub returns-in-Ok-clause-ends : goal.returns-in-Ok-clause-ends
returns-in-Ok-clause-ends g c =
    let o = object_value c.in_ok-object.object in
    let q = c.args.question.now in
    let placed = c.in-Ok.placed in
    let spells : Spells c.args.bytes.now o = record { valid = c.in_ok-object.ensures.found.0; bytes = c.in_ok-object.ensures.found.1 } in
    let is : Certifies o q (Ok (Ok placed)) =
    subst (λ r. Certifies o q (Ok r)) c.in-Ok.is c.in_ok-placed.ensures.certifies in
    ends-written g.S.Sink.seen (CertifyMeans c.args.bytes.now q) c.args.out.now c.write.new.out (placed_text q placed) c.write.result c.answer.result c.answer.ensures
    (o, spells, is.0, (placed, is.1, refl)) c.write.ensures

pub returns-in-Ok-clause-calm : goal.returns-in-Ok-clause-calm
returns-in-Ok-clause-calm g c = λ calm.
    let o = object_value c.in_ok-object.object in
    let q = c.args.question.now in
    let placed = c.in-Ok.placed in
    let spells : Spells c.args.bytes.now o = record { valid = c.in_ok-object.ensures.found.0; bytes = c.in_ok-object.ensures.found.1 } in
    let is : Certifies o q (Ok (Ok placed)) =
    subst (λ r. Certifies o q (Ok r)) c.in-Ok.is c.in_ok-placed.ensures.certifies in
    c.note_overlong.ensures (calm o spells placed.certificate is.1.0) ∙ c.in_ok-placed.ensures.calm
