use Rattle.rt_programs.proofs.Common.{refl, sym, subst, Spells, ends-written}
use Rattle.rt_show.specs.ObjectShown.{object_shown}
use Rattle.rt_programs.specs.Showing.{ObjectShows}
use Rattle.rt_programs.proofs.show_file.show_object.Goals as goal

pub returns : goal.returns
returns g c =
    let o = c.in_ok-shown.shown in
    let read = c.in_ok-object.ensures.found in
    let spells : Spells c.args.bytes.now o = subst (Spells c.args.bytes.now) (sym c.in_ok-shown.ensures) (record { valid = read.0; bytes = read.1 }) in
    let written = c.write_text.ensures in
    ends-written g.S.Sink.seen (ObjectShows c.args.bytes.now) c.args.out.now c.write_text.new.out (object_shown o written.order) c.write_text.result c.answer.result c.answer.ensures
    (o, spells, (written.order, written.ordered, refl)) written.counts
