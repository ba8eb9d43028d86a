use Rattle.rt_elf.proofs.Common.{sym, ◌∙◌, ap, Some, is_misplaced}
use Rattle.rt_elf.proofs.flat.LineLemmas.{first_line}
use Rattle.rt_elf.proofs.flat.PlaceLemmas.{outside_line, silent_line}
use Rattle.rt_elf.proofs.flat.places.is_misplaced.Goals as goal

pub loop-rest-preserved-in-Some-false : goal.loop-rest-preserved-in-Some-false
loop-rest-preserved-in-Some-false c =
    outside_line (is_misplaced c.args.size c.args.text.now) c.args.size c.loop-rest.is_outside c.loop-rest.rest.now c.cut_line.result.0.now c.cut_line.result.1.now
    (first_line c.loop-rest.rest.now c.cut_line.result.0.now c.cut_line.result.1.now c.cut_line.ensures.first)
    (sym c.is_inside.ensures ∙ c.in-Some-false.is ∙ ap Some c.in-Some-false.field-0-test) c.loop-rest.invariant

pub loop-rest-preserved : goal.loop-rest-preserved
loop-rest-preserved c =
    silent_line (is_misplaced c.args.size c.args.text.now) c.args.size c.loop-rest.is_outside c.loop-rest.rest.now c.cut_line.result.0.now c.cut_line.result.1.now
    (first_line c.loop-rest.rest.now c.cut_line.result.0.now c.cut_line.result.1.now c.cut_line.ensures.first)
    (sym c.is_inside.ensures ∙ c.in-None.is) c.loop-rest.invariant
