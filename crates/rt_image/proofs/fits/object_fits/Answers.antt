use Rattle.rt_image.proofs.Common.{◌<◌, sym, ◌∙◌, arith, labels}
use Rattle.std.proofs.lemmas.List.Elements.{All-from_get_or}
use Rattle.rt_image.proofs.LabelTests.{image_is, image_is_not_refused}
use Rattle.rt_image.proofs.fits.object_fits.Goals as goal

pub returns-clause-fits : goal.returns-clause-fits
returns-clause-fits c = λ e.
    image_is (record { entry = c.args.entry; bytes = c.args.bytes.now; labels = labels c.args.symbols.now }) (omega (arith, c.ranges.entry))
    (All-from_get_or (λ b. b < 256) c.args.bytes.now 0 (λ i _. omega (arith, c.type_inv.bytes i)))
    (sym c.parts_fit.ensures ∙ e)

pub returns-clause-all : goal.returns-clause-all
returns-clause-all c = λ h. c.parts_fit.ensures ∙ image_is_not_refused (record { entry = c.args.entry; bytes = c.args.bytes.now; labels = labels c.args.symbols.now }) h
