use Rattle.std.proofs.Common.{refl}
use Rattle.rt_text_rows.proofs.Scales.{width_is}
use Rattle.rt_text_rows.proofs.rulers.widths_of_pictures.Goals as goal

pub returns : goal.returns
returns c = (width_is 1 800 refl, (width_is 80 800 refl, (width_is 81 810 refl, (width_is 160 1600 refl, (width_is 161 1600 refl, (width_is 100000 1600 refl, tt))))))
