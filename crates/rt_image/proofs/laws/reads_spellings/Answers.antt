use Rattle.rt_image.proofs.Objects.{image_takes, image_again}
use Rattle.rt_image.proofs.Fields.{IsBytes-all}
use Rattle.rt_image.proofs.laws.reads_spellings.Goals as goal

pub returns-clause-read : goal.returns-clause-read
returns-clause-read c = λ file o fits e. image_takes file o (IsBytes-all file fits) e

pub returns-clause-spelled : goal.returns-clause-spelled
returns-clause-spelled c = image_again
