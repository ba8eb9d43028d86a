use Rattle.rt_image.proofs.Common.{ap, subst, ◌∙◌, arith, Gives, spelled_object}
use Rattle.rt_image.specs.ObjectFile.{object_value}
use Rattle.rt_image.proofs.Objects.{is_found, image_again}
use Rattle.rt_image.proofs.reading.read_object.Goals as goal

pub returns-clause-found : goal.returns-clause-found
returns-clause-found c = is_found c.args.file.now c.whole_file.result (λ i. omega (arith, c.type_inv.file i)) c.whole_file.ensures

pub returns-clause-only : goal.returns-clause-only
returns-clause-only c = λ o fits e. subst (λ f. Gives object_value c.whole_file.result f) (ap spelled_object e ∙ image_again o fits) c.whole_file.ensures
