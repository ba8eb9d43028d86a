-- What is said of a faulty object or system file.
use Rattle.std.specs.Prelude.{ℕ, List, codes}
use Rattle.rt_image.specs.declared.fault.ImageFault.{ImageFault}
use Rattle.rt_image.specs.declared.fault.ImageFault.TheVariants.{BadMagic, Truncated, Trailing, BadField, NotCanonical}

abbrev pub image_text : ImageFault → List ℕ
image_text BadMagic = codes "image: BadMagic"
image_text Truncated = codes "image: Truncated"
image_text Trailing = codes "image: Trailing"
image_text BadField = codes "image: BadField"
image_text NotCanonical = codes "image: NotCanonical"
