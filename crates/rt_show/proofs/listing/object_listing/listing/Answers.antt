use Rattle.std.proofs.Common.{◌∙◌}
use Rattle.rt_image.specs.ObjectFile.{object_value}
use Rattle.rt_show.proofs.listing.ItemLemmas.{same_lines}
use Rattle.rt_show.proofs.listing.object_listing.listing.Goals as goal

pub returns : goal.returns
returns c =
    let found = c.in_ok-object.ensures.found in
    let text = rw c.deref-2.ensures.value at c.in_ok-text.ensures in
    let same = rw c.deref.ensures.value at c.in_ok-symbols.ensures.same in
    (object_value c.in_ok-object.object, found.0, found.1, text ∙ same_lines _ _ same 0x80000000 c.in_ok-object.object.bytes.now)
