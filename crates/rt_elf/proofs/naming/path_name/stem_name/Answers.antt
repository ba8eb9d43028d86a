use Rattle.rt_elf.proofs.Common.{sym, ap, ◌∙◌}
use Rattle.rt_elf.specs.naming.PathName.{is_device, begins_with_letter}
use Rattle.rt_elf.proofs.naming.PathLemmas.{word_of, none_of_device, none_of_other}
use Rattle.rt_elf.proofs.naming.path_name.stem_name.Goals as goal

pub returns-then-starts_with : goal.returns-then-starts_with
returns-then-starts_with c = none_of_device c.args.path.now (ap is_device (sym c.as_bytes.ensures.value) ∙ sym c.starts_with.ensures.value ∙ c.if-starts_with.true)

pub returns-then-not-begins_with_letter : goal.returns-then-not-begins_with_letter
returns-then-not-begins_with_letter c =
    none_of_other c.args.path.now (ap begins_with_letter (sym c.stem-stem.ensures) ∙ sym c.begins_with_letter.ensures ∙ c.if-not-begins_with_letter.true)

pub returns : goal.returns
returns c =
    let file = ap is_device (sym c.as_bytes.ensures.value) ∙ sym c.starts_with.ensures.value ∙ c.if-starts_with.false in
    let letter = ap begins_with_letter (sym c.stem-stem.ensures) ∙ sym c.begins_with_letter.ensures ∙ c.if-not-begins_with_letter.false in
    let same = c.stem-stem.ensures in
    word_of c.new.result c.args.path.now file letter (rw same at c.new.ensures.fits) (rw same at c.new.ensures.value)
