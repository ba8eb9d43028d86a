use Rattle.rt_elf.proofs.Common.{sym, ap, ◌∙◌, refl, length, is_misplaced, named}
use Rattle.rt_elf.specs.flat.FlatNames.{names_of}
use Rattle.rt_elf.specs.flat.FlatObject.{IsRead, Makes, text_of}
use Rattle.rt_elf.proofs.flat.making.flat_object.Goals as goal

pub returns-then-are_misplaced : goal.returns-then-are_misplaced
returns-then-are_misplaced c =
    let n = length c.args.image.now in
    let read : IsRead c.args.image.now (text_of c.args.names) (named c.in_ok-names.names) = record {
      flat = sym c.is_elf.ensures ∙ c.if-is_elf.false;
      size = search;
      said = ap (names_of n) (sym c.text_of-text.ensures) ∙ c.in_ok-names.ensures.read;
    } in
    (named c.in_ok-names.names, read, ap (is_misplaced n) (sym c.text_of-text.ensures) ∙ sym c.are_misplaced.ensures ∙ c.if-are_misplaced.true)

pub returns-in_default : goal.returns-in_default
returns-in_default c =
    let n = length c.args.image.now in
    let read : IsRead c.args.image.now (text_of c.args.names) (named c.in_ok-names.names) = record {
      flat = sym c.is_elf.ensures ∙ c.if-is_elf.false;
      size = search;
      said = ap (names_of n) (sym c.text_of-text.ensures) ∙ c.in_ok-names.ensures.read;
    } in (
      named c.in_ok-names.names,
      read,
      ap (is_misplaced n) (sym c.text_of-text.ensures) ∙ sym c.are_misplaced.ensures ∙ c.if-are_misplaced.false,
      sym c.entry_in.ensures ∙ c.in_default.is,
    )

pub returns : goal.returns
returns c =
    let n = length c.args.image.now in
    let read : IsRead c.args.image.now (text_of c.args.names) (named c.in_ok-names.names) = record {
      flat = sym c.is_elf.ensures ∙ c.if-is_elf.false;
      size = search;
      said = ap (names_of n) (sym c.text_of-text.ensures) ∙ c.in_ok-names.ensures.read;
    } in
    let spells = c.in_ok-spelled.ensures in
    let made : Makes c.args.image.now c.args.entry (text_of c.args.names) (named c.in_ok-names.names) c.in-Some.entry = record {
      read = read;
      own = ap (is_misplaced n) (sym c.text_of-text.ensures) ∙ sym c.are_misplaced.ensures ∙ c.if-are_misplaced.false;
      begins = sym c.entry_in.ensures ∙ c.in-Some.is;
      valid = spells.valid;
    } in
    (named c.in_ok-names.names, c.in-Some.entry, made, spells.spelled, refl)
