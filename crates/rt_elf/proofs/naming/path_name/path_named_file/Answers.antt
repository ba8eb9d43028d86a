use Rattle.rt_elf.proofs.Common.{ap, ◌∙◌, refl}
use Rattle.std.specs.Option.{option_map}
use Rattle.rt_elf.specs.declared.naming.entry_name.EntryName.{EntryName}
use Rattle.rt_elf.proofs.naming.PathLemmas.{nameless, read_again}
use Rattle.rt_elf.proofs.naming.path_name.path_named_file.Goals as goal

pub returns-in_default : goal.returns-in_default
returns-in_default c =
    let again = read_again c.args.file.items c.requires in
    nameless c.args.path.now c.args.file.items c.args.file again.0 again.1 (c.stem_name.ensures ∙ ap (option_map (λ (name : EntryName). name.word.now)) c.in_default.is) refl
