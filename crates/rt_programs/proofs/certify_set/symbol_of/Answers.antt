use Rattle.rt_programs.proofs.Common.{sym, object_value}
use Rattle.rt_image.specs.ObjectFile.{label}
use Rattle.rt_programs.proofs.NameLemmas.{name-is-text}
use Rattle.rt_programs.proofs.certify_set.symbol_of.Goals as goal

pub unreachable-requires : goal.unreachable-requires
unreachable-requires c =
    absurd (c.in-Err.ensures.cases.0 (name-is-text (object_value c.args.object.now) (label c.in_ok-symbol.symbol) c.requires (sym c.in_ok-symbol.ensures.namer)))
