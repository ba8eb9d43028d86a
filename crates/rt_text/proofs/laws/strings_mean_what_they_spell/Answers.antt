use Rattle.rt_text.proofs.StringLemmas.{string_spells, spelled_string}
use Rattle.rt_text.proofs.laws.strings_mean_what_they_spell.Goals as goal

pub returns : goal.returns
returns c = λ text bytes. (string_spells text bytes, spelled_string text bytes)
