-- The text of a number of either size.
use Rattle.std.specs.Prelude.{ℕ, List}
use Rattle.rt_packet.specs.answer.Registers.{word_text, long_text}
use Rattle.rt_packet.specs.declared.answer.registers.Number.{Number}
use Rattle.rt_packet.specs.declared.answer.registers.Number.TheVariants.{Word, Long}

abbrev pub number_text : Number → List ℕ
number_text (Word word) = word_text word
number_text (Long number) = long_text number
