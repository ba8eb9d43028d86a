use Rattle.rt_packet.proofs.Common.{◌≡◌, ◌+◌, ◌*◌, ◌++◌, take, flat_map, array_vec_len}
use Rattle.rt_packet.specs.answer.Registers.{word_text}
use Rattle.rt_packet.proofs.answer.registers.push_words.Given as goal

abbrev pub invariant-loop-word : goal.invariant-loop-word
invariant-loop-word l = record {
  text : l.out.items ≡ l.initial.out.items ++ flat_map (word_text) (take l.word-index l.words);
  room : array_vec_len l.out ≡ array_vec_len l.initial.out + 8 * l.word-index;
}
