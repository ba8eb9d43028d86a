use Rattle.rt_text.proofs.Common.{◌≡◌, ◌+◌, drop, false}
use Rattle.rt_text.specs.NoToken.{string_piece}
use Rattle.rt_text.proofs.refused_words.string_piece.Given as goal

abbrev pub invariant-loop-byte : goal.invariant-loop-byte
invariant-loop-byte l = record {
  places : l.place ≡ l.quote + 1 + l.byte-index;
  same : string_piece l.quote l.is_escaped l.place (drop l.byte-index l.behind) ≡ string_piece l.quote false (l.quote + 1) l.behind;
}
