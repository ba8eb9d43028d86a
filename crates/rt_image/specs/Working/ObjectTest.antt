-- Whether the parts of an object have a spelling, as a test that computes.
use Rattle.std.specs.Prelude.{ℕ, List, [], length, Bool, nat_le, ◌&&◌}
use Rattle.rt_words.specs.Limits.{image_limit, symbol_limit}
use Rattle.rt_image.specs.ObjectFile.{Label, are_labels}

-- n bytes and the symbols, of an object whose entry is below 2^32
abbrev pub are_parts : ℕ → List Label → Bool
are_parts n ls = nat_le n image_limit && nat_le (length ls) symbol_limit && are_labels n [] ls
