-- The names of labels.
use Rattle.std.specs.Prelude.{◌≡◌, ◌≤◌, true, List, [], ◌∷◌, length}
use Rattle.rt_words.specs.Limits.{line_limit}
use Rattle.rt_token.specs.Slice.{Slice}
use Rattle.rt_token.specs.Word.{is_word}

-- a label is a word, and no longer than its line
pub record IsLabelName (name : Slice) : Type 0 where
  pub word : is_word name.text ≡ true
  pub short : length name.text ≤ line_limit

-- each of them is such a name
abbrev pub AreLabelNames : List Slice → Type 0
AreLabelNames [] = Unit {0}
AreLabelNames (s ∷ ss) = IsLabelName s × AreLabelNames ss
