-- The next line of an input.
use Rattle.std.specs.Prelude.{◌≡◌, ℕ, ◌<◌, ◌≤◌, nat_lt, Bool, List, length}
use Rattle.std.specs.Io.BufRead.{first_line}
use Rattle.rt_words.specs.Limits.{line_limit}

-- What is kept of the first line of these bytes, which ends by LF, CR and LF, or with them: all of it, or so much of one that is
-- too long as shows that it is. There is a line where there are bytes.
pub record IsNext (bytes line : List ℕ) (is_there : Bool) : Type 0 where
  pub there : is_there ≡ nat_lt 0 (length bytes)
  pub whole : length (first_line bytes) ≤ line_limit → line ≡ first_line bytes
  pub long : line_limit < length (first_line bytes) → line_limit < length line
