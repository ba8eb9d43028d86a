-- Lines that are passed on the way to one.
use Rattle.rt_text.proofs.Common.{◌≡◌, ℕ, List, source_lines}
use Rattle.rt_text.specs.Numbered.{nth_line, numbered_line}

-- the line that is sought is one of those that are left
pub record Left (text : List ℕ) (number : ℕ) (rest : List ℕ) (left : ℕ) : Type 0 where
  pub place : ℕ
  pub same : numbered_line text number ≡ nth_line left (source_lines place rest)
