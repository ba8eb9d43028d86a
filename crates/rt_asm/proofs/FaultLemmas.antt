-- The lines that are left of a source that is laid out.
use Rattle.rt_asm.proofs.Common.{◌≡◌, ℕ, ◌+◌, List, drop, Ok, Label, SourceLine, Layout, layout_from}

-- so many lines end at place, and those that are left are laid out behind them
pub record LaidFrom (lines : List SourceLine) (plan : Layout) (index place : ℕ) : Type 0 where
  pub sofar : List Label
  pub left : layout_from (index + 1) (record { place = place; labels = sofar }) (drop index lines) ≡ Ok plan
