use Rattle.std.proofs.Common.{◌≡◌, ℕ, ◌+◌, ◌≤◌, ◌++◌, length}
use Rattle.std.specs.List.Sorted.{IsNonDecreasingBy}
use Rattle.rt_image.specs.ObjectFile.{labels}
use Rattle.rt_image.specs.declared.object.Symbol.{Symbol}
use Rattle.rt_show.specs.listing.Listing.{names_at, lines_from}
use Rattle.rt_show.proofs.listing.lines.lines.Given as goal

-- what is listed stands before the lines of what is left; the symbols below were left behind
abbrev pub invariant-loop-rest : goal.invariant-loop-rest
invariant-loop-rest l = record {
  listed : l.out.items ++ lines_from (labels l.symbols) l.address l.rest ≡ lines_from (labels l.symbols) 0x80000000 l.bytes;
  same : (a : ℕ) → l.address ≤ a → names_at a (labels l.above) ≡ names_at a (labels l.symbols);
  sorted : IsNonDecreasingBy (λ (s : Symbol). s.address) l.above;
  places : l.address + length l.rest ≡ 0x80000000 + length l.bytes;
}

abbrev pub decreases-loop-rest : goal.decreases-loop-rest
decreases-loop-rest l = length l.rest
