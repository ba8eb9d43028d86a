use Rattle.std.proofs.Common.{◌≡◌, ℕ, ◌<◌, ◌++◌, length}
use Rattle.std.specs.List.Sorted.{IsNonDecreasingBy}
use Rattle.rt_image.specs.ObjectFile.{labels}
use Rattle.rt_image.specs.declared.object.Symbol.{Symbol}
use Rattle.rt_show.specs.listing.Listing.{names_at}
use Rattle.rt_show.proofs.listing.names.push_names.Given as goal

abbrev pub invariant-loop-symbol : goal.invariant-loop-symbol
invariant-loop-symbol l = record {
  listed : l.out.items ++ names_at l.address (labels l.rest) ≡ l.fn.out.items ++ names_at l.address (labels l.symbols);
  above : (a : ℕ) → l.address < a → names_at a (labels l.rest) ≡ names_at a (labels l.symbols);
  sorted : IsNonDecreasingBy (λ (s : Symbol). s.address) l.rest;
}

abbrev pub decreases-loop-symbol : goal.decreases-loop-symbol
decreases-loop-symbol l = length l.rest
