use Rattle.rt_names.proofs.Common.{◌≡◌, ℕ, ◌+◌, ◌<◌, ◌≤◌, length, take, get_or, Some, IfSome, reduce, option_map, Symbol, label, labels, nearer}
use Rattle.rt_names.proofs.places.namers_of.Given as goal

abbrev pub invariant-loop-symbol : goal.invariant-loop-symbol
invariant-loop-symbol l = record {
  count : length l.namers.items ≡ l.symbol-index;
  so_far : option_map label l.nearest ≡ reduce nearer (labels (take l.symbol-index l.rising));
  last : (k : ℕ) (d : Symbol) → l.symbol-index ≤ k → k < length l.rising → IfSome l.nearest (λ m. m.address ≤ (get_or l.rising k d).address);
  same : (k : ℕ) (d : Symbol) → k < l.symbol-index → (get_or l.namers.items k d).address ≡ (get_or l.rising k d).address;
  nearest : (k : ℕ) (d : Symbol) → k < l.symbol-index → reduce nearer (labels (take (k + 1) l.rising)) ≡ Some (label (get_or l.namers.items k d));
}
