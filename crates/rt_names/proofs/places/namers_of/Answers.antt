use Rattle.rt_names.proofs.Common.{◌≡◌, ◌+◌, ◌<◌, ◌∷◌, ◌++◌, [], ℕ, List, length, get_or, take, Some, sym, ap, subst, ◌∙◌, arith, reduce, Symbol, label, labels, nearer}
use Rattle.std.proofs.Common.{inl, inr}
use Rattle.std.proofs.lemmas.Bool.{cases_lt}
use Rattle.std.proofs.lemmas.List.{get_or_default, get_or_append_left, get_or_push, length_push}
use Rattle.rt_names.proofs.PlaceLemmas.{next_address, next_nearest}
use Rattle.rt_names.proofs.places.namers_of.Goals as goal

-- what holds of each element, and of one more behind them
behind : (P : ℕ → Symbol → Type 0) (ns : List Symbol) (n : Symbol) (i : ℕ) → length ns ≡ i
    → ((k : ℕ) (d : Symbol) → k < i → P k (get_or ns k d)) → P i n
    → (k : ℕ) (d : Symbol) → k < i + 1 → P k (get_or (ns ++ n ∷ []) k d)
behind P ns n i is each here k d less = elim (cases_lt k i) [
  | inl before ↦ subst (P k) (sym (get_or_append_left ns (n ∷ []) d k (omega (arith, before, is)))) (each k d before)
  | inr last ↦
      let same : i ≡ k = omega (arith, less, last) in
      subst (λ (j : ℕ). P j (get_or (ns ++ n ∷ []) j d)) same (subst (P i) (sym (get_or_push ns n d i is)) here)
]

pub loop-symbol-preserved : goal.loop-symbol-preserved
loop-symbol-preserved c =
    let before = c.loop-symbol.invariant in
    let ss = c.args.rising.now in
    let ns = c.loop-symbol.namers.items in
    let i = c.loop-symbol.symbol-index in
    let below : i < length ss = c.loop-symbol-test.true in
    let r = c.nearest_of-namer.result in
    let s = get_or ss i r in
    let here = rw (get_or_default ss i _ r below) at c.nearest_of-namer.ensures in
    let it_is : s ≡ get_or ss i s = get_or_default ss i r s below in
    let stands : r.address ≡ s.address = next_address c.loop-symbol.nearest s r (before.last i r (omega arith) below) here in
    let found : reduce nearer (labels (take (i + 1) ss)) ≡ Some (label r) = next_nearest i ss c.loop-symbol.nearest s r below it_is before.so_far here in
    let more : c.push.new.self.items ≡ ns ++ r ∷ [] = c.in_ok-push.ensures.items in
    record {
      count = ap (λ (xs : List Symbol). length xs) more ∙ length_push ns r ∙ ap (λ (n : ℕ). n + 1) before.count;
      so_far = sym found;
      last = λ k d le less.
          let rises = c.requires i k d (omega (arith, le)) less in
          let there = ap (λ (x : Symbol). x.address) (get_or_default ss i r d below) in
          omega (arith, stands, rises, there);
      same = rw more (λ k d less. behind (λ k x. (e : Symbol) → x.address ≡ (get_or ss k e).address) ns r i before.count
          (λ k d less e. before.same k d less ∙ ap (λ (x : Symbol). x.address) (get_or_default ss k d e (omega (arith, less, below))))
          (λ e. stands ∙ ap (λ (x : Symbol). x.address) (get_or_default ss i r e below)) k d less d);
      nearest = rw more (behind (λ k x. reduce nearer (labels (take (k + 1) ss)) ≡ Some (label x)) ns r i before.count before.nearest found);
    }
