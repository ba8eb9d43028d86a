-- The symbol that names a part, one symbol more.
use Rattle.rt_names.proofs.Common.{◌≡◌, ℕ, ◌+◌, ◌<◌, Bool, true, false, List, [], ◌∷◌, ◌++◌, length, take, get_or, Some, refl, sym, ap, ◌∙◌, filter, reduce, Symbol, Label, label, labels, nearer}
use Rattle.std.proofs.lemmas.List.{take_more, map-append, append-nil}
use Rattle.std.proofs.lemmas.List.Elements.{filter-append}
use Rattle.std.proofs.lemmas.List.Sums.{fold-append}
use Rattle.rt_names.specs.Working.Nearest.{nearest}

pub labels-more : (n : ℕ) (ss : List Symbol) (s : Symbol) → n < length ss → s ≡ get_or ss n s → labels (take (n + 1) ss) ≡ labels (take n ss) ++ label s ∷ []
labels-more n ss s below here =
    ap labels (take_more ss n s below) ∙ map-append label (take n ss) (get_or ss n s ∷ [])
    ∙ ap (λ (x : Symbol). labels (take n ss) ++ label x ∷ []) (sym here)

pub reduce-push : (ls : List Label) (l : Label) → reduce nearer (ls ++ l ∷ []) ≡ Some (nearest (reduce nearer ls) l)
reduce-push [] l = refl
reduce-push (m ∷ ls) l = ap Some (fold-append nearer m ls (l ∷ []))

-- one symbol more, that passes a test, or fails it
module _ (p : Label → Bool) (n : ℕ) (ss : List Symbol) (s : Symbol) (below : n < length ss) (here : s ≡ get_or ss n s) where
  pub passing-more : p (label s) ≡ true → reduce nearer (filter p (labels (take (n + 1) ss))) ≡ Some (nearest (reduce nearer (filter p (labels (take n ss)))) (label s))
  passing-more is =
      let ls = labels (take n ss) in
      let one : filter p (label s ∷ []) ≡ label s ∷ [] = rw is refl in
      ap (λ (xs : List Label). reduce nearer (filter p xs)) (labels-more n ss s below here)
      ∙ ap (reduce nearer) (filter-append p ls (label s ∷ []) ∙ ap (λ (xs : List Label). filter p ls ++ xs) one)
      ∙ reduce-push (filter p ls) (label s)

  pub failing-more : p (label s) ≡ false → reduce nearer (filter p (labels (take (n + 1) ss))) ≡ reduce nearer (filter p (labels (take n ss)))
  failing-more is =
      let ls = labels (take n ss) in
      let none : filter p (label s ∷ []) ≡ [] = rw is refl in
      ap (λ (xs : List Label). reduce nearer (filter p xs)) (labels-more n ss s below here)
      ∙ ap (reduce nearer) (filter-append p ls (label s ∷ []) ∙ ap (λ (xs : List Label). filter p ls ++ xs) none ∙ append-nil (filter p ls))
