-- Texts that are built up piece by piece.
use Rattle.rt_packet.proofs.Common.{◌≡◌, ℕ, ◌+◌, ◌<◌, List, [], ◌∷◌, ◌++◌, length, take, get_or, sym, ap, ◌∙◌, flat_map}
use Rattle.std.proofs.lemmas.List.{take_more, append-nil}
use Rattle.std.proofs.lemmas.List.Concat.{flat_map-append, flat_map-cons}

flat_map-one : {X : Type 0} (f : X → List ℕ) (x : X) → flat_map f (x ∷ []) ≡ f x
flat_map-one f x = flat_map-cons f x [] ∙ append-nil (f x)

-- the text of the next element of a list
pub flat_map_take_more : {X : Type 0} (f : X → List ℕ) (n : ℕ) (xs : List X) (x : X) → n < length xs → x ≡ get_or xs n x
    → flat_map f (take (n + 1) xs) ≡ flat_map f (take n xs) ++ f x
flat_map_take_more f n xs x below here =
    ap (flat_map f) (take_more xs n x below ∙ ap (λ y. take n xs ++ y ∷ []) (sym here))
    ∙ flat_map-append f (take n xs) (x ∷ []) ∙ ap (λ (text : List ℕ). flat_map f (take n xs) ++ text) (flat_map-one f x)
