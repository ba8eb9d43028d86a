-- The files that words lay.
use Rattle.std.proofs.Common.{◌≡◌, ◌≢◌, ◌⊎◌, ◌<◌, ◌+◌, ◌&&◌, not, true, false, ℕ, List, [], ◌∷◌, ◌++◌, length, take, map, get_or, Bor, refl, sym, ap, subst, ◌∙◌, inl, inr, append-nil}
use Rattle.std.specs.List.{AllZip, filter}
use Rattle.std.proofs.lemmas.List.Elements.{filter-append}
use Rattle.rt_perform.specs.declared.request.LaidFile.{LaidFile}
use Rattle.rt_arguments.specs.Words.{Lays, data_symbol, data_path}
use Rattle.rt_arguments.specs.Options.{is_empty, lays_any}
use Rattle.rt_arguments.proofs.FailingLemmas.{words-more}

-- these files, by the first words
abbrev pub AreLaid : List (Bor (List ℕ)) → ℕ → List LaidFile → Type 0
AreLaid xs i fs = AllZip Lays (filter lays_any (map (λ w. w.now) (take i xs))) fs

zip-push : {A B : Type 0} (R : A → B → Type 0) (xs : List A) (ys : List B) (x : A) (y : B) → AllZip R xs ys → R x y → AllZip R (xs ++ x ∷ []) (ys ++ y ∷ [])
zip-push R [] [] x y h r = (r, tt)
zip-push R [] (b ∷ ys) x y h r = absurd h
zip-push R (a ∷ xs) [] x y h r = absurd h
zip-push R (a ∷ xs) (b ∷ ys) x y h r = (h.0, zip-push R xs ys x y h.1 r)

both : (xs ys : List ℕ) → xs ≢ [] → ys ≢ [] → (not (is_empty xs) && not (is_empty ys)) ≡ true
both [] ys some other = absurd (some refl)
both (x ∷ xs) [] some other = absurd (other refl)
both (x ∷ xs) (y ∷ ys) some other = refl

not-both : (xs ys : List ℕ) → (xs ≡ []) ⊎ (ys ≡ []) → (not (is_empty xs) && not (is_empty ys)) ≡ false
not-both xs ys (inl none) = rw none refl
not-both [] ys (inr none) = refl
not-both (x ∷ xs) ys (inr none) = rw none refl

-- the words that lay a file, up to the next one
laying-more : (xs : List (Bor (List ℕ))) (i : ℕ) (d : Bor (List ℕ)) → i < length xs
    → filter lays_any (map (λ w. w.now) (take (i + 1) xs)) ≡ filter lays_any (map (λ w. w.now) (take i xs)) ++ filter lays_any ((get_or xs i d).now ∷ [])
laying-more xs i d lt = ap (filter lays_any) (words-more xs i d lt) ∙ filter-append lays_any (map (λ w. w.now) (take i xs)) ((get_or xs i d).now ∷ [])

one : (word : List ℕ) → lays_any word ≡ true → filter lays_any (word ∷ []) ≡ word ∷ []
one word lays = rw lays refl

none : (word : List ℕ) → lays_any word ≡ false → filter lays_any (word ∷ []) ≡ []
none word idle = rw idle refl

pub laid-more : (xs : List (Bor (List ℕ))) (i : ℕ) (d : Bor (List ℕ)) (fs : List LaidFile) (f : LaidFile) → i < length xs
    → AllZip Lays (filter lays_any (map (λ w. w.now) (take i xs))) fs → Lays (get_or xs i d).now f
    → AllZip Lays (filter lays_any (map (λ w. w.now) (take (i + 1) xs))) (fs ++ f ∷ [])
laid-more xs i d fs f lt before lays =
    let word = (get_or xs i d).now in
    let is = laying-more xs i d lt ∙ ap (λ (ws : List (List ℕ)). filter lays_any (map (λ w. w.now) (take i xs)) ++ ws) (one word (both (data_symbol word) (data_path word) lays.1 lays.2)) in
    subst (λ (ws : List (List ℕ)). AllZip Lays ws (fs ++ f ∷ [])) (sym is) (zip-push Lays (filter lays_any (map (λ w. w.now) (take i xs))) fs word f before lays)

pub laid-same : (xs : List (Bor (List ℕ))) (i : ℕ) (d : Bor (List ℕ)) (fs : List LaidFile) → i < length xs
    → AllZip Lays (filter lays_any (map (λ w. w.now) (take i xs))) fs → (data_symbol (get_or xs i d).now ≡ []) ⊎ (data_path (get_or xs i d).now ≡ [])
    → AllZip Lays (filter lays_any (map (λ w. w.now) (take (i + 1) xs))) fs
laid-same xs i d fs lt before lacks =
    let word = (get_or xs i d).now in
    let is = laying-more xs i d lt ∙ ap (λ (ws : List (List ℕ)). filter lays_any (map (λ w. w.now) (take i xs)) ++ ws) (none word (not-both (data_symbol word) (data_path word) lacks))
    ∙ append-nil (filter lays_any (map (λ w. w.now) (take i xs))) in
    subst (λ (ws : List (List ℕ)). AllZip Lays ws fs) (sym is) before
