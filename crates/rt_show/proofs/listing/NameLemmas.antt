-- The symbols at an address, in a list that rises by addresses.
use Rattle.std.proofs.Common.{◌≡◌, ℕ, suc, Bool, true, false, cond, not, ◌&&◌, ◌<◌, List, [], ◌∷◌, ◌++◌, length, get_or, refl, ap, sym, ◌∙◌, arith, eqb, append_assoc, append-nil}
use Rattle.std.proofs.lemmas.List.Sorted.{IsNonDecreasingBy-drop}
use Rattle.std.proofs.lemmas.Bool.{ne_eqb}
use Rattle.std.proofs.lemmas.Bool.Decides.{nat_tests}
use Rattle.std.specs.List.{filter}
use Rattle.std.specs.List.Sorted.{IsNonDecreasingBy, IsStableByKey, ties}
use Rattle.std.specs.Ordering.{nat_cmp, is_lt}
use Rattle.rt_image.specs.ObjectFile.{label, labels}
use Rattle.rt_image.specs.declared.object.Symbol.{Symbol}
use Rattle.rt_show.specs.listing.Listing.{name_line, names_at}

-- a symbol elsewhere has no line there
pub elsewhere : (a : ℕ) (s : Symbol) → (s.address ≡ a → ⊥) → name_line a (label s) ≡ []
elsewhere a s apart = rw (ne_eqb s.address a apart) refl

-- so it may be left out
pub left_out : (a : ℕ) (s : Symbol) (ss rest : List Symbol) → rest ≡ s ∷ ss → s.address < a → names_at a (labels ss) ≡ names_at a (labels rest)
left_out a s ss rest is below = rw (is, elsewhere a s (λ e. omega arith)) refl

-- symbols above have no line
all_above : (a : ℕ) (ss : List Symbol) → ((i : ℕ) (d : Symbol) → i < length ss → a < (get_or ss i d).address) → names_at a (labels ss) ≡ []
all_above a [] above = refl
all_above a (s ∷ ss) above =
    rw (elsewhere a s (λ e. let first = above 0 s (omega arith) in omega arith)) (all_above a ss (λ i d low. above (suc i) d (omega arith)))

pub first_above : (a : ℕ) (s : Symbol) (ss rest : List Symbol) → rest ≡ s ∷ ss → a < s.address → IsNonDecreasingBy (λ (t : Symbol). t.address) rest → names_at a (labels rest) ≡ []
first_above a s ss rest is above sorted =
    rw is (all_above a (s ∷ ss) (λ i d low. let rises = (rw is at sorted) 0 i d (omega arith) low in omega arith))

-- what ties with a symbol by address stands at its address
tie_is : (x y : ℕ) → (not (is_lt (nat_cmp x y)) && not (is_lt (nat_cmp y x))) ≡ eqb y x
tie_is x y = grind (arith, nat_tests)

abbrev by_key : Symbol → Symbol → Bool
by_key x y = is_lt (nat_cmp x.address y.address)

kept_step : (x s : Symbol) (ss : List Symbol) (v : Bool) → eqb s.address x.address ≡ v → names_at x.address (labels (filter (ties by_key x) ss)) ≡ names_at x.address (labels ss) → names_at x.address (labels (cond v (s ∷ filter (ties by_key x) ss) (filter (ties by_key x) ss))) ≡ names_at x.address (labels (s ∷ ss))
kept_step x s ss true is rest = rw rest refl
kept_step x s ss false is rest = rw is rest

kept : (x : Symbol) (ss : List Symbol) → names_at x.address (labels (filter (ties by_key x) ss)) ≡ names_at x.address (labels ss)
kept x [] = refl
kept x (s ∷ ss) = rw (tie_is x.address s.address) (kept_step x s ss (eqb s.address x.address) refl (kept x ss))

abbrev at_address : Symbol → ℕ → Symbol
at_address s a = record { name = s.name; address = a }

-- a stable sort by address leaves the symbols at each address in their order
pub same_names : (xs ys : List Symbol) → IsStableByKey (λ (s : Symbol). s.address) nat_cmp xs ys → (a : ℕ) → names_at a (labels ys) ≡ names_at a (labels xs)
same_names [] [] stable a = refl
same_names (s ∷ xs) ys stable a =
    sym (kept (at_address s a) ys) ∙ ap (λ (l : List Symbol). names_at a (labels l)) (stable (at_address s a)) ∙ kept (at_address s a) (s ∷ xs)
same_names [] (s ∷ ys) stable a =
    sym (kept (at_address s a) (s ∷ ys)) ∙ ap (λ (l : List Symbol). names_at a (labels l)) (stable (at_address s a)) ∙ kept (at_address s a) []

-- the first symbol's line goes behind what stands
pub first_listed : (a : ℕ) (s : Symbol) (ss rest : List Symbol) (out new whole : List ℕ) → rest ≡ s ∷ ss → new ≡ out ++ name_line a (label s) → out ++ names_at a (labels rest) ≡ whole → new ++ names_at a (labels ss) ≡ whole
first_listed a s ss rest out new whole is is_new same = rw (is_new, append_assoc out (name_line a (label s)) (names_at a (labels ss))) (rw is at same)

pub rest_sorted : (s : Symbol) (ss rest : List Symbol) → rest ≡ s ∷ ss → IsNonDecreasingBy (λ (t : Symbol). t.address) rest → IsNonDecreasingBy (λ (t : Symbol). t.address) ss
rest_sorted s ss rest is sorted = IsNonDecreasingBy-drop (λ (t : Symbol). t.address) 1 (s ∷ ss) (rw is at sorted)

-- where the symbols left are above the address, all of its lines stand
pub all_listed : (a : ℕ) (rest : List Symbol) (out whole : List ℕ) → names_at a (labels rest) ≡ [] → out ++ names_at a (labels rest) ≡ whole → out ≡ whole
all_listed a rest out whole none same = sym (append-nil out) ∙ (rw none at same)

pub no_symbols : (a : ℕ) (rest : List Symbol) → length rest ≡ 0 → names_at a (labels rest) ≡ []
no_symbols a [] none = refl
no_symbols a (s ∷ ss) none = absurd (omega arith)
