-- Whether each byte of a line is ASCII.
use Rattle.rt_text.proofs.Common.{◌≡◌, ℕ, zero, suc, ◌≤◌, Bool, true, false, List, [], ◌∷◌, refl, sym, arith, is_ascii, list_all}
use Rattle.std.specs.Prelude.{slice_index, MatchBool}
use Rattle.std.specs.Str.{IsAscii, IsNotAscii}
use Rattle.std.proofs.lemmas.Bool.{and_from, and_left, and_right, lt-ltb, le-ltb}

all_ascii : (bs : List ℕ) → IsAscii bs → list_all is_ascii bs ≡ true
all_ascii [] is = refl
all_ascii (b ∷ bs) is = and_from _ _ (lt-ltb b 128 (is 0)) (all_ascii bs (λ i. is (suc i)))

some_other : (bs : List ℕ) (i : ℕ) → 128 ≤ slice_index bs i → list_all is_ascii bs ≡ false
some_other [] i is = absurd (omega arith)
some_other (b ∷ bs) zero is = and_left _ _ (le-ltb b 128 is)
some_other (b ∷ bs) (suc i) is = and_right _ _ (some_other bs i is)

pub tells_ascii : (answer : Bool) (bs : List ℕ) → MatchBool answer (IsAscii bs) (IsNotAscii bs) → answer ≡ list_all is_ascii bs
tells_ascii true bs is = sym (all_ascii bs is)
tells_ascii false bs is = sym (some_other bs is.0 is.1)
