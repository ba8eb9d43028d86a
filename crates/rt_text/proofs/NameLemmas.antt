-- What the look-ups in the tables of names need.
use Rattle.rt_text.proofs.Common.{◌≡◌, ℕ, Bool, true, false, cond, ◌&&◌, ◌<◌, List, [], ◌∷◌, refl, sym, ◌∙◌, ap, Option, Some, None, list_all, and_parts, value_of, registers, fence_sets}
use Rattle.std.specs.Prelude.{nat_lt, IsSome, IfSome}
use Rattle.std.specs.Str.{bytes_eq}
use Rattle.std.proofs.lemmas.Bool.{ltb-true}

found_here : {V : Type 0} (p : V → Bool) (same all : Bool) (v w : V) (rest : Option V) → (p w && all) ≡ true → cond same (Some w) rest ≡ Some v → (rest ≡ Some v → p v ≡ true) → p v ≡ true
found_here p true all v w rest passes found below = let e : w ≡ v = cc in ap p (sym e) ∙ (and_parts (p w) all passes).0
found_here p false all v w rest passes found below = below found

-- what passes a test in each row passes it where it is found
pub value_of-passes : {V : Type 0} (p : V → Bool) (rows : List (List ℕ × V)) (name : List ℕ) (v : V) → list_all (λ row. p row.1) rows ≡ true → value_of rows name ≡ Some v → p v ≡ true
value_of-passes p [] name v passes found = cc
value_of-passes p (row ∷ rows) name v passes found =
    found_here p (bytes_eq name row.0) (list_all (λ row. p row.1) rows) v row.1 (value_of rows name) passes found (value_of-passes p rows name v (and_parts (p row.1) (list_all (λ row. p row.1) rows) passes).1)

-- each register's number is below 32
pub register_small : (name : List ℕ) (n : ℕ) → value_of registers name ≡ Some n → n < 32
unfolding registers
register_small name n found = ltb-true n 32 (value_of-passes (λ n. nat_lt n 32) registers name n refl found)

-- each fence set has four bits
pub fence_set_small : (name : List ℕ) (n : ℕ) → value_of fence_sets name ≡ Some n → n < 16
unfolding fence_sets
fence_set_small name n found = ltb-true n 16 (value_of-passes (λ n. nat_lt n 16) fence_sets name n refl found)

-- an option that is some value, which is n
pub some_of : (r : Option ℕ) (n : ℕ) → IsSome r → IfSome r (λ x. x ≡ n) → r ≡ Some n
some_of None n there is = cc
some_of (Some x) n there is = ap Some is
