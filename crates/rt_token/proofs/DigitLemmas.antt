-- What a loop over the digits of a number needs.
use Rattle.std.proofs.Common.{le_trans, get_or, drop, drop-cons, suc, lt-ltb, ◌≡◌, ℕ, true, false, ◌&&◌, ◌+◌, ◌*◌, ◌<◌, ◌≤◌, List, [], ◌∷◌, length, refl, arith, ◌∙◌, Option, Some, None}
use Rattle.std.proofs.Math.Nat.{mul-le-mul_left}
use Rattle.std.specs.Prelude.{if◌then◌else◌, nat_le}
use Rattle.std.specs.List.{list_all}
use Rattle.std.specs.Char.{is_digit, digit_value}
use Rattle.std.specs.Str.Parse.{digits_value_after}
use Rattle.std.proofs.lemmas.Grind.{common_steps}
use Rattle.rt_token.specs.Number.{value_up_to}

-- the value of the digits that follow those of n
abbrev pub value_after : ℕ → ℕ → ℕ → List ℕ → Option ℕ
value_after limit radix n ds =
    if list_all (λ d. is_digit d radix) ds && nat_le (digits_value_after radix n ds) limit then Some (digits_value_after radix n ds) else None

grown : (n radix d : ℕ) → 0 < radix → n ≤ n * radix + d
grown n radix d positive = omega (arith, mul-le-mul_left n positive)

pub no_less : (radix n : ℕ) (ds : List ℕ) → 0 < radix → n ≤ digits_value_after radix n ds
no_less radix n [] positive = omega arith
no_less radix n (d ∷ ds) positive =
    le_trans (grown n radix (digit_value d) positive) (no_less radix (n * radix + digit_value d) ds positive)

pub value_after-start : (limit radix : ℕ) (ds : List ℕ) → 0 < length ds → value_up_to limit radix ds ≡ value_after limit radix 0 ds
value_after-start limit radix ds some = grind (arith, common_steps)

pub value_after-no_digit : (limit radix n d : ℕ) (ds : List ℕ) → is_digit d radix ≡ false → value_after limit radix n (d ∷ ds) ≡ None
value_after-no_digit limit radix n d ds other = rw other refl

pub value_after-digit : (limit radix n d : ℕ) (ds : List ℕ) → is_digit d radix ≡ true → value_after limit radix n (d ∷ ds) ≡ value_after limit radix (n * radix + digit_value d) ds
value_after-digit limit radix n d ds digit = rw digit refl

pub value_after-large : (limit radix n : ℕ) (ds : List ℕ) → 0 < radix → limit < n → value_after limit radix n ds ≡ None
value_after-large limit radix n ds positive large =
    let bound = no_less radix n ds positive in
    grind (arith, common_steps, bound)

-- the digit at i takes the value above the limit, and what follows makes it no less
pub value_after-stops : (limit radix n i d : ℕ) (ds : List ℕ) → 0 < radix → i < length ds → get_or ds i 0 ≡ d → digit_value d < radix → limit < n * radix + digit_value d → value_after limit radix n (drop i ds) ≡ None
value_after-stops limit radix n i d ds positive inside is_d digit large =
    rw (drop-cons ds i 0, is_d) (value_after-digit limit radix n d (drop (suc i) ds) (lt-ltb _ _ digit) ∙ value_after-large limit radix (n * radix + digit_value d) (drop (suc i) ds) positive large)
