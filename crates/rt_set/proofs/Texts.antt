-- The test of UTF-8 as a fact.
use Rattle.std.proofs.Common.{◌≡◌, List, ℕ, Bool, true, false, refl}
use Rattle.std.specs.Str.{IsUtf8, is_utf8}
use Rattle.std.proofs.lemmas.Str.{IsUtf8-from_is_utf8, is_utf8-from_IsUtf8}

pub is_text : (bs : List ℕ) → IsUtf8 bs → is_utf8 bs ≡ true
is_text = is_utf8-from_IsUtf8

none_so : (bs : List ℕ) (b : Bool) → (b ≡ true → IsUtf8 bs) → (IsUtf8 bs → ⊥) → b ≡ false
none_so bs true so not = absurd (not (so refl))
none_so bs false so not = refl

pub is_no_text : (bs : List ℕ) → (IsUtf8 bs → ⊥) → is_utf8 bs ≡ false
is_no_text bs not = none_so bs (is_utf8 bs) (IsUtf8-from_is_utf8 bs) not

pub text_is : (bs : List ℕ) → is_utf8 bs ≡ true → IsUtf8 bs
text_is = IsUtf8-from_is_utf8
