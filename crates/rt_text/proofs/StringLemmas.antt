-- The bytes that a string means are those that its spelling says.
use Rattle.rt_text.proofs.Common.{◌≡◌, ℕ, true, false, List, ◌∷◌, refl, sym, ap, subst, ◌∙◌, inl, inr, eqb-true, IsText, Text}
use Rattle.std.proofs.lemmas.Bool.{ne_eqb, or_cases}
use Rattle.rt_token.specs.Grammar.{IsStringRest}
use Rattle.rt_token.specs.Grammar as grammar
use Rattle.rt_token.specs.Tokens.{is_escape}
use Rattle.rt_text.specs.Strings.{escape_value, bytes_after, string_bytes}
use Rattle.rt_text.specs.StringGrammar.{IsEscape, SpellsRest, Spells, line_feed, tab, backslash, quote, last, plain, escape}

escape_is : (b : ℕ) → is_escape b ≡ true → IsEscape b (escape_value b)
escape_is b is =
    elim (or_cases _ _ is) [
      | inl three ↦
          elim (or_cases _ _ three) [
            | inl two ↦
                elim (or_cases _ _ two) [
                  | inl first ↦ at (eqb-true _ _ first) line_feed
                  | inr second ↦ at (eqb-true _ _ second) tab
                ]
            | inr third ↦ at (eqb-true _ _ third) backslash
          ]
      | inr fourth ↦ at (eqb-true _ _ fourth) quote
    ]
  where
    at : {c : ℕ} → b ≡ c → IsEscape c (escape_value c) → IsEscape b (escape_value b)
    at same here = subst (λ c. IsEscape c (escape_value c)) (sym same) here

rest_spells : (text : List ℕ) → IsStringRest text → SpellsRest text (bytes_after false text)
rest_spells _ grammar.last = last
rest_spells _ (grammar.plain b bs no_quote no_slash printable more) =
    subst (SpellsRest (b ∷ bs)) (rw (ne_eqb b 34 no_quote, ne_eqb b 92 no_slash) refl) (plain b bs (bytes_after false bs) no_quote no_slash printable (rest_spells bs more))
rest_spells _ (grammar.escape b bs is more) = escape b (escape_value b) bs (bytes_after false bs) (escape_is b is) (rest_spells bs more)

escape_back : (b value : ℕ) → IsEscape b value → (is_escape b ≡ true) × (escape_value b ≡ value)
escape_back _ _ line_feed = (refl, refl)
escape_back _ _ tab = (refl, refl)
escape_back _ _ backslash = (refl, refl)
escape_back _ _ quote = (refl, refl)

rest_back : (text bytes : List ℕ) → SpellsRest text bytes → IsStringRest text × (bytes_after false text ≡ bytes)
rest_back _ _ last = (grammar.last, refl)
rest_back _ _ (plain b text bytes no_quote no_slash printable more) =
    let behind = rest_back text bytes more in
    (grammar.plain b text no_quote no_slash printable behind.0, rw (ne_eqb b 34 no_quote, ne_eqb b 92 no_slash, behind.1) refl)
rest_back _ _ (escape b value text bytes is more) =
    let behind = rest_back text bytes more in
    let here = escape_back b value is in
    (grammar.escape b text here.0 behind.0, rw (here.1, behind.1) refl)

pub string_spells : (text bytes : List ℕ) → IsText Text text × (string_bytes text ≡ bytes) → Spells text bytes
string_spells text bytes ((rest, e, is), same) =
    (rest, e, subst (SpellsRest rest) (ap string_bytes (sym e) ∙ same) (rest_spells rest is))

pub spelled_string : (text bytes : List ℕ) → Spells text bytes → IsText Text text × (string_bytes text ≡ bytes)
spelled_string text bytes (rest, e, spells) =
    let back = rest_back rest bytes spells in
    ((rest, e, back.0), ap string_bytes e ∙ back.1)
