-- The failures that words ask for.
use Rattle.std.proofs.Common.{◌≡◌, ◌≢◌, ◌<◌, ◌+◌, Bool, true, false, cond, ℕ, List, [], ◌∷◌, ◌++◌, length, take, map, get_or, Option, Some, None, Bor, refl, sym, ap, ◌∙◌, inl, inr, IfSome}
use Rattle.std.specs.List.{list_any}
use denote.Enum.Bare.{sameb}
use Rattle.rt_report.specs.contracts.failing.Failing.{the_type}
use Rattle.std.specs.Option.{option_map_or}
use Rattle.std.specs.Str.{bytes_eq}
use Rattle.std.proofs.lemmas.Bool.{cases_Bool}
use Rattle.std.proofs.lemmas.List.{take_more, map-append}
use Rattle.std.proofs.lemmas.List.Sums.{fold-append}
use Rattle.std.proofs.lemmas.Option.{none-some}
use Rattle.std.proofs.lemmas.Slice.Eq.{bytes_eq-Decides}
use Rattle.rt_report.specs.declared.failing.Failing.{Failing}
use Rattle.rt_report.specs.declared.failing.Failing.TheVariants.{Fault, Over, Soft, Refused, Few, Lost}
use Rattle.rt_accounts.specs.FailureText.{failing_word}
use Rattle.rt_arguments.specs.Options.{failing_of, with_failing, with_word, failings_of}

-- the words up to the next one
pub words-more : (xs : List (Bor (List ℕ))) (i : ℕ) (d : Bor (List ℕ)) → i < length xs → map (λ w. w.now) (take (i + 1) xs) ≡ map (λ w. w.now) (take i xs) ++ (get_or xs i d).now ∷ []
words-more xs i d lt = ap (map (λ w. w.now)) (take_more xs i d lt) ∙ map-append (λ w. w.now) (take i xs) (get_or xs i d ∷ [])

pub failings-more : (xs : List (Bor (List ℕ))) (i : ℕ) (d : Bor (List ℕ)) → i < length xs
    → failings_of (map (λ w. w.now) (take (i + 1) xs)) ≡ with_word (failings_of (map (λ w. w.now) (take i xs))) (get_or xs i d).now
failings-more xs i d lt = ap failings_of (words-more xs i d lt) ∙ fold-append with_word [] (map (λ w. w.now) (take i xs)) ((get_or xs i d).now ∷ [])

-- a word that asks for no failure, and one that asks for one
pub asks-one : (f : Failing) → failing_of (failing_word f) ≡ Some f
asks-one Fault = refl
asks-one Over = refl
asks-one Soft = refl
asks-one Refused = refl
asks-one Few = refl
asks-one Lost = refl

other : (f : Failing) (word : List ℕ) → ((g : Failing) → word ≢ failing_word g) → bytes_eq (failing_word f) word ≡ false
other f word none = elim (cases_Bool (bytes_eq (failing_word f) word)) [
  | inl same ↦ absurd (none f (sym ((bytes_eq-Decides (failing_word f) word).0 same)))
  | inr not ↦ not
]

pub asks-none : (word : List ℕ) → ((f : Failing) → word ≢ failing_word f) → failing_of word ≡ None
asks-none word none = rw (other Fault word none, other Over word none, other Soft word none, other Refused word none, other Few word none, other Lost word none) refl

pub asks : (word : List ℕ) (r : Option Failing) → IfSome r (λ f. word ≡ failing_word f) → ((f : Failing) → word ≡ failing_word f → r ≡ Some f) → failing_of word ≡ r
asks word None spells whole = asks-none word (λ f is. none-some f (whole f is))
asks word (Some f) spells whole = ap failing_of spells ∙ asks-one f

-- the failures with a word: it asks for none, for one that is there, and for another
pub asks-nothing : (fs known : List Failing) (word : List ℕ) → fs ≡ known → failing_of word ≡ None → fs ≡ with_word known word
asks-nothing fs known word same asked = same ∙ sym (ap (λ (o : Option Failing). option_map_or (with_failing known) o known) asked)

with-one : (fs known : List Failing) (f : Failing) (word : List ℕ) (b : Bool) → fs ≡ known → failing_of word ≡ Some f → b ≡ list_any (λ g. sameb the_type g f) fs
    → with_word known word ≡ cond b known (known ++ f ∷ [])
with-one fs known f word b same asked is =
    ap (λ (o : Option Failing). option_map_or (with_failing known) o known) asked
    ∙ ap (λ (c : Bool). cond c known (known ++ f ∷ [])) (ap (list_any (λ g. sameb the_type g f)) (sym same) ∙ sym is)

pub asks-again : (fs known : List Failing) (f : Failing) (word : List ℕ) (b : Bool) → fs ≡ known → failing_of word ≡ Some f → b ≡ list_any (λ g. sameb the_type g f) fs → b ≡ true
    → fs ≡ with_word known word
asks-again fs known f word b same asked is there = same ∙ sym (with-one fs known f word b same asked is ∙ ap (λ (c : Bool). cond c known (known ++ f ∷ [])) there)

pub asks-more : (fs known : List Failing) (f : Failing) (word : List ℕ) (b : Bool) → fs ≡ known → failing_of word ≡ Some f → b ≡ list_any (λ g. sameb the_type g f) fs → b ≡ false
    → fs ++ f ∷ [] ≡ with_word known word
asks-more fs known f word b same asked is new =
    ap (λ (l : List Failing). l ++ f ∷ []) same
    ∙ sym (with-one fs known f word b same asked is ∙ ap (λ (c : Bool). cond c known (known ++ f ∷ [])) new)
