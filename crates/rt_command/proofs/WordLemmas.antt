-- The words of a line, one by one.
use Rattle.std.proofs.Common.{◌≡◌, ℕ, ◌<◌, ◌≤◌, true, ltb, List, [], ◌∷◌, length, Option, Some, None, refl, sym, ap, subst, ◌∙◌, arith, lt-ltb, inl, inr}
use Rattle.std.specs.List.{position_or_len, before_first, after_first}
use Rattle.std.proofs.lemmas.Bool.{ltb-true, cases_lt}
use Rattle.std.proofs.lemmas.List.{take_all, drop_all}
use Rattle.std.proofs.lemmas.List.Splits.{slice_split_first, length-slice_split}
use Rattle.rt_words.proofs.Founds.{when_some}
use Rattle.rt_token.specs.SpacedWords.{is_space, word_at}
use Rattle.rt_token.proofs.PartLemmas.{last_part}
use Rattle.std.specs.Option.{option_and_then, option_map, is_some}
use Rattle.std.specs.Borrow.{Bor}
use Rattle.rt_command.specs.declared.verb.Verb.{Verb}
use Rattle.rt_command.specs.Verbs.{verb_of}
use Rattle.rt_command.specs.CommandLine.{words, words_of, after_verb, in_words}

-- a space ends the first word
pub words_some : (line word rest : List ℕ) → word_at line ≡ Some (word, rest) → words line ≡ word ∷ words rest
words_some line word rest e =
    let found = when_some (ltb (position_or_len is_space line) (length line)) (before_first is_space line, after_first is_space line) (word, rest) e in
    let inside : position_or_len is_space line < length line = ltb-true _ _ found.0 in
    subst (λ (y : List ℕ × List ℕ). words line ≡ y.0 ∷ words y.1) found.1 (slice_split_first is_space line 0 inside)

-- no space, one word
pub words_none : (line : List ℕ) → word_at line ≡ None → words line ≡ line ∷ []
words_none line e = elim (cases_lt (position_or_len is_space line) (length line)) [
  | inl inside ↦ let is : ltb (position_or_len is_space line) (length line) ≡ true = lt-ltb _ _ inside in absurd (let no = rw is at e in cc)
  | inr beyond ↦ last_part is_space line (drop_all (position_or_len is_space line) line beyond) ∙ ap (λ l. l ∷ []) (take_all (position_or_len is_space line) line beyond)
]

over : (a b c d : List ℕ) (more : List (List ℕ)) (found : Option Verb) → None ≡ option_and_then (λ verb. after_verb verb (a ∷ b ∷ c ∷ d ∷ more)) found
over a b c d more None = refl
over a b c d more (Some verb) = refl

none_over : (name a b c : List ℕ) (more : List (List ℕ)) → 1 ≤ length more → None ≡ in_words (name ∷ a ∷ b ∷ c ∷ more)
none_over name a b c [] some = absurd (omega (arith, some))
none_over name a b c (d ∷ more) some = over a b c d more (verb_of name)

-- what a cut gave, where something stands after the first word
pub cut_to : (line name : List ℕ) (rest : Option (Bor (List ℕ))) (after : Bor (List ℕ)) → words line ≡ words_of name (option_map (λ (x : Bor (List ℕ)). x.now) rest)
    → rest ≡ Some after → words line ≡ name ∷ words after.now
cut_to line name rest after cut is = cut ∙ ap (λ (o : Option (Bor (List ℕ))). words_of name (option_map (λ (x : Bor (List ℕ)). x.now) o)) is

cut_on : (line name : List ℕ) (rest : Option (Bor (List ℕ))) → words line ≡ words_of name (option_map (λ (x : Bor (List ℕ)). x.now) rest) → is_some rest ≡ true
    → (more : List (List ℕ)) × (words line ≡ name ∷ more) × (1 ≤ length more)
cut_on line name None cut some = cc
cut_on line name (Some after) cut some = (words after.now, cut, omega (arith, length-slice_split is_space after.now))

-- more words than any command has
pub too_many : (line second third fourth name a b c : List ℕ) (rest : Option (Bor (List ℕ))) → words line ≡ name ∷ words second → words second ≡ a ∷ words third
    → words third ≡ b ∷ words fourth → words fourth ≡ words_of c (option_map (λ (x : Bor (List ℕ)). x.now) rest) → is_some rest ≡ true → None ≡ in_words (words line)
too_many line second third fourth name a b c rest one two three four some =
    let on = cut_on fourth c rest four some in
    none_over name a b c on.0 on.2 ∙ sym (ap in_words (one ∙ ap (λ ws. name ∷ ws) (two ∙ ap (λ ws. a ∷ ws) (three ∙ ap (λ ws. b ∷ ws) on.1))))
