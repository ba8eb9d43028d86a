-- A line has a refused word exactly where it says no symbol.
use Rattle.rt_elf.proofs.Common.{◌≡◌, ℕ, Bool, true, false, ◌&&◌, List, [], ◌∷◌, length, Option, Some, None, refl, sym, ap, ◌∙◌, arith, Label}
use Rattle.std.proofs.Common.{cond, eqb, leb, ltb}
use Rattle.std.specs.Prelude.{not}
use Rattle.std.specs.Option.{option_map}
use Rattle.rt_words.specs.Found.{◌>>=◌, when}
use Rattle.rt_token.specs.SpacedWords.{word_at}
use Rattle.rt_elf.specs.flat.FlatNames.{address_of, symbol_of}
use Rattle.rt_elf.specs.flat.RefusedWord.{is_found, after_address, from_address, refused_from, refused_word}

letter_by : (o : Option (List ℕ × List ℕ)) (rest : List ℕ) (label : List ℕ → Label)
    → is_found (after_address rest o) ≡ not (is_found (o >>= λ letter. when (eqb (length letter.0) 1 && ltb 0 (length letter.1)) (label letter.1)))
letter_by None rest label = here (leb (length rest) 1)
  where
    here : (b : Bool) → is_found (cond b (Some []) (Some rest)) ≡ true
    here true = refl
    here false = refl
letter_by (Some x) rest label = here (eqb (length x.0) 1) x.1
  where
    here : (b : Bool) (name : List ℕ) → is_found (cond b (cond (eqb (length name) 0) (Some []) None) (Some rest)) ≡ not (is_found (when (b && ltb 0 (length name)) (label name)))
    here true [] = refl
    here true (b ∷ bs) = let some : eqb (length (b ∷ bs)) 0 ≡ false = grind arith in let more : ltb 0 (length (b ∷ bs)) ≡ true = grind arith in rw (some, more) refl
    here false name = refl

address_by : (o : Option (List ℕ × List ℕ)) (line : List ℕ)
    → is_found (from_address line o)
    ≡ not (is_found {A = Label} (o >>= λ digits. address_of digits.0 >>= λ address. word_at digits.1 >>= λ letter. when (eqb (length letter.0) 1 && ltb 0 (length letter.1)) (record { name = letter.1; address = address })))
address_by None line = here (is_found (address_of line))
  where
    here : (b : Bool) → is_found (cond b (Some []) (Some line)) ≡ true
    here true = refl
    here false = refl
address_by (Some x) line = here (address_of x.0)
  where
    here : (a : Option ℕ) → is_found (cond (is_found a) (after_address x.1 (word_at x.1)) (Some line))
        ≡ not (is_found {A = Label} (a >>= λ address. word_at x.1 >>= λ letter. when (eqb (length letter.0) 1 && ltb 0 (length letter.1)) (record { name = letter.1; address = address })))
    here None = refl
    here (Some address) = letter_by (word_at x.1) x.1 (λ name. record { name = name; address = address })

mapped : {A B : Type 0} (f : A → B) (o : Option A) → is_found (option_map f o) ≡ is_found o
mapped f None = refl
mapped f (Some x) = refl

refused_is : (line : List ℕ) → is_found (refused_word line) ≡ not (is_found (symbol_of line))
unfolding symbol_of
refused_is line = mapped _ (refused_from line) ∙ address_by (word_at line) line

pub faulty_refused : (line : List ℕ) → symbol_of line ≡ None → is_found (refused_word line) ≡ true
faulty_refused line faulty = refused_is line ∙ ap (λ o. not (is_found o)) faulty

none_is : {A : Type 0} (o : Option A) → not (is_found o) ≡ true → o ≡ None
none_is None e = refl
none_is (Some x) e = absurd cc

pub refused_faulty : (line : List ℕ) → is_found (refused_word line) ≡ true → symbol_of line ≡ None
refused_faulty line e = none_is (symbol_of line) (sym (refused_is line) ∙ e)
