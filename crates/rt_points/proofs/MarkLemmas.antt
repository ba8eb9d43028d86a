-- What is marked after a mark is made, and after one is taken away.
use Rattle.std.proofs.Common.{◌≡◌, inl, inr, ℕ, ◌*◌, ◌%◌, ◌^◌, ◌<◌, Bool, true, false, true≢false, eqb, List, length, get_or, bit_and, bit_or, w64, Result, Ok, Err, OnOk, OnErr, refl, sym, ap, ◌∙◌, arith}
use Rattle.std.specs.Prelude.{slice_set, ◌&&◌, ◌||◌}
use Rattle.std.specs.Int.{bit_at, bit_not}
use Rattle.std.proofs.lemmas.Bool.{cases_eq, eq-eqb, ne_eqb, and_left, and_right}
use Rattle.std.proofs.lemmas.List.{get_or-set_same, get_or-set_other}
use Rattle.std.proofs.lemmas.Nat.Bits.{bit_at_set_same, bit_at_set_other, bit_at_clear_same, bit_at_clear_other}
use Rattle.rt_points.specs.Marks.{word_of, is_marked, share_mark}

-- a word with a bit more, and one with a bit less
abbrev pub set_bit : ℕ → ℕ → ℕ
set_bit n k = bit_or n (1 * 2 ^ k % 2 ^ 64)

abbrev pub clear_bit : ℕ → ℕ → ℕ
clear_bit n k = bit_and n (bit_not w64 (1 * 2 ^ k % 2 ^ 64))

here : (words : List ℕ) (at word n : ℕ) → word < length words → at ≡ word → get_or (slice_set words word n) at 0 ≡ n
here words at word n within is = ap (λ (k : ℕ). get_or (slice_set words word n) k 0) is ∙ get_or-set_same words word n 0 within

-- a mark of a word that is this one, and of one that is not
at_word : (words : List ℕ) (word n task pc : ℕ) → word < length words → word_of pc ≡ word → is_marked (slice_set words word n) task pc ≡ eqb (bit_at n (task % 64)) 1
at_word words word n task pc within is = ap (λ (m : ℕ). eqb (bit_at m (task % 64)) 1) (here words (word_of pc) word n within is)

elsewhere : (words : List ℕ) (word n task pc : ℕ) → (word_of pc ≡ word → ⊥) → is_marked (slice_set words word n) task pc ≡ is_marked words task pc
elsewhere words word n task pc apart = ap (λ (m : ℕ). eqb (bit_at m (task % 64)) 1) (get_or-set_other words word (word_of pc) n 0 apart)

-- another bit of the word
beside : (words : List ℕ) (word old new task pc : ℕ) → word < length words → word_of pc ≡ word → old ≡ get_or words word 0
    → bit_at new (task % 64) ≡ bit_at old (task % 64) → is_marked (slice_set words word new) task pc ≡ is_marked words task pc
beside words word old new task pc within is read same =
    let at : old ≡ get_or words (word_of pc) 0 = read ∙ ap (λ (k : ℕ). get_or words k 0) (sym is) in
    at_word words word new task pc within is ∙ ap (λ (m : ℕ). eqb m 1) same ∙ ap (λ (m : ℕ). eqb (bit_at m (task % 64)) 1) at

one_mark : (a b c d : ℕ) → a ≡ b → c ≡ d → (eqb a b && eqb c d) ≡ true
one_mark a b c d first second = ap (λ (x : Bool). x && eqb c d) (eq-eqb a b first) ∙ eq-eqb c d second

unshared : (share was now : Bool) → share ≡ false → now ≡ was → now ≡ (share || was)
unshared share was now none same = same ∙ ap (λ (b : Bool). b || was) (sym none)

pub marked_with : (old words : List ℕ) (word n marked at task pc : ℕ) → word < length words → word ≡ word_of at → n ≡ get_or words word 0 → ((k : ℕ) → get_or words k 0 ≡ get_or old k 0)
    → is_marked (slice_set words word (set_bit n (marked % 64))) task pc ≡ (share_mark marked at task pc || is_marked old task pc)
marked_with old words word n marked at task pc within here read same =
    let new = set_bit n (marked % 64) in
    let now = is_marked (slice_set words word new) task pc in
    let was = is_marked old task pc in
    let is_word = eqb (word_of at) (word_of pc) in
    let is_task = eqb (marked % 64) (task % 64) in
    let before : is_marked words task pc ≡ was = ap (λ (m : ℕ). eqb (bit_at m (task % 64)) 1) (same (word_of pc)) in
    elim (cases_eq (word_of pc) word) [
      | inr apart ↦ unshared (is_word && is_task) was now (and_left is_word is_task (ne_eqb (word_of at) (word_of pc) (λ e. apart (sym e ∙ sym here)))) (elsewhere words word new task pc apart ∙ before)
      | inl is ↦ elim (cases_eq (task % 64) (marked % 64)) [
        | inr other ↦ unshared (is_word && is_task) was now (and_right is_word is_task (ne_eqb (marked % 64) (task % 64) (λ e. other (sym e))))
            (beside words word n new task pc within is read (bit_at_set_other w64 n (marked % 64) (omega arith) (task % 64) other) ∙ before)
        | inl one ↦ at_word words word new task pc within is ∙ ap (λ (k : ℕ). eqb (bit_at new k) 1) one
            ∙ ap (λ (m : ℕ). eqb m 1) (bit_at_set_same w64 n (marked % 64) (omega arith))
            ∙ ap (λ (b : Bool). b || was) (sym (one_mark (word_of at) (word_of pc) (marked % 64) (task % 64) (sym here ∙ sym is) (sym one)))
      ]
    ]

-- no mark goes where one is made, or memory runs out
pub marks_stay : {E : Type 0} (r : Result (Unit {0}) E) (old new : List ℕ) (marked at task pc : ℕ) → OnOk r ((task pc : ℕ) → is_marked new task pc ≡ (share_mark marked at task pc || is_marked old task pc))
    → OnErr r ((task pc : ℕ) → is_marked new task pc ≡ is_marked old task pc) → is_marked old task pc ≡ true → is_marked new task pc ≡ true
marks_stay (Ok done) old new marked at task pc added same was = added task pc ∙ ap (λ (b : Bool). share_mark marked at task pc || b) was ∙ or_true (share_mark marked at task pc)
  where
    or_true : (b : Bool) → (b || true) ≡ true
    or_true true = refl
    or_true false = refl
marks_stay (Err fault) old new marked at task pc added same was = same task pc ∙ was

-- the place itself
pub is_made : (old new : List ℕ) (marked at : ℕ) → ((task pc : ℕ) → is_marked new task pc ≡ (share_mark marked at task pc || is_marked old task pc)) → is_marked new marked at ≡ true
is_made old new marked at added = added marked at ∙ ap (λ (b : Bool). b || is_marked old marked at) (one_mark (word_of at) (word_of at) (marked % 64) (marked % 64) refl refl)

pub unmarked_now : (words : List ℕ) (word n task pc : ℕ) → word < length words → word ≡ word_of pc → is_marked (slice_set words word (clear_bit n (task % 64))) task pc ≡ false
unmarked_now words word n task pc within is =
    at_word words word (clear_bit n (task % 64)) task pc within (sym is) ∙ ap (λ (m : ℕ). eqb m 1) (bit_at_clear_same w64 n (task % 64) (omega arith))

pub unmarked_beside : (words : List ℕ) (word n gone at task pc : ℕ) → word < length words → word ≡ word_of at → n ≡ get_or words word 0 → share_mark gone at task pc ≡ false
    → is_marked (slice_set words word (clear_bit n (gone % 64))) task pc ≡ is_marked words task pc
unmarked_beside words word n gone at task pc within here read apart = elim (cases_eq (word_of pc) word) [
  | inr other ↦ elsewhere words word (clear_bit n (gone % 64)) task pc other
  | inl is ↦ elim (cases_eq (task % 64) (gone % 64)) [
    | inr other ↦ beside words word n (clear_bit n (gone % 64)) task pc within is read (bit_at_clear_other w64 n (gone % 64) (omega arith) (task % 64) (omega arith) other)
    | inl one ↦ absurd (true≢false (sym (one_mark (word_of at) (word_of pc) (gone % 64) (task % 64) (sym here ∙ sym is) (sym one)) ∙ apart))
  ]
]
