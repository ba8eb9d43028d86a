-- The lines of words and of entries, one by one.
use Rattle.std.proofs.Common.{◌≡◌, ℕ, ◌<◌, ◌≤◌, List, [], ◌∷◌, ◌++◌, length, length-append, drop, refl, sym, ap, subst, ◌∙◌, arith, append_assoc, append-nil, zero, suc, ◌+◌, Option, Some}
use Rattle.std.specs.Prelude.{slice_get}
use Rattle.std.specs.Option.{option_copied}
use Rattle.std.specs.Borrow.{Bor}
use Rattle.std.specs.List.{flat_map}
use Rattle.rt_history.specs.declared.record.Entry.{Entry}
use Rattle.rt_trace.specs.HistoryText.{line}
use Rattle.byteorder.specs.Endian.{little_number}
use Rattle.rt_words.specs.Modular.{sum32}
use Rattle.rt_debug.specs.reply.Shown.{word_line, words_shown}

pub first_word : (a : ℕ) (bytes : List ℕ) → 4 ≤ length bytes → words_shown a bytes ≡ word_line a (little_number 4 bytes) ++ words_shown (sum32 a 4) (drop 4 bytes)
first_word a [] long = absurd (omega (arith, long))
first_word a (b ∷ []) long = absurd (omega (arith, long))
first_word a (b ∷ c ∷ []) long = absurd (omega (arith, long))
first_word a (b ∷ c ∷ d ∷ []) long = absurd (omega (arith, long))
first_word a (b ∷ c ∷ d ∷ e ∷ rest) long = refl

pub no_word : (a : ℕ) (bytes : List ℕ) → length bytes < 4 → words_shown a bytes ≡ []
no_word a [] few = refl
no_word a (b ∷ []) few = refl
no_word a (b ∷ c ∷ []) few = refl
no_word a (b ∷ c ∷ d ∷ []) few = refl
no_word a (b ∷ c ∷ d ∷ e ∷ rest) few = absurd (omega (arith, few))

-- the entries from a place on
entry_at : (entries : List Entry) (place : ℕ) (e : Entry) → slice_get entries place ≡ Some e → flat_map line (drop place entries) ≡ line e ++ flat_map line (drop (place + 1) entries)
entry_at [] place e there = absurd cc
entry_at (x ∷ xs) zero e there = let is : x ≡ e = cc in rw is refl
entry_at (x ∷ xs) (suc place) e there = let at : suc place + 1 ≡ suc (place + 1) = omega arith in rw at (entry_at xs place e there)

pub entry_next : (entries : List Entry) (place : ℕ) (found : Option (Bor Entry)) (e : Bor Entry) → option_copied found ≡ slice_get entries place → found ≡ Some e
    → flat_map line (drop place entries) ≡ line e.now ++ flat_map line (drop (place + 1) entries)
entry_next entries place found e there is = entry_at entries place e.now (sym there ∙ ap option_copied is)

pub no_entries : (entries : List Entry) (place : ℕ) → length entries ≤ place → flat_map line (drop place entries) ≡ []
no_entries [] zero all = refl
no_entries [] (suc place) all = refl
no_entries (x ∷ xs) zero all = absurd (omega (arith, all))
no_entries (x ∷ xs) (suc place) all = no_entries xs place (omega (arith, all))

-- of a text, of so many bytes at most, so much was offered that others are left
pub record Left {O : Type 0} (offers : O → List ℕ → O → Type 0) (a : O) (whole others : List ℕ) (most : ℕ) (b : O) : Type 0 where
  pub text : List ℕ
  pub offered : offers a text b
  pub short : length text ≤ most
  pub left : text ++ others ≡ whole

module _ {O : Type 0} (offers : O → List ℕ → O → Type 0) where
  pub all_left : ((x : O) → offers x [] x) → (a : O) (whole : List ℕ) (most : ℕ) → Left offers a whole whole most a
  all_left nothing a whole most = record { text = []; offered = nothing a; short = omega arith; left = refl }

  pub fewer_left : ((x : O) (s : List ℕ) (y : O) (t : List ℕ) (z : O) → offers x s y → offers y t z → offers x (s ++ t) z)
      → (a : O) (whole others : List ℕ) (m : ℕ) (b : O) (part later : List ℕ) (n : ℕ) (c : O)
      → Left offers a whole others m b → others ≡ part ++ later → m + length part ≤ n → offers b part c → Left offers a whole later n c
  fewer_left joined a whole others m b part later n c so parts short offered = record {
    text = so.text ++ part;
    offered = joined a so.text b part c so.offered offered;
    short = omega (arith, length-append so.text part, so.short, short);
    left = append_assoc so.text part later ∙ ap (λ (xs : List ℕ). so.text ++ xs) (sym parts) ∙ so.left;
  }

  -- all of it was offered
  pub none_left : (a : O) (whole others : List ℕ) (m : ℕ) (b : O) → Left offers a whole others m b → others ≡ [] → offers a whole b × (length whole ≤ m)
  none_left a whole others m b so none =
      let is : so.text ≡ whole = sym (append-nil so.text) ∙ ap (λ (xs : List ℕ). so.text ++ xs) (sym none) ∙ so.left in
      (subst (λ (t : List ℕ). offers a t b) is so.offered, subst (λ (t : List ℕ). length t ≤ m) is so.short)
