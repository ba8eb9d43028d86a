-- Texts that are put at places of a row of bytes, one behind the other.
use Rattle.rt_trace.proofs.Common.{◌≡◌, ℕ, ◌+◌, ◌≤◌, ◌/◌, ◌%◌, ◌<◌, List, [], ◌∷◌, ◌++◌, codes, decimal, refl, length, take, ap, sym, ◌∙◌, arith, append_assoc, length-append, length-take-le, drop, decimal_digit, hex, line, Placed, rest_text}
use Rattle.std.proofs.Common.{◌^◌, take-add, take-take, take_at, drop_at}
use Rattle.std.proofs.lemmas.Fmt.{decimal_step}
use Rattle.rt_history.specs.Entries.{start_of}
use Rattle.rt_history.specs.declared.record.Entry.{Entry}
use Rattle.rt_history.specs.declared.record.Entry.TheVariants.{Busy, Idle}
use Rattle.rt_trace.specs.HistoryText.{word_text, outcome_text}
use Rattle.rt_trace.specs.Working.Decimals.{pair, four}

-- a second text begins where the first ended
pub Placed-then : {a b c xs ys : List ℕ} {i j k : ℕ} → Placed a b i xs j → Placed b c j ys k → Placed a c i (xs ++ ys) k
Placed-then {a} {b} {c} {xs} {ys} {i} p q = record {
  bytes = q.bytes ∙ ap (λ l. l ++ ys) p.bytes ∙ append_assoc (take i a) xs ys;
  moved = omega (arith, p.moved, q.moved, length-append xs ys);
  same = q.same ∙ p.same;
}

-- only the first n bytes of a text count
pub Placed-front : {a b xs : List ℕ} {i j : ℕ} (n : ℕ) → i ≤ length a → n ≤ length xs → Placed a b i xs j → Placed a b i (take n xs) (i + n)
Placed-front {a} {b} {xs} {i} {j} n within few p =
    let front = length-take-le i a within in
    record {
      bytes = sym (take-take (i + n) j b (omega (arith, p.moved))) ∙ ap (take (i + n)) p.bytes ∙ take-add i n (take i a ++ xs)
          ∙ (λ k. take_at (take i a) xs i front k ++ take n (drop_at (take i a) xs i front k));
      moved = omega (arith, length-take-le n xs few);
      same = p.same;
    }

-- the last two digits of a number that has more
pub last_two : (n : ℕ) → 100 ≤ n → n < 2 ^ 64 → (decimal (n / 100) ++ (48 + n / 10 % 10) ∷ []) ++ (48 + n % 10) ∷ [] ≡ decimal n
last_two n large small =
    let hundreds : n / 10 / 10 ≡ n / 100 = omega arith in
    rw (decimal_step n (omega arith) small, decimal_step (n / 10) (omega arith) (omega arith), hundreds) refl

-- the same, as the digits of the number of hundreds and of what is left
pub last_pair : (n : ℕ) → 100 ≤ n → n < 2 ^ 64 → decimal (n / 100) ++ pair (n % 100) ≡ decimal n
last_pair n large small =
    let tens : n % 100 / 10 ≡ n / 10 % 10 = omega arith in
    let ones : n % 100 % 10 ≡ n % 10 = omega arith in
    rw (tens, ones) (sym (append_assoc (decimal (n / 100)) ((48 + n / 10 % 10) ∷ []) ((48 + n % 10) ∷ []))) ∙ last_two n large small

-- and the last four
pub last_four : (n : ℕ) → 10000 ≤ n → n < 2 ^ 64 → decimal (n / 10000) ++ four (n % 10000) ≡ decimal n
last_four n large small =
    let front : n / 100 / 100 ≡ n / 10000 = omega arith in
    let high : n % 10000 / 100 ≡ n / 100 % 100 = omega arith in
    let low : n % 10000 % 100 ≡ n % 100 = omega arith in
    let hundreds : decimal (n / 10000) ++ pair (n / 100 % 100) ≡ decimal (n / 100) = rw front at (last_pair (n / 100) (omega arith) (omega arith)) in
    rw (high, low) (sym (append_assoc (decimal (n / 10000)) (pair (n / 100 % 100)) (pair (n % 100))))
    ∙ ap (λ (xs : List ℕ). xs ++ pair (n % 100)) hundreds ∙ last_pair n (omega arith) small

-- and the last eight
pub last_eight : (n : ℕ) → 100000000 ≤ n → n < 2 ^ 64
    → (decimal (n / 100000000) ++ four (n % 100000000 / 10000)) ++ four (n % 100000000 % 10000) ≡ decimal n
last_eight n large small =
    let front : n / 10000 / 10000 ≡ n / 100000000 = omega arith in
    let high : n % 100000000 / 10000 ≡ n / 10000 % 10000 = omega arith in
    let low : n % 100000000 % 10000 ≡ n % 10000 = omega arith in
    let upper : decimal (n / 100000000) ++ four (n / 10000 % 10000) ≡ decimal (n / 10000) = rw front at (last_four (n / 10000) (omega arith) (omega arith)) in
    rw (high, low) (ap (λ (xs : List ℕ). xs ++ four (n % 10000)) upper) ∙ last_four n (omega arith) small

-- so a number has two digits more than its hundreds
pub length-last_two : (n : ℕ) → 100 ≤ n → n < 2 ^ 64 → length (decimal n) ≡ length (decimal (n / 100)) + 2
length-last_two n large small =
    let front = decimal (n / 100) in
    omega (
      arith,
      ap (λ (xs : List ℕ). length xs) (last_two n large small),
      length-append (front ++ (48 + n / 10 % 10) ∷ []) ((48 + n % 10) ∷ []),
      length-append front ((48 + n / 10 % 10) ∷ []),
    )

-- the digits of a number that has two
pub two_digits : (n : ℕ) → 10 ≤ n → n < 100 → (48 + n / 10) ∷ (48 + n % 10) ∷ [] ≡ decimal n
two_digits n large small = rw (decimal_step n large (omega arith), decimal_digit (n / 10) (omega arith)) refl

-- sixteen digits, as those of two words
pub halves : (first second : ℕ) (digits : List ℕ) → digits ≡ hex 8 first ++ hex 8 second
    → (take 8 digits ++ 32 ∷ []) ++ take 8 (take 8 (drop 8 digits)) ≡ (hex 8 first ++ 32 ∷ []) ++ hex 8 second
unfolding hex
halves first second digits e = rw e refl

-- eight digits, and eight hyphens for the word that isn't there
pub unread : (pc : ℕ) (digits : List ℕ) → digits ≡ hex 8 pc
    → (take 8 digits ++ 32 ∷ []) ++ take 8 (codes "--------") ≡ hex 8 pc ++ 32 ∷ [] ++ codes "--------"
unfolding hex
unread pc digits e = rw e refl

-- the parts of a line, grouped as they are put
abbrev pub parts_of : List ℕ → List ℕ → List ℕ → List ℕ → List ℕ
parts_of tick task pc word = ((tick ++ (32 ∷ (task ++ 32 ∷ []))) ++ ((pc ++ 32 ∷ []) ++ word)) ++ (32 ∷ 110 ∷ 101 ∷ 120 ∷ 116 ∷ 10 ∷ [])

pub line_parts : (tick task pc word : List ℕ) → parts_of tick task pc word
    ≡ ((((((((tick ++ 32 ∷ []) ++ task) ++ 32 ∷ []) ++ pc) ++ 32 ∷ []) ++ word) ++ 32 ∷ []) ++ (110 ∷ 101 ∷ 120 ∷ 116 ∷ [])) ++ 10 ∷ []
line_parts tick task pc word = simp append_assoc

regroup : (tick task pc word outcome : List ℕ) → tick ++ ((((32 ∷ (task ++ 32 ∷ [])) ++ (pc ++ (32 ∷ word))) ++ (32 ∷ outcome)) ++ 10 ∷ [])
    ≡ ((((((((tick ++ 32 ∷ []) ++ task) ++ 32 ∷ []) ++ pc) ++ 32 ∷ []) ++ word) ++ 32 ∷ []) ++ outcome) ++ 10 ∷ []
regroup tick task pc word outcome = simp append_assoc

regroup_idle : (tick n : List ℕ) → tick ++ ((codes " idle " ++ n) ++ 10 ∷ []) ≡ ((tick ++ codes " idle ") ++ n) ++ 10 ∷ []
regroup_idle tick n = simp append_assoc

-- a line is its tick and what follows
pub line_from : (entry : Entry) → decimal (start_of entry) ++ rest_text entry ≡ line entry
unfolding hex
line_from (Busy t rec) = regroup (decimal t) (decimal rec.task) (hex 8 rec.pc) (word_text rec.word) (outcome_text rec.outcome)
line_from (Idle t n) = regroup_idle (decimal t) (decimal n)
