-- Lemmas on the games of a tournament, over who sits where.
use Rattle.rt_queue.proofs.Common.{◌≡◌, ◌≢◌, ℕ, zero, suc, ◌+◌, ◌-◌, ◌*◌, ◌/◌, ◌<◌, ◌≤◌, ◌⊎◌, List, ◌∷◌, length, set, get_or, replicate, Option, None, Some, refl, sym, ap, subst, ◌∙◌, inl, inr, arith, cases_eq, get_or-set_same, get_or-set_other, key_at, IsLeast, NotAfter, seat_at, played_at}
use Rattle.std.proofs.Common.{◌%◌, ◌^◌}
use Rattle.std.proofs.lemmas.Bool.{cases_lt, eq-eqb, ne_eqb}
use Rattle.std.proofs.lemmas.List.{get_or-replicate}
use Rattle.std.proofs.lemmas.Nat.{and_mask}
use lib.Bits.{xor_add_and}
use Rattle.std.proofs.Common.{bit_xor, bit_and}
use Rattle.rt_queue.specs.Working.Games.{nobody, key_in, keys_from, IsEntrant, IsWon, AreWon, AreWonBut, IsTournament}
use Rattle.rt_queue.proofs.OrderLemmas.{NotAfter-refl, NotAfter-same, NotAfter-trans}
use Rattle.rt_queue.proofs.LeastLemmas.{key_at-below, some-injective}

-- a game whose three seats are as before stays won
won-kept : (entry next : ℕ → ℕ × ℕ) (seat : ℕ) → next seat ≡ entry seat → next (2 * seat) ≡ entry (2 * seat) → next (2 * seat + 1) ≡ entry (2 * seat + 1) →
    IsWon entry seat → IsWon next seat
won-kept entry next seat top left right won = record {
  one = elim won.one [ inl same ↦ inl (top ∙ (same ∙ sym left)) | inr same ↦ inr (top ∙ (same ∙ sym right)) ];
  left = NotAfter-same (entry seat) (next seat) (entry (2 * seat)) (next (2 * seat)) top left won.left;
  right = NotAfter-same (entry seat) (next seat) (entry (2 * seat + 1)) (next (2 * seat + 1)) top right won.right;
}

-- where that game is played, the one above it may have to be
pub won-higher : (entry next : ℕ → ℕ × ℕ) (leaves seat : ℕ) → ((other : ℕ) → other ≢ seat / 2 → next other ≡ entry other) → IsWon next (seat / 2) →
    AreWonBut entry leaves (seat / 2) → AreWonBut next leaves (seat / 2 / 2)
won-higher entry next leaves seat same won before other low high apart =
    elim (cases_eq other (seat / 2)) [
      | inl is ↦ subst (λ s. IsWon next s) (sym is) won
      | inr not ↦ won-kept entry next other (same other not) (same (2 * other) (λ h. apart (omega (arith, h))))
          (same (2 * other + 1) (λ h. apart (omega (arith, h)))) (before other low high not)
    ]

-- the one at the top comes first of all
top-first : (entry : ℕ → ℕ × ℕ) (leaves : ℕ) → AreWon entry leaves → (seat : ℕ) → 0 < seat → seat < 2 * leaves → NotAfter (entry 1) (entry seat)
top-first entry leaves won seat low high = go (suc seat) seat low high (omega arith)
  where
    below : (seat : ℕ) → 1 < seat → seat < 2 * leaves → NotAfter (entry (seat / 2)) (entry seat)
    below seat low high =
        let w : IsWon entry (seat / 2) = won (seat / 2) (omega arith) (omega arith) in
        elim (cases_eq seat (2 * (seat / 2))) [
          | inl even ↦ subst (λ s. NotAfter (entry (seat / 2)) (entry s)) (sym even) w.left
          | inr odd ↦ let is : 2 * (seat / 2) + 1 ≡ seat = omega (arith, odd) in
              subst (λ s. NotAfter (entry (seat / 2)) (entry s)) is w.right
        ]

    go : (steps : ℕ) → (seat : ℕ) → 0 < seat → seat < 2 * leaves → seat < steps → NotAfter (entry 1) (entry seat)
    go zero seat low high few = absurd (omega (arith, few))
    go (suc steps) seat low high few =
        elim (cases_eq seat 1) [
          | inl same ↦ subst (λ s. NotAfter (entry 1) (entry s)) (sym same) (NotAfter-refl (entry 1))
          | inr other ↦
              NotAfter-trans (entry 1) (entry (seat / 2)) (entry seat)
              (go steps (seat / 2) (omega (arith, other, low)) (omega arith) (omega (arith, other, low, few))) (below seat (omega (arith, other, low)) high)
        ]

-- a number's seat at the bottom, and the one who sits there sits at a seat as well
record ComesFrom (entry : ℕ → ℕ × ℕ) (leaves seat : ℕ) : Type 0 where
  pub number : ℕ
  pub below : number < leaves
  pub same : entry seat ≡ entry (leaves + number)

-- who sits at a seat comes from the bottom
comes-from : (entry : ℕ → ℕ × ℕ) (leaves : ℕ) → AreWon entry leaves → (seat : ℕ) → 0 < seat → seat < 2 * leaves → ComesFrom entry leaves seat
comes-from entry leaves won seat low high = go (2 * leaves) seat low high (omega arith)
  where
    higher : (seat next : ℕ) → entry seat ≡ entry next → ComesFrom entry leaves next → ComesFrom entry leaves seat
    higher seat next same deep = record { number = deep.number; below = deep.below; same = same ∙ deep.same }

    go : (steps : ℕ) → (seat : ℕ) → 0 < seat → seat < 2 * leaves → 2 * leaves ≤ seat + steps → ComesFrom entry leaves seat
    go zero seat low high few = absurd (omega (arith, few, high))
    go (suc steps) seat low high few =
        elim (cases_lt seat leaves) [
          | inl above ↦ elim (won seat low above).one [
            | inl left ↦ higher seat (2 * seat) left (go steps (2 * seat) (omega arith) (omega arith) (omega (arith, few, low)))
            | inr right ↦ higher seat (2 * seat + 1) right (go steps (2 * seat + 1) (omega arith) (omega arith) (omega (arith, few, low)))
          ]
          | inr bottom ↦
              let is : seat ≡ leaves + (seat - leaves) = omega (arith, bottom) in
              record { number = seat - leaves; below = omega (arith, high, bottom); same = ap entry is }
        ]

-- ---- a game

-- the seat beside another one
pub record IsBeside (seat other : ℕ) : Type 0 where
  pub half : other / 2 ≡ seat / 2
  pub apart : other ≢ seat

pub beside : (seat : ℕ) → IsBeside seat (bit_xor seat 1)
beside seat =
    let sum : bit_xor seat 1 + bit_and seat 1 * 2 ≡ seat + 1 = xor_add_and seat 1 in
    let odd : bit_and seat 1 ≡ seat % 2 = and_mask seat 1 in
    record { half = omega (arith, sum, odd); apart = λ same. absurd (omega (arith, sum, odd, same)) }

-- the one who won sits right above the two
pub won-above : (entry : ℕ → ℕ × ℕ) (seat other : ℕ) → IsBeside seat other → (entry (seat / 2) ≡ entry seat) ⊎ (entry (seat / 2) ≡ entry other) →
    NotAfter (entry (seat / 2)) (entry seat) → NotAfter (entry (seat / 2)) (entry other) → IsWon entry (seat / 2)
won-above entry seat other beside one first second =
    elim (cases_eq seat (2 * (seat / 2))) [
      | inl even ↦
          let is : other ≡ 2 * (seat / 2) + 1 = omega (arith, even, beside.half, beside.apart) in
          record {
            one = elim one [ inl same ↦ inl (same ∙ ap entry even) | inr same ↦ inr (same ∙ ap entry is) ];
            left = subst (λ s. NotAfter (entry (seat / 2)) (entry s)) even first;
            right = subst (λ s. NotAfter (entry (seat / 2)) (entry s)) is second;
          }
      | inr not ↦
          let odd : seat ≡ 2 * (seat / 2) + 1 = omega (arith, not) in
          let is : other ≡ 2 * (seat / 2) = omega (arith, odd, beside.half, beside.apart) in
          record {
            one = elim one [ inl same ↦ inr (same ∙ ap entry odd) | inr same ↦ inl (same ∙ ap entry is) ];
            left = subst (λ s. NotAfter (entry (seat / 2)) (entry s)) is second;
            right = subst (λ s. NotAfter (entry (seat / 2)) (entry s)) odd first;
          }
    ]

-- ---- seats in a row

pub played-same : (seat : ℕ) (winner : ℕ × ℕ) (entry : ℕ → ℕ × ℕ) → played_at seat winner entry seat ≡ winner
played-same seat winner entry = rw (eq-eqb seat seat refl) refl

pub played-other : (seat : ℕ) (winner : ℕ × ℕ) (entry : ℕ → ℕ × ℕ) (other : ℕ) → other ≢ seat → played_at seat winner entry other ≡ entry other
played-other seat winner entry other apart = rw (ne_eqb other seat apart) refl

-- below the top, the row says who sits there
seat-below : (first : ℕ × ℕ) (seats : List (ℕ × ℕ)) (seat : ℕ) → seat ≢ 1 → seat_at first seats seat ≡ get_or seats seat (0, 0)
seat-below first seats seat low = played-other 1 first (λ s. get_or seats s (0, 0)) seat low

-- the winner is written down, and the play goes on right above: the others sit where they sat
pub play-goes-on : (first : ℕ × ℕ) (seats : List (ℕ × ℕ)) (seat : ℕ) (winner next : ℕ × ℕ) → 1 < seat → seat < length seats → (other : ℕ) → other ≢ seat / 2 →
    played_at (seat / 2) next (seat_at first (set seats seat winner)) other ≡ played_at seat winner (seat_at first seats) other
play-goes-on first seats seat winner next low high other apart =
    played-other (seat / 2) next (seat_at first (set seats seat winner)) other apart
    ∙ elim (cases_eq other seat) [
      | inl same ↦
          subst (λ s. seat_at first (set seats seat winner) s ≡ played_at seat winner (seat_at first seats) s) (sym same)
          (seat-below first (set seats seat winner) seat (λ h. absurd (omega (arith, h, low))) ∙ get_or-set_same seats seat winner (0, 0) high
          ∙ sym (played-same seat winner (seat_at first seats)))
      | inr not ↦ elim (cases_eq other 1) [
        | inl top ↦
            subst (λ s. seat_at first (set seats seat winner) s ≡ played_at seat winner (seat_at first seats) s) (sym top)
            (played-same 1 first (λ s. get_or (set seats seat winner) s (0, 0))
            ∙ sym (played-other seat winner (seat_at first seats) 1 (λ h. absurd (omega (arith, h, low))) ∙ played-same 1 first (λ s. get_or seats s (0, 0))))
        | inr below ↦
            seat-below first (set seats seat winner) other below ∙ get_or-set_other seats seat other winner (0, 0) not
            ∙ sym (played-other seat winner (seat_at first seats) other not ∙ seat-below first seats other below)
      ]
    ]

-- the next game is won by the one of the two that doesn't come after the other
pub decided : (first : ℕ × ℕ) (seats : List (ℕ × ℕ)) (seat : ℕ) (winner rival next : ℕ × ℕ) → 1 < seat → seat < length seats →
    rival ≡ get_or (set seats seat winner) (bit_xor seat 1) (0, 0) →
    ((next ≡ winner) × NotAfter winner rival) ⊎ ((next ≡ rival) × NotAfter rival winner) →
    IsWon (played_at (seat / 2) next (seat_at first (set seats seat winner))) (seat / 2)
decided first seats seat winner rival next low high is one =
    let new = set seats seat winner in
    let other = bit_xor seat 1 in
    let entry : ℕ → ℕ × ℕ = played_at (seat / 2) next (seat_at first new) in
    let side : IsBeside seat other = beside seat in
    let top : entry (seat / 2) ≡ next = played-same (seat / 2) next (seat_at first new) in
    let here : entry seat ≡ winner =
    played-other (seat / 2) next (seat_at first new) seat (λ h. absurd (omega (arith, h, low)))
    ∙ (seat-below first new seat (λ h. absurd (omega (arith, h, low))) ∙ get_or-set_same seats seat winner (0, 0) high) in
    let there : entry other ≡ rival =
    played-other (seat / 2) next (seat_at first new) other (λ h. absurd (omega (arith, h, low, side.half)))
    ∙ (seat-below first new other (λ h. absurd (omega (arith, h, low, side.half))) ∙ sym is) in
    elim one [
      | inl stays ↦
          won-above entry seat other side (inl (top ∙ (stays.0 ∙ sym here)))
          (NotAfter-same winner (entry (seat / 2)) winner (entry seat) (top ∙ stays.0) here (NotAfter-refl winner))
          (NotAfter-same winner (entry (seat / 2)) rival (entry other) (top ∙ stays.0) there stays.1)
      | inr goes ↦
          won-above entry seat other side (inr (top ∙ (goes.0 ∙ sym there)))
          (NotAfter-same rival (entry (seat / 2)) winner (entry seat) (top ∙ goes.0) here goes.1)
          (NotAfter-same rival (entry (seat / 2)) rival (entry other) (top ∙ goes.0) there (NotAfter-refl rival))
    ]

-- the winner of the last game sits at the top
top-taken : (first winner : ℕ × ℕ) (seats : List (ℕ × ℕ)) (seat other : ℕ) → seat ≡ 1 →
    seat_at winner seats other ≡ played_at seat winner (seat_at first seats) other
top-taken first winner seats seat other is =
    subst (λ s. seat_at winner seats other ≡ played_at s winner (seat_at first seats) other) (sym is)
    (elim (cases_eq other 1) [
      | inl top ↦ rw (eq-eqb other 1 top) refl
      | inr below ↦ rw (ne_eqb other 1 below) refl
    ])

pub won-played : (first winner : ℕ × ℕ) (seats : List (ℕ × ℕ)) (leaves seat : ℕ) → seat ≡ 1 →
    AreWonBut (played_at seat winner (seat_at first seats)) leaves (seat / 2) → AreWon (seat_at winner seats) leaves
won-played first winner seats leaves seat is won other low high =
    won-kept (played_at seat winner (seat_at first seats)) (seat_at winner seats) other (top-taken first winner seats seat other is)
    (top-taken first winner seats seat (2 * other) is) (top-taken first winner seats seat (2 * other + 1) is)
    (won other low high (λ h. absurd (omega (arith, h, is, low))))

-- ---- the keys

pub length-keys_from : (entry : ℕ → ℕ × ℕ) (base count : ℕ) → length (keys_from entry base count) ≡ count
length-keys_from entry base zero = refl
length-keys_from entry base (suc count) = ap suc (length-keys_from entry (base + 1) count)

pub key_at-keys_from : (entry : ℕ → ℕ × ℕ) (base count number : ℕ) → number < count → key_at (keys_from entry base count) number ≡ key_in (entry (base + number))
key_at-keys_from entry base zero number below = absurd (omega (arith, below))
key_at-keys_from entry base (suc count) zero below =
    let here : base ≡ base + 0 = omega arith in
    ap (λ s. key_in (entry s)) here
key_at-keys_from entry base (suc count) (suc number) below =
    let here : base + 1 + number ≡ base + suc number = omega arith in
    key_at-keys_from entry (base + 1) count number (omega (arith, below)) ∙ ap (λ s. key_in (entry s)) here

keys-same : (entry next : ℕ → ℕ × ℕ) (base count : ℕ) → ((seat : ℕ) → base ≤ seat → seat < base + count → next seat ≡ entry seat) →
    keys_from next base count ≡ keys_from entry base count
keys-same entry next base zero same = refl
keys-same entry next base (suc count) same =
    rw (same base (omega arith) (omega arith))
    (ap (λ keys. key_in (entry base) ∷ keys)
    (keys-same entry next (base + 1) count (λ seat low high. same seat (omega (arith, low)) (omega (arith, high)))))

-- another one at a number's seat
pub keys-set : (entry next : ℕ → ℕ × ℕ) (base count number seat : ℕ) (x : ℕ × ℕ) → number < count → seat ≡ base + number →
    ((other : ℕ) → base ≤ other → other < base + count → next other ≡ played_at seat x entry other) →
    keys_from next base count ≡ set (keys_from entry base count) number (key_in x)
keys-set entry next base zero number seat x below at same = absurd (omega (arith, below))
keys-set entry next base (suc count) zero seat x below at same =
    let here : base ≡ seat = omega (arith, at) in
    let first : next base ≡ x = same base (omega arith) (omega arith) ∙ (ap (λ s. played_at seat x entry s) here ∙ played-same seat x entry) in
    rw first
    (ap (λ keys. key_in x ∷ keys)
    (keys-same entry next (base + 1) count
    (λ other low high. same other (omega (arith, low)) (omega (arith, high)) ∙ played-other seat x entry other (λ h. absurd (omega (arith, h, here, low))))))
keys-set entry next base (suc count) (suc number) seat x below at same =
    let first : next base ≡ entry base = same base (omega arith) (omega arith) ∙ played-other seat x entry base (λ h. absurd (omega (arith, h, at))) in
    rw first
    (ap (λ keys. key_in (entry base) ∷ keys)
    (keys-set entry next (base + 1) count number seat x (omega (arith, below)) (omega (arith, at))
    (λ other low high. same other (omega (arith, low)) (omega (arith, high)))))

pub keys-none : (entry : ℕ → ℕ × ℕ) (base count : ℕ) → ((seat : ℕ) → base ≤ seat → seat < base + count → entry seat ≡ nobody) →
    keys_from entry base count ≡ replicate count None
keys-none entry base zero none = refl
keys-none entry base (suc count) none =
    rw (none base (omega arith) (omega arith))
    (ap (λ (keys : List (Option ℕ)). None ∷ keys) (keys-none entry (base + 1) count (λ seat low high. none seat (omega (arith, low)) (omega (arith, high)))))

-- the key that a number has among these
pub key-there : (entry : ℕ → ℕ × ℕ) (leaves capacity number : ℕ) (now : List (Option ℕ)) (x : ℕ × ℕ) → keys_from entry leaves capacity ≡ now →
    number < capacity → x ≡ entry (leaves + number) → key_in x ≡ key_at now number
key-there entry leaves capacity number now x is low same =
    ap key_in same ∙ (sym (key_at-keys_from entry leaves capacity number low) ∙ ap (λ (keys : List (Option ℕ)). key_at keys number) is)

-- there are as many as there are numbers
pub below-capacity : (entry : ℕ → ℕ × ℕ) (leaves capacity number : ℕ) (now : List (Option ℕ)) → keys_from entry leaves capacity ≡ now →
    number < length now → number < capacity
below-capacity entry leaves capacity number now is low =
    omega (arith, low, length-keys_from entry leaves capacity, ap (λ (keys : List (Option ℕ)). length keys) is)

-- ---- the least one

-- a present number's seat
record IsSeated (entry : ℕ → ℕ × ℕ) (leaves capacity number key : ℕ) : Type 0 where
  pub below : number < capacity
  pub same : entry (leaves + number) ≡ (key, number)

pub key_in-present : (x : ℕ × ℕ) → x.1 ≢ 4294967295 → key_in x ≡ Some x.0
key_in-present x some = rw (ne_eqb x.1 4294967295 some) refl

key_in-nobody : (x : ℕ × ℕ) → x ≡ nobody → key_in x ≡ None
key_in-nobody x is = ap key_in is

none_is_not_some : (k : ℕ) → ◌≡◌ {A = Option ℕ} None (Some k) → ⊥
none_is_not_some k h = cc

pair-is : (x : ℕ × ℕ) (key number : ℕ) → x.0 ≡ key → x.1 ≡ number → x ≡ (key, number)
pair-is (a, b) key number p q = cc

-- who has a key sits at its seat
seated : (entry : ℕ → ℕ × ℕ) (seats leaves capacity number key : ℕ) → IsTournament entry seats leaves capacity →
    key_at (keys_from entry leaves capacity) number ≡ Some key → IsSeated entry leaves capacity number key
seated entry seats leaves capacity number key is there =
    let keys = keys_from entry leaves capacity in
    let low : number < capacity = omega (arith, key_at-below keys number key there, length-keys_from entry leaves capacity) in
    let here : key_in (entry (leaves + number)) ≡ Some key = sym (key_at-keys_from entry leaves capacity number low) ∙ there in
    elim (is.bottom number (omega (arith, low, is.room))) [
      | inl nobody_there ↦ absurd (none_is_not_some key (sym (key_in-nobody (entry (leaves + number)) nobody_there) ∙ here))
      | inr one ↦
          let few = is.few in
          let room = is.room in
          let some : (entry (leaves + number)).1 ≢ 4294967295 = λ h. absurd (omega (arith, h, one.0, low, room, few)) in
          let same : (entry (leaves + number)).0 ≡ key = some-injective (entry (leaves + number)).0 key (sym (key_in-present (entry (leaves + number)) some) ∙ here) in
          record { below = low; same = pair-is (entry (leaves + number)) key number same one.0 }
    ]

-- where the one at the top stands for no key, none is there
pub top-nobody : (entry : ℕ → ℕ × ℕ) (seats leaves capacity : ℕ) → IsTournament entry seats leaves capacity → (entry 1).1 ≡ 4294967295 →
    IsLeast (keys_from entry leaves capacity) None
top-nobody entry seats leaves capacity is top number = go (key_at (keys_from entry leaves capacity) number) refl
  where
    go : (key : Option ℕ) → key_at (keys_from entry leaves capacity) number ≡ key → key_at (keys_from entry leaves capacity) number ≡ None
    go None there = there
    go (Some key) there =
        let here : IsSeated entry leaves capacity number key = seated entry seats leaves capacity number key is there in
        let few = is.few in
        let room = is.room in
        let low = here.below in
        let origin : ComesFrom entry leaves 1 = comes-from entry leaves is.won 1 (omega arith) (omega (arith, is.some)) in
        let deep = origin.below in
        let order : NotAfter (entry 1) (key, number) =
        subst (λ x. NotAfter (entry 1) x) here.same (top-first entry leaves is.won (leaves + number) (omega (arith, is.some)) (omega (arith, low, room))) in
        elim (is.bottom origin.number origin.below) [
          | inl nobody_there ↦
              let zero_key : (entry 1).0 ≡ 18446744073709551615 = ap (λ (x : ℕ × ℕ). x.0) (origin.same ∙ nobody_there) in
              elim (is.bottom number (omega (arith, low, room))) [
                | inl none ↦ absurd (omega (arith, ap (λ (x : ℕ × ℕ). x.1) (sym here.same ∙ none), low, room, few))
                | inr one ↦
                    let bound : key < 2 ^ 64 = subst (λ (x : ℕ × ℕ). x.0 < 2 ^ 64) here.same one.1 in
                    absurd (omega (arith, order.by_key, order.by_number, zero_key, top, bound, low, room, few))
              ]
          | inr one ↦
              let same : (entry 1).1 ≡ origin.number = ap (λ (x : ℕ × ℕ). x.1) origin.same ∙ one.0 in
              absurd (omega (arith, same, top, deep, few))
        ]

-- else it is the least one
pub top-least : (entry : ℕ → ℕ × ℕ) (seats leaves capacity : ℕ) → IsTournament entry seats leaves capacity → (entry 1).1 ≢ 4294967295 →
    IsLeast (keys_from entry leaves capacity) (Some (entry 1))
top-least entry seats leaves capacity is some =
    let origin : ComesFrom entry leaves 1 = comes-from entry leaves is.won 1 (omega arith) (omega (arith, is.some)) in
    let m = origin.number in
    let there : key_in (entry (leaves + m)) ≡ Some (entry 1).0 = ap key_in (sym origin.same) ∙ key_in-present (entry 1) some in
    let low : m < capacity = elim (cases_lt m capacity) [
      | inl below ↦ below
      | inr past ↦ absurd (none_is_not_some (entry 1).0 (sym (key_in-nobody (entry (leaves + m)) (is.rest m past origin.below)) ∙ there))
    ] in
    let same : (entry 1).1 ≡ m = elim (is.bottom m origin.below) [
      | inl none ↦ absurd (none_is_not_some (entry 1).0 (sym (key_in-nobody (entry (leaves + m)) none) ∙ there))
      | inr one ↦ ap (λ (x : ℕ × ℕ). x.1) origin.same ∙ one.0
    ] in (
      ap (key_at (keys_from entry leaves capacity)) same ∙ (key_at-keys_from entry leaves capacity m low ∙ there),
      λ number key has.
          let here : IsSeated entry leaves capacity number key = seated entry seats leaves capacity number key is has in
          let below = here.below in
          subst (λ x. NotAfter (entry 1) x) here.same
          (top-first entry leaves is.won (leaves + number) (omega (arith, is.some)) (omega (arith, below, is.room))),
    )

pub key_in-absent : (x : ℕ × ℕ) → x.1 ≡ 4294967295 → key_in x ≡ None
key_in-absent x none = rw (eq-eqb x.1 4294967295 none) refl

-- ---- a number's entry changes

-- what comes of it
pub record IsReseated (next : ℕ → ℕ × ℕ) (count leaves capacity number : ℕ) (now : List (Option ℕ)) (x : ℕ × ℕ) : Type 0 where
  pub tournament : IsTournament next count leaves capacity
  pub keys : keys_from next leaves capacity ≡ set now number (key_in x)

pub reseated : (entry next : ℕ → ℕ × ℕ) (seats count leaves capacity number : ℕ) (now : List (Option ℕ)) (x : ℕ × ℕ) → IsTournament entry seats leaves capacity →
    keys_from entry leaves capacity ≡ now → count ≡ seats → number < length now → IsEntrant number x →
    ((seat : ℕ) → seats ≤ 2 * seat → seat < seats → next seat ≡ played_at (leaves + number) x entry seat) →
    (AreWon entry (seats / 2) → AreWon next (seats / 2)) → IsReseated next count leaves capacity number now x
reseated entry next seats count leaves capacity number now x is view same number_below entrant sits won = record {
  tournament = record {
    some = is.some;
    few = is.few;
    room = is.room;
    double = same ∙ is.double;
    bottom = λ n below. elim (cases_eq n number) [
      | inl this ↦ subst (λ m. IsEntrant m (next (leaves + m))) (sym this)
          (subst (IsEntrant number) (sym (at number (omega (arith, low, is.room)) ∙ played-same (leaves + number) x entry)) entrant)
      | inr other ↦ subst (IsEntrant n) (sym (at n below ∙ elsewhere n other)) (is.bottom n below)
    ];
    rest = λ n past below. at n below ∙ (elsewhere n (λ h. absurd (omega (arith, h, past, low))) ∙ is.rest n past below);
    won = subst (AreWon next) half (won (subst (AreWon entry) (sym half) is.won));
  };
  keys = keys-set entry next leaves capacity number (leaves + number) x low refl
      (λ seat from to. sits seat (omega (arith, from, is.double)) (omega (arith, to, is.double, is.room)))
      ∙ ap (λ (keys : List (Option ℕ)). set keys number (key_in x)) view;
}
  where
    low : number < capacity
    low = below-capacity entry leaves capacity number now view number_below

    half : seats / 2 ≡ leaves
    half = omega (arith, is.double)

    at : (n : ℕ) → n < leaves → next (leaves + n) ≡ played_at (leaves + number) x entry (leaves + n)
    at n below = sits (leaves + n) (omega (arith, is.double)) (omega (arith, below, is.double))

    elsewhere : (n : ℕ) → n ≢ number → played_at (leaves + number) x entry (leaves + n) ≡ entry (leaves + n)
    elsewhere n other = played-other (leaves + number) x entry (leaves + n) (λ h. other (omega (arith, h)))

-- ---- a row in which nobody sits

pub nobody-sits : (seats : List (ℕ × ℕ)) (count seat : ℕ) → seats ≡ replicate count nobody → seat < count → seat_at nobody seats seat ≡ nobody
nobody-sits seats count seat is below =
    elim (cases_eq seat 1) [
      | inl top ↦ rw (eq-eqb seat 1 top) refl
      | inr low ↦ rw (ne_eqb seat 1 low, is) (get_or-replicate count seat nobody (0, 0) below)
    ]
