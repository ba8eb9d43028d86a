-- The first server of the least deadline is the one that spends the next tick.
use Rattle.rt_laws.proofs.Common.{◌≡◌, ℕ, zero, suc, ◌<◌, ◌≤◌, nat_lt, Bool, List, [], ◌∷◌, map, length, get_or, Some, refl, sym, ◌∙◌, inl, inr, arith, IsFirstBest, cases_lt, ltb-false, Account, key_at, IsLeast, deadline, next_server}
use Rattle.std.proofs.lemmas.Bool.{ltb-true}
use Rattle.rt_queue.specs.Order.{NotAfter}
use Rattle.rt_queue.proofs.LeastLemmas.{least_from-is_least}

-- a server goes before another whose deadline is later
abbrev pub goes_before : Account → Account → Bool
goes_before a b = nat_lt a.d b.d

-- the key of each number is the deadline of a server
key-deadline : (accounts : List Account) (i : ℕ) (a : Account) → i < length accounts → key_at (map deadline accounts) i ≡ Some (get_or accounts i a).d
key-deadline [] i a below = absurd (omega arith)
key-deadline (x ∷ accounts) zero a below = refl
key-deadline (x ∷ accounts) (suc i) a below = key-deadline accounts i a (omega arith)

key-below : (accounts : List Account) (i key : ℕ) → key_at (map deadline accounts) i ≡ Some key → i < length accounts
key-below [] i key there = absurd cc
key-below (x ∷ accounts) zero key there = omega arith
key-below (x ∷ accounts) (suc i) key there = let below = key-below accounts i key there in omega arith

none_earlier : (accounts : List Account) (n : ℕ) (a : Account) → IsFirstBest goes_before accounts (length accounts) n → (i key : ℕ)
    → key_at (map deadline accounts) i ≡ Some key → NotAfter ((get_or accounts n a).d, n) (key, i)
none_earlier accounts n a best i key there =
    let below = key-below accounts i key there in
    let same : Some (get_or accounts i a).d ≡ Some key = sym (key-deadline accounts i a below) ∙ there in
    let is : (get_or accounts i a).d ≡ key = cc in
    let low : (get_or accounts n a).d ≤ (get_or accounts i a).d = ltb-false _ _ (best.1 i a below) in
    elim (cases_lt i n) [
      | inl before ↦
          let less : (get_or accounts n a).d < (get_or accounts i a).d = ltb-true _ _ (best.2 i a before) in
          record { by_key = omega arith; by_number = λ tie. absurd (omega arith) }
      | inr later ↦ record { by_key = omega arith; by_number = λ tie. later }
    ]

pub next-first : (accounts : List Account) (n : ℕ) (a : Account) → IsFirstBest goes_before accounts (length accounts) n → next_server accounts ≡ Some ((get_or accounts n a).d, n)
next-first accounts n a best =
    let least : IsLeast (map deadline accounts) (Some ((get_or accounts n a).d, n)) = (key-deadline accounts n a best.0, none_earlier accounts n a best) in
    sym (least_from-is_least (map deadline accounts) (Some ((get_or accounts n a).d, n)) least)
