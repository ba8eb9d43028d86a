-- A history in which each record is what the ones before it name is the legal one, and the legal one is such a history.
use Rattle.std.proofs.Common.{◌≡◌, ℕ, zero, suc, ◌+◌, ◌-◌, ◌<◌, List, [], ◌∷◌, ◌++◌, length, length-append, append_assoc, take, slice_get, Some, refl, sym, ap, subst, ◌∙◌, arith}
use Rattle.std.proofs.lemmas.List.{append-nil, take_at}
use Rattle.std.proofs.lemmas.Option.{slice_get_within}
use Rattle.rt_image.specs.SystemFile.{TaskSet}
use Rattle.rt_history.specs.declared.record.Record.{Record}
use Rattle.rt_history.specs.Legal.{record_at, stands_after, legal, state_at}
use Rattle.rt_history.proofs.Steps.{length-legal, legal_next, legal-then}
use Rattle.rt_rows.specs.OneHistory.{IsLegal}

-- what stands behind the first n
slice_get-at : (p : List Record) (r : Record) (q : List Record) (n : ℕ) → length p ≡ n → slice_get (p ++ r ∷ q) n ≡ Some r
slice_get-at [] r q zero len = refl
slice_get-at [] r q (suc n) len = absurd (omega (arith, len))
slice_get-at (x ∷ p) r q zero len = absurd (omega (arith, len))
slice_get-at (x ∷ p) r q (suc n) len = slice_get-at p r q n (omega (arith, len))

-- a beginning that is legal goes on with the rest
goes-on : (set : TaskSet) (before after : List Record) → before ≡ legal set (length before) → IsLegal set (before ++ after)
    → before ++ after ≡ legal set (length (before ++ after))
unfolding state_at
goes-on set before [] begins each = rw (append-nil before) begins
goes-on set before (r ∷ after) begins each =
    let n = length before in
    let here : r ≡ record_at (stands_after set n (take n (before ++ r ∷ after))) = each n r (slice_get-at before r after n refl) in
    let it : r ≡ record_at (state_at set n) =
    here ∙ ap (λ h. record_at (stands_after set n h)) (take_at before (r ∷ after) n refl ∙ begins) in
    let more : before ++ r ∷ [] ≡ legal set (n + 1) =
    ap (λ x. before ++ x ∷ []) it ∙ ap (λ h. h ++ record_at (state_at set n) ∷ []) begins ∙ sym (legal_next set n) in
    let count : n + 1 ≡ length (before ++ r ∷ []) = omega (arith, length-append before (r ∷ [])) in
    let joined : (before ++ r ∷ []) ++ after ≡ before ++ r ∷ after = append_assoc before (r ∷ []) after in
    subst (λ h. h ≡ legal set (length h)) joined
    (goes-on set (before ++ r ∷ []) after (more ∙ ap (legal set) count) (subst (IsLegal set) (sym joined) each))

pub one_legal : (set : TaskSet) (history : List Record) → IsLegal set history → history ≡ legal set (length history)
unfolding legal
one_legal set history each = goes-on set [] history refl each

-- a record of a history that goes on from there
record-of : (set : TaskSet) (u k : ℕ) (r : Record) → slice_get (legal set (u + 1 + k)) u ≡ Some r
    → r ≡ record_at (stands_after set u (take u (legal set (u + 1 + k))))
unfolding state_at
record-of set u k r there =
    let x = record_at (state_at set u) in
    let whole = legal-then set u k in
    let len = length-legal set u in
    let found : slice_get (legal set (u + 1 + k)) u ≡ Some x = ap (λ h. slice_get h u) whole.1 ∙ slice_get-at (legal set u) x whole.0 u len in
    let before : legal set u ≡ take u (legal set (u + 1 + k)) =
    sym (ap (take u) whole.1 ∙ take_at (legal set u) (x ∷ whole.0) u len) in
    let same : r ≡ x = cc in
    same ∙ ap (λ h. record_at (stands_after set u h)) before

pub legal_is : (set : TaskSet) (t : ℕ) → IsLegal set (legal set t)
legal_is set t u r there =
    let below : u < length (legal set t) = slice_get_within (legal set t) u r there in
    let ticks : u + 1 + (t - (u + 1)) ≡ t = omega (arith, below, length-legal set t) in
    subst (λ n. slice_get (legal set n) u ≡ Some r → r ≡ record_at (stands_after set u (take u (legal set n)))) ticks
    (record-of set u (t - (u + 1)) r) there
