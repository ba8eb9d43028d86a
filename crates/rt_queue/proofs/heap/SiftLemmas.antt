-- Lemmas on one step of a sift, where the moving entry is written into the hole.
use Rattle.rt_queue.proofs.Common.{◌≡◌, ◌≢◌, ℕ, ◌<◌, ◌≤◌, List, length, set, get_or, refl, sym, ap, subst, ◌∙◌, arith, get_or-set_same, get_or-set_other, NotAfter, entry_at, above, IsRising, IsSinking, IsLeastBelow}
use Rattle.rt_queue.proofs.OrderLemmas.{NotAfter-same}
use Rattle.rt_queue.proofs.heap.HeapOrderLemmas.{rising-step, sinking-step}
use Rattle.rt_queue.proofs.heap.PlacesLemmas.{entry_at-same, entries-moved}

-- an entry that was read is its number with the number's key
pub entry-read : (keys order : List ℕ) (place : ℕ) (e : ℕ × ℕ) → e ≡ entry_at keys order place → e ≡ (get_or keys e.1 0, e.1)
entry-read keys order place e is = subst (λ x. x ≡ (get_or keys x.1 0, x.1)) (sym is) refl

-- the moving entry is at the hole
pub entry-at_hole : (keys order : List ℕ) (hole : ℕ) (moving : ℕ × ℕ) → hole < length order → moving ≡ (get_or keys moving.1 0, moving.1) →
    entry_at keys (set order hole moving.1) hole ≡ moving
entry-at_hole keys order hole moving below is =
    ap (λ (n : ℕ). (get_or keys n 0, n)) (get_or-set_same order hole moving.1 0 below) ∙ sym is

-- and the others where they were
pub entry-elsewhere : (keys order : List ℕ) (hole number place : ℕ) → place ≢ hole →
    entry_at keys (set order hole number) place ≡ entry_at keys order place
entry-elsewhere keys order hole number place apart =
    entry_at-same keys order (set order hole number) place place (get_or-set_other order hole place number 0 apart)

-- the moving entry goes up
pub rise_once : (keys order : List ℕ) (hole : ℕ) (moving other : ℕ × ℕ) → 0 < hole → hole < length order →
    moving ≡ (get_or keys moving.1 0, moving.1) → other ≡ entry_at keys order (above hole) → NotAfter moving other →
    (len : ℕ) → IsRising (entry_at keys (set order hole moving.1)) len hole →
    IsRising (entry_at keys (set (set order hole other.1) (above hole) moving.1)) len (above hole)
rise_once keys order hole moving other positive below is_moving is_other before len rising =
    let entry : ℕ → ℕ × ℕ = entry_at keys (set order hole moving.1) in
    let apart : hole ≢ above hole = λ same. absurd (omega (arith, same)) in
    let there : entry (above hole) ≡ other = entry-elsewhere keys order hole moving.1 (above hole) (λ same. apart (sym same)) ∙ sym is_other in
    subst (λ n. IsRising (entry_at keys (set (set order hole n) (above hole) moving.1)) len (above hole)) (sym (ap (λ (e : ℕ × ℕ). e.1) is_other))
    (rising-step entry (entry_at keys (set (set order hole (get_or order (above hole) 0)) (above hole) moving.1)) len hole rising positive
    (NotAfter-same moving (entry hole) other (entry (above hole)) (entry-at_hole keys order hole moving below is_moving) there before)
    (entries-moved keys order hole (above hole) moving.1 below (omega arith) apart))

-- the moving entry stays
pub rise_ends : (keys order : List ℕ) (hole : ℕ) (moving other : ℕ × ℕ) → 0 < hole → hole < length order →
    moving ≡ (get_or keys moving.1 0, moving.1) → other ≡ entry_at keys order (above hole) → NotAfter other moving →
    NotAfter (entry_at keys (set order hole moving.1) (above hole)) (entry_at keys (set order hole moving.1) hole)
rise_ends keys order hole moving other positive below is_moving is_other before =
    let entry : ℕ → ℕ × ℕ = entry_at keys (set order hole moving.1) in
    let there : entry (above hole) ≡ other =
    entry-elsewhere keys order hole moving.1 (above hole) (λ same. absurd (omega (arith, same))) ∙ sym is_other in
    NotAfter-same other (entry (above hole)) moving (entry hole) there (entry-at_hole keys order hole moving below is_moving) before

-- the moving entry goes down
pub sink_once : (keys order : List ℕ) (hole least len : ℕ) (moving other : ℕ × ℕ) → len ≤ length order →
    moving ≡ (get_or keys moving.1 0, moving.1) → other ≡ entry_at keys order least →
    IsLeastBelow (entry_at keys order) len hole least → NotAfter other moving →
    IsSinking (entry_at keys (set order hole moving.1)) len hole →
    IsSinking (entry_at keys (set (set order hole other.1) least moving.1)) len least
sink_once keys order hole least len moving other room is_moving is_other below before sinking =
    let entry : ℕ → ℕ × ℕ = entry_at keys (set order hole moving.1) in
    let under : above least ≡ hole = below.below in
    let low : 0 < least = below.positive in
    let high : least < len = below.within in
    let within : hole < len = sinking.within in
    let apart : hole ≢ least = λ same. absurd (omega (arith, same, under, low)) in
    let there : entry least ≡ other = entry-elsewhere keys order hole moving.1 least (λ same. apart (sym same)) ∙ sym is_other in
    let first : IsLeastBelow entry len hole least = record {
      positive = below.positive;
      within = below.within;
      below = below.below;
      first = λ place deep bound is.
          NotAfter-same (entry_at keys order least) (entry least) (entry_at keys order place) (entry place)
          (entry-elsewhere keys order hole moving.1 least (λ same. apart (sym same)))
          (entry-elsewhere keys order hole moving.1 place (λ same. absurd (omega (arith, same, is, deep))))
          (below.first place deep bound is);
    } in
    subst (λ n. IsSinking (entry_at keys (set (set order hole n) least moving.1)) len least) (sym (ap (λ (e : ℕ × ℕ). e.1) is_other))
    (sinking-step entry (entry_at keys (set (set order hole (get_or order least 0)) least moving.1)) len hole least sinking first
    (NotAfter-same other (entry least) moving (entry hole) there (entry-at_hole keys order hole moving (omega (arith, within, room)) is_moving) before)
    (entries-moved keys order hole least moving.1 (omega (arith, within, room)) (omega (arith, high, room)) apart))
