-- A text whose bytes a count has room for is counted exactly.
use Rattle.std.proofs.Common.{◌≡◌, ℕ, ◌+◌, ◌^◌, ◌<◌, ◌≤◌, List, length, subst, arith}
use Rattle.rt_sink.specs.Seen.{Seen}
use Rattle.rt_sink.specs.Offers.{Offers}
use Rattle.rt_sink.proofs.Parts.{Offers-bound}
use Rattle.rt_text_out.specs.Laws.{offers-from}
use Rattle.rt_text_out.specs.Offered.{Offered}

pub offered_exactly : {S : Type 0} (seen : S → Seen) (l k : ℕ) (a : S) (text : List ℕ) (l' m : ℕ) (b : S) → k + length text + 1 < 2 ^ 64
    → Offered seen l k a text l' m b → Offers seen k a text m b
offered_exactly seen l k a text l' m b room p =
    let few : p.taken ≤ 0 + length text = Offers-bound seen 0 a text p.taken b p.offers in
    let exact : k + p.taken ≡ m = omega (arith, room, few, p.counts) in
    subst (λ (n : ℕ). Offers seen k a text n b) exact (offers-from seen k a text p.taken b p.offers)
