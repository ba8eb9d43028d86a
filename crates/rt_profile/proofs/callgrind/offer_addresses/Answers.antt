use Rattle.rt_profile.proofs.Common.{◌≡◌, ◌+◌, List, ℕ, [], ◌∷◌, ◌++◌, Some, None, length, length-append, sym, ap, ◌∙◌, arith, append_assoc, part, kept_at}
use Rattle.rt_profile.specs.CallgrindText.{address_lines, cost_lines}
use Rattle.rt_profile.proofs.callgrind.offer_addresses.Goals as goal

pub addresses-init : goal.addresses-init
addresses-init g c = record {
  told = ([], g.met.O.Out.nothing _, omega (arith, c.walk-walk.ensures.few), ap (cost_lines c.args.task.now.labels (kept_at c.args.task.now) None) c.walk-walk.ensures.all);
}

pub addresses-preserved : goal.addresses-preserved
addresses-preserved g c =
    let x = c.args.task.now in
    let a = c.in-Some.address in
    let bs = c.next.new.self in
    let before = c.addresses.before in
    let is : c.addresses.walk ≡ a ∷ bs = c.in-Some.ensures in
    let size : length c.addresses.walk ≡ length bs + 1 = omega (arith, ap (λ (xs : List ℕ). length xs) is) in
    let told = c.addresses.invariant.told in
    let one = address_lines x.labels before a (kept_at x a) in
    let rest : (k : ℕ) → List ℕ = λ k. cost_lines x.labels (kept_at x) (Some k) bs in
    let all = ap (λ (cs : List ℕ). told.0 ++ cost_lines x.labels (kept_at x) before cs) (sym is) ∙ told.3 in
    record {
      told = (
        told.0 ++ one,
        g.met.O.Out.joined _ _ _ _ _ told.1 c.offer_address.ensures.offers,
        omega (arith, size, length-append told.0 one, told.2, c.offer_address.ensures.short),
        ap (λ (k : ℕ). (told.0 ++ one) ++ rest k) c.offer_address.ensures.part ∙ append_assoc told.0 one (rest (part x.labels a)) ∙ all,
      );
    }
