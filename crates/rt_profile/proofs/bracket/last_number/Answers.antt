use Rattle.rt_profile.proofs.Common.{◌≡◌, ℕ, ◌+◌, ◌-◌, ◌*◌, ◌%◌, ◌^◌, ◌<◌, ap, ◌∙◌, arith, number_from}
use Rattle.std.proofs.Common.{rules}
use Rattle.rt_profile.specs.NeedCounts.{beyond_in, number_to}
use Rattle.rt_profile.proofs.BracketLaws.{to-small, one-whole}
use Rattle.rt_profile.proofs.bracket.last_number.Goals as goal

-- what is added
sum : (b r n : ℕ) → b < 608 → r ≡ beyond_in b → n ≡ number_from b → n + ((1 * 2 ^ r) % 2 ^ 64 - 1) ≡ number_to b
sum b r n low digits first =
    ap (λ (m : ℕ). m + ((1 * 2 ^ r) % 2 ^ 64 - 1)) first ∙ ap (λ (p : ℕ). number_from b + (p - 1)) (one-whole b r low digits)

pub overflow_add-result : goal.overflow_add-result
overflow_add-result c =
    let is = sum c.args.bracket c.digits_beyond_in.result c.first_number.result c.requires c.digits_beyond_in.ensures c.first_number.ensures in
    let fits : c.first_number.result + ((1 * 2 ^ c.digits_beyond_in.result) % 2 ^ 64 - 1) < 2 ^ 64 = omega (arith, is, to-small c.args.bracket c.requires) in
    search rules

pub returns : goal.returns
returns c = sum c.args.bracket c.digits_beyond_in.result c.first_number.result c.requires c.digits_beyond_in.ensures c.first_number.ensures
