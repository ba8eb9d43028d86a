use Rattle.rt_profile.proofs.Common.{◌≡◌, ℕ, ◌+◌, ◌*◌, ◌/◌, ◌^◌, ◌<◌, subst, arith}
use Rattle.rt_profile.specs.Brackets.{digits_beyond}
use Rattle.rt_profile.proofs.BracketLaws.{number-within}
use Rattle.rt_profile.proofs.bracket.bracket_of.Goals as goal

pub returns-clause-within : goal.returns-clause-within
returns-clause-within c =
    let beyond : digits_beyond c.args.need ≡ c.saturating_sub-beyond.result = omega (arith, c.saturating_sub-beyond.ensures) in
    subst (λ (k : ℕ). 16 * k + c.args.need / 2 ^ k < 608) beyond (number-within c.args.need c.requires)
