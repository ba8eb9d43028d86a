use Rattle.rt_profile.proofs.Common.{ap, sym, ◌∙◌}
use Rattle.rt_profile.specs.Standing.{added}
use Rattle.rt_profile.proofs.StandingLaws.{profile_next}
use Rattle.rt_profile.proofs.profile.Profile.add.Goals as goal

pub returns-clause-stands : goal.returns-clause-stands
returns-clause-stands c = λ set t stands goes. c.take.ensures ∙ ap (added c.args.entry) stands ∙ sym (profile_next set t c.args.entry goes)
