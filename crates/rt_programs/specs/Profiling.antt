-- What the profile of a system means.
use Rattle.std.specs.Prelude.{ℕ, min, List, Result}
use Rattle.rt_words.specs.Limits.{tick_limit}
use Rattle.rt_admit.specs.declared.admission.Admission.{Admission}
use Rattle.rt_history.specs.Legal.{legal}
use Rattle.rt_profile.specs.declared.form.ProfileForm.{ProfileForm}
use Rattle.rt_profile.specs.ProfileText.{profile_text}
use Rattle.rt_opening.specs.Sets.{SetMeans}
use Rattle.rt_opening.specs.declared.fault.SimFault.{SimFault}

-- the profile of this form of the legal history of n ticks
abbrev pub ProfileMeans : List ℕ → Admission → ℕ → ProfileForm → Result (List ℕ) SimFault → Type 0
ProfileMeans file admission n form = SetMeans admission (λ s. profile_text form s (legal s (min n tick_limit))) file
