-- What the waves of a system mean.
use Rattle.std.specs.Prelude.{ℕ, ◌-◌, min, List, Result}
use Rattle.rt_words.specs.Limits.{tick_limit}
use Rattle.rt_admit.specs.declared.admission.Admission.{Admission}
use Rattle.rt_waves.specs.declared.scale.Scale.{Scale}
use Rattle.rt_waves.specs.WavesText.{waves_text}
use Rattle.rt_opening.specs.Sets.{SetMeans}
use Rattle.rt_opening.specs.declared.fault.SimFault.{SimFault}

-- the waves of the n ticks from `from` on, where no tick is at 2^40 or above
abbrev pub WavesMean : List ℕ → Admission → ℕ → ℕ → Scale → Result (List ℕ) SimFault → Type 0
WavesMean file admission from n scale = SetMeans admission (λ s. waves_text scale s (min from tick_limit) (min n (tick_limit - min from tick_limit))) file
