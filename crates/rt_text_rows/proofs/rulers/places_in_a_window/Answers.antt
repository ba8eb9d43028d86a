use Rattle.std.proofs.Common.{◌≡◌, refl}
use Rattle.rt_chart.specs.Scale.{place, middle, extent}
use Rattle.rt_text_rows.specs.Charts.{usual}
use Rattle.rt_text_rows.proofs.Windows.{of_ends}
use Rattle.rt_text_rows.proofs.rulers.places_in_a_window.Goals as goal

pub returns-clause-before : goal.returns-clause-before
returns-clause-before c = of_ends (λ w. place w usual 9 ≡ 0) 10 13 (λ some few limit. refl)

pub returns-clause-first : goal.returns-clause-first
returns-clause-first c = of_ends (λ w. place w usual 10 ≡ 0) 10 13 (λ some few limit. refl)

pub returns-clause-second : goal.returns-clause-second
returns-clause-second c = of_ends (λ w. place w usual 11 ≡ 266) 10 13 (λ some few limit. refl)

pub returns-clause-behind : goal.returns-clause-behind
returns-clause-behind c = of_ends (λ w. place w usual 14 ≡ 800) 10 13 (λ some few limit. refl)

pub returns-clause-halfway : goal.returns-clause-halfway
returns-clause-halfway c = of_ends (λ w. middle w usual 11 ≡ 399) 10 13 (λ some few limit. refl)

pub returns-clause-of_two_ticks : goal.returns-clause-of_two_ticks
returns-clause-of_two_ticks c = of_ends (λ w. extent w usual 11 13 ≡ 534) 10 13 (λ some few limit. refl)

pub returns-clause-narrow : goal.returns-clause-narrow
returns-clause-narrow c = of_ends (λ w. extent w usual 0 1 ≡ 1) 0 100000 (λ some few limit. refl)
