use Rattle.std.proofs.Common.{refl}
use Rattle.rt_text_rows.proofs.Scales.{step_is}
use Rattle.rt_text_rows.proofs.rulers.steps_of_the_axis.Goals as goal

pub returns-clause-of_800_units : goal.returns-clause-of_800_units
returns-clause-of_800_units c = (
  step_is 8 1 refl,
  (
    step_is 9 2 refl,
    (
      step_is 16 2 refl,
      (
        step_is 17 5 refl,
        (step_is 40 5 refl, (step_is 41 10 refl, (step_is 80 10 refl, tt))),
      ),
    ),
  ),
)

pub returns-clause-of_ten_a_tick : goal.returns-clause-of_ten_a_tick
returns-clause-of_ten_a_tick c = (step_is 81 10 refl, (step_is 160 10 refl, tt))

pub returns-clause-of_1600_units : goal.returns-clause-of_1600_units
returns-clause-of_1600_units c = (step_is 161 20 refl, (step_is 320 20 refl, (step_is 321 50 refl, (step_is 800 50 refl, (step_is 801 100 refl, (step_is 1600 100 refl, (step_is 1601 200 refl, (step_is 3200 200 refl, (step_is 8000 500 refl, (step_is 8001 1000 refl, (step_is 80000 5000 refl, (step_is 100000 10000 refl, tt))))))))))))
