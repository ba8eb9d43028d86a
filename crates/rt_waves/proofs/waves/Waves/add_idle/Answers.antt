use Rattle.rt_waves.proofs.Common.{◌≤◌, ℕ, List, ◌++◌, length, ap, ◌∙◌, arith, WavesState}
use Rattle.rt_waves.specs.Working.Stepped.{passed_idle, passed_text}
use Rattle.rt_waves.proofs.WavesLaws.{stands-idle, text-idle, count-passed}
use Rattle.rt_waves.proofs.waves.Waves.add_idle.Goals as goal

pub returns-then-n-gt0-clause-count : goal.returns-then-n-gt0-clause-count
returns-then-n-gt0-clause-count c = ap (λ (w : WavesState). length w.tasks) c.pass_idle.ensures.stands ∙ count-passed c.args.n c.args.self.now

pub returns-then-n-gt0-clause-stands : goal.returns-then-n-gt0-clause-stands
returns-then-n-gt0-clause-stands c = λ set from t is goes.
    let some : 1 ≤ c.args.n = omega arith in
    c.pass_idle.ensures.stands ∙ ap (passed_idle c.args.n) is ∙ stands-idle set from t t c.args.n goes some

pub returns-then-n-gt0-clause-text : goal.returns-then-n-gt0-clause-text
returns-then-n-gt0-clause-text c = λ set from t is goes.
    let some : 1 ≤ c.args.n = omega arith in
    c.pass_idle.ensures.text ∙ ap (λ (l : List ℕ). c.args.page.now ++ l) (ap (passed_text c.args.n) is ∙ text-idle set from t t c.args.n goes some)
