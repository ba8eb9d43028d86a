use Rattle.rt_waves.proofs.Common.{ℕ, List, ◌++◌, length, ap, ◌∙◌, Busy, WavesState, gone_by, offered, block_by}
use Rattle.rt_waves.proofs.WavesLaws.{told-busy, stands-busy, count-offered, count-gone}
use Rattle.rt_waves.proofs.waves.Waves.add_busy.Goals as goal

pub returns-clause-count : goal.returns-clause-count
returns-clause-count c =
    ap (λ (w : WavesState). length w.tasks) c.step.ensures.stands
    ∙ count-gone c.args.attempt.now c.args.place (offered (Busy c.args.attempt.now) c.args.self.now)
    ∙ count-offered (Busy c.args.attempt.now) c.args.self.now

pub returns-clause-stands : goal.returns-clause-stands
returns-clause-stands c = λ set from t is goes stop.
    c.step.ensures.stands
    ∙ ap (λ (w : WavesState). gone_by c.args.attempt.now c.args.place (offered (Busy c.args.attempt.now) w)) is
    ∙ stands-busy set from t t c.args.attempt.now c.args.place goes stop

pub returns-clause-text : goal.returns-clause-text
returns-clause-text c = λ set from t is goes.
    c.step.ensures.text ∙ ap (λ (l : List ℕ). c.args.page.now ++ l) (ap (block_by (Busy c.args.attempt.now)) is ∙ told-busy set from t t c.args.attempt.now goes)
