use Rattle.rt_waves.proofs.Common.{length, ap, ◌∙◌, arith, Busy, WavesState, gone_by}
use Rattle.rt_waves.proofs.WavesLaws.{count-offered}
use Rattle.rt_waves.proofs.waves.Waves.step_any.Goals as goal

pub go_on-requires-clause-task : goal.go_on-requires-clause-task
go_on-requires-clause-task c =
    let same = ap (λ (w : WavesState). length w.tasks) c.put_block.ensures.stands ∙ count-offered (Busy c.args.attempt.now) c.args.self.now in
    omega (arith, same, c.requires.task)

pub returns-clause-stands : goal.returns-clause-stands
returns-clause-stands c = c.go_on.ensures ∙ ap (gone_by c.args.attempt.now c.args.place) c.put_block.ensures.stands
