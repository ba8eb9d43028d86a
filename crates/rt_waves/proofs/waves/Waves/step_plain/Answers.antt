use Rattle.rt_waves.proofs.Common.{ℕ, List, ◌++◌, length, sym, ap, ◌∙◌, arith, Busy, Telling, WavesState, block_of, gone_by, lines_at}
use Rattle.rt_waves.specs.Working.Stepped.{plain_of}
use Rattle.rt_waves.proofs.GoingLaws.{telling-changes}
use Rattle.rt_waves.proofs.WavesLaws.{count-offered}
use Rattle.rt_waves.proofs.waves.Waves.step_plain.Goals as goal

pub go_on-requires-clause-task : goal.go_on-requires-clause-task
go_on-requires-clause-task c =
    let same = ap (λ (w : WavesState). length w.tasks) c.put_later_block.ensures.stands ∙ count-offered (Busy (plain_of c.args.number)) c.args.self.now in
    omega (arith, same, c.requires.task)

pub returns-clause-stands : goal.returns-clause-stands
returns-clause-stands c = c.go_on.ensures ∙ ap (gone_by (plain_of c.args.number) c.args.place) c.put_later_block.ensures.stands

pub returns-clause-text : goal.returns-clause-text
returns-clause-text c =
    let w = c.args.self.now in
    let r = Busy (plain_of c.args.number) in
    c.put_later_block.ensures.text
    ∙ ap (λ (l : List ℕ). c.args.page.now ++ l) (ap (λ (t : Telling). block_of t w.tick (lines_at t w.tick r w.idle w.tasks)) (sym (telling-changes w.from w.tick c.requires.begun)))
