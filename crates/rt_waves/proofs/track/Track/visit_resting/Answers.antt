use Rattle.rt_waves.proofs.Common.{ℕ, List, ◌++◌, false, codes, decimal, sym, ap, ◌∙◌, Changes, TaskWaves, Wire, Number, part_begin, wave, mode_number, told_line, lines_of}
use Rattle.rt_waves.specs.declared.signals.ModeSignal.TheVariants as signals
use Rattle.rt_waves.specs.declared.signals.Value.{Value}
use Rattle.rt_waves.proofs.LineLemmas.{eleven}
use Rattle.rt_waves.proofs.GoingLaws.{resting-seen}
use Rattle.rt_waves.proofs.track.Track.visit_resting.Goals as goal

pub returns-clause-text : goal.returns-clause-text
returns-clause-text c =
    let x = c.args.self.now in
    let i = c.args.number in
    let told = x.told in
    let tell : List ℕ → Value → Value → List ℕ = λ name before now. told_line Changes before (wave (name ++ decimal i) now) in
    let r = tell (codes "r") (Wire told.running) (Wire false) in
    let m = tell (codes "m") (Number (mode_number told.mode)) (Number (mode_number signals.Active)) in
    let p = tell (codes "p") (Number told.pc) (Number x.pc) in
    let s = tell (codes "s") (Number told.part) (Number (part_begin x.labels x.pc)) in
    let b = tell (codes "c") (Number told.c) (Number x.serving.account.c) in
    let d = tell (codes "d") (Number told.d) (Number x.serving.account.d) in
    let o = tell (codes "o") (Number told.out) (Number x.out) in
    let f = tell (codes "f") (Wire told.fresh) (Wire false) in
    let k = tell (codes "k") (Wire told.kept) (Wire false) in
    let w = tell (codes "x") (Wire told.postponed) (Wire false) in
    let j = tell (codes "j") (Wire told.finish) (Wire false) in
    let stopped = c.put_stop.ensures.stands in
    let placed = rw stopped at c.put_place.ensures.stands in
    let counted = rw placed at c.put_account.ensures.stands in
    let text_1 = c.put_stop.ensures.text in
    let text_2 = rw stopped at c.put_place.ensures.text in
    let text_3 = rw placed at c.put_account.ensures.text in
    let text_4 = rw counted at c.end_pulses.ensures.text in
    text_4
    ∙ ap (λ (l : List ℕ). (((l ++ f) ++ k) ++ w) ++ j) (text_3 ∙ ap (λ (l : List ℕ). ((l ++ b) ++ d) ++ o) (text_2 ∙ ap (λ (l : List ℕ). (l ++ p) ++ s) text_1))
    ∙ eleven c.args.page.now r m p s b d o f k w j
    ∙ ap (λ (v : TaskWaves). c.args.page.now ++ lines_of Changes i told v) (sym (resting-seen c.args.u x c.requires.mode))
