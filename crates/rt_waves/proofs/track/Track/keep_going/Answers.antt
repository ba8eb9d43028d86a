use Rattle.rt_waves.proofs.Common.{ℕ, List, ◌++◌, Some, false, codes, decimal, sym, ap, ◌∙◌, Next, postpones, Changes, TaskWaves, Wire, Number, part_begin, wave, told_line, seen, lines_of}
use Rattle.rt_waves.specs.Working.Going.{going_told}
use Rattle.rt_waves.proofs.LineLemmas.{pairs}
use Rattle.rt_waves.proofs.GoingLaws.{going-lines, going-seen}
use Rattle.rt_waves.proofs.track.Track.keep_going.Goals as goal

pub returns-clause-text : goal.returns-clause-text
returns-clause-text c = λ u.
    let x = c.args.self.now in
    let a = x.serving.account in
    let i = c.args.number in
    let page = c.args.page.now in
    let going = c.requires.going in
    let pc : List ℕ = told_line Changes (Number x.told.pc) (wave (codes "p" ++ decimal i) (Number x.pc)) in
    let part : List ℕ = told_line Changes (Number x.told.part) (wave (codes "s" ++ decimal i) (Number (part_begin x.labels x.pc))) in
    let budget : List ℕ = told_line Changes (Number x.told.c) (wave (codes "c" ++ decimal i) (Number a.c)) in
    let pulse : List ℕ = told_line Changes (Wire false) (wave (codes "x" ++ decimal i) (Wire (postpones Next a))) in
    let behind = rw c.put_place.ensures.stands at c.put_budget-has_left.ensures.text in
    let lines = ap (λ (t : TaskWaves). lines_of Changes i t (seen u (Some Next) x)) going.told ∙ ap (lines_of Changes i (going_told x)) (going-seen u x going.mode)
    ∙ going-lines i x.told.pc x.pc x.told.part x.told.c (part_begin x.labels x.pc) a.c a.d x.out (postpones Next a) in
    behind ∙ ap (λ (p : List ℕ). (p ++ budget) ++ pulse) c.put_place.ensures.text ∙ pairs page pc part budget pulse ∙ ap (λ (l : List ℕ). page ++ l) (sym lines)
