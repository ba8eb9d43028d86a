use Rattle.rt_waves.proofs.Common.{◌≡◌, ℕ, List, ◌++◌, Bool, append_assoc, sym, ap, subst, ◌∙◌, is_idle, Wire, idle_value, WavesState, told_line, lines_all, lines_at}
use Rattle.rt_waves.proofs.waves.Waves.put_lines.Goals as goal

pub returns-clause-text : goal.returns-clause-text
returns-clause-text c =
    let t = c.args.moment.now.telling in
    let r = c.args.moment.now.of in
    let first = told_line t (Wire c.self.inside.idle) (idle_value c.is_idle-idle.result) in
    let others = lines_all t c.self.inside.clock r c.self.inside.tasks.items in
    let line : told_line t (Wire c.self.inside.idle) (idle_value (is_idle r)) ≡ first =
    ap (λ (b : Bool). told_line t (Wire c.self.inside.idle) (idle_value b)) (sym c.is_idle-idle.ensures) in
    let P : WavesState → Type 0 = λ w. lines_at t w.tick r w.idle w.tasks ≡ first ++ others in
    let whole : lines_at t c.args.self.now.tick r c.args.self.now.idle c.args.self.now.tasks ≡ first ++ others =
    subst P c.self.view_is (ap (λ (xs : List ℕ). xs ++ others) line) in
    c.put_tasks.ensures.text ∙ ap (λ (p : List ℕ). p ++ others) c.put_idle.ensures.text ∙ append_assoc c.args.page.now first others ∙ ap (λ (l : List ℕ). c.args.page.now ++ l) (sym whole)
