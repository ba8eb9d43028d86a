use Rattle.rt_waves.proofs.Common.{◌≡◌, ℕ, List, ◌++◌, codes, ap, ◌∙◌, time_line, WavesState, lines_at}
use Rattle.rt_waves.proofs.LineLemmas.{four}
use Rattle.rt_waves.proofs.waves.Waves.put_first_block.Goals as goal

pub returns-clause-text : goal.returns-clause-text
returns-clause-text c =
    let lines = lines_at c.args.moment.now.telling c.args.self.now.tick c.args.moment.now.of c.args.self.now.idle c.args.self.now.tasks in
    let tick : c.self.inside.clock ≡ c.args.self.now.tick = ap (λ (w : WavesState). w.tick) c.self.view_is in
    c.put_text-2.ensures.text
    ∙ ap (λ (p : List ℕ). p ++ codes "$end\n") (c.put_lines.ensures.text ∙ ap (λ (p : List ℕ). p ++ lines) (c.put_text.ensures.text ∙ ap (λ (p : List ℕ). p ++ codes "$dumpvars\n") c.put_time.ensures.text))
    ∙ four c.args.page.now (time_line c.self.inside.clock) (codes "$dumpvars\n") lines (codes "$end\n")
    ∙ ap (λ (u : ℕ). c.args.page.now ++ (time_line u ++ codes "$dumpvars\n" ++ lines ++ codes "$end\n")) tick
