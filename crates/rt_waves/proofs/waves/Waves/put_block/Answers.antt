use Rattle.rt_waves.proofs.Common.{◌≡◌, ℕ, List, ◌++◌, ap, sym, ◌∙◌, Telling, WavesState, telling_at, block_of, lines_at}
use Rattle.rt_waves.specs.declared.block.Telling.TheVariants as tellings
use Rattle.rt_waves.proofs.BlockLemmas.{block-of-part}
use Rattle.rt_waves.proofs.waves.Waves.put_block.Goals as goal

pub returns-then-is_all-clause-text : goal.returns-then-is_all-clause-text
returns-then-is_all-clause-text c =
    let w = c.args.self.now in
    let is : c.at.result ≡ tellings.All = c.is_all.ensures.all c.if-is_all.true in
    let same : c.at.result ≡ telling_at w.from w.tick = c.at.ensures ∙ ap (λ (v : WavesState). telling_at v.from v.tick) c.self.view_is in
    c.put_first_block.ensures.text
    ∙ ap (λ (l : List ℕ). c.args.page.now ++ l)
    (ap (λ (t : Telling). block_of t w.tick (lines_at c.at.result w.tick c.args.of w.idle w.tasks)) (sym is)
    ∙ ap (λ (t : Telling). block_of t w.tick (lines_at t w.tick c.args.of w.idle w.tasks)) same)

pub returns-else-is_all-clause-text : goal.returns-else-is_all-clause-text
returns-else-is_all-clause-text c =
    let w = c.args.self.now in
    let part = c.is_all.ensures.part c.if-is_all.false in
    let same : c.at.result ≡ telling_at w.from w.tick = c.at.ensures ∙ ap (λ (v : WavesState). telling_at v.from v.tick) c.self.view_is in
    c.put_later_block.ensures.text
    ∙ ap (λ (l : List ℕ). c.args.page.now ++ l)
    (block-of-part c.at.result w.tick c.args.of w.idle w.tasks part
    ∙ ap (λ (t : Telling). block_of t w.tick (lines_at t w.tick c.args.of w.idle w.tasks)) same)
