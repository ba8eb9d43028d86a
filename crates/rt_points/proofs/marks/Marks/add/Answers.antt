use Rattle.std.proofs.Common.{◌∙◌}
use Rattle.std.proofs.lemmas.Grind.{get_or_default_zero}
use Rattle.rt_points.proofs.MarkLemmas.{marked_with}
use Rattle.rt_points.proofs.marks.Marks.add.Goals as goal

pub returns-clause-added : goal.returns-clause-added
returns-clause-added c = λ task pc.
    let words = c.reach.new.self.words.items in
    let word = c.word_of-word.result in
    let old = c.index_mut.result.now in
    let made = c.in_ok-reach.ensures.made in
    marked_with c.args.self.now.words.items words word old c.args.place.task c.args.place.pc task pc made c.word_of-word.ensures (c.index_mut.ensures.value ∙ get_or_default_zero words word old made) c.reach.ensures.same
