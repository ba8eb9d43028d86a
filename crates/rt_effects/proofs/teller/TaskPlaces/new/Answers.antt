use Rattle.rt_effects.proofs.Common.{◌≤◌, List, [], length, sym, subst, ap, ◌∙◌}
use Rattle.std.proofs.Common.{All}
use Rattle.rt_words.specs.Limits.{line_limit}
use Rattle.rt_image.specs.ObjectFile.{Label, labels}
use Rattle.rt_names.proofs.ShortLemmas.{short-labels}
use Rattle.rt_effects.proofs.teller.TaskPlaces.new.Goals as goal

pub invariant_of-result : goal.invariant_of-result
invariant_of-result c =
    let o = c.args.task.now.object in
    let same = c.in_ok-places.ensures ∙ ap labels c.as_slice.ensures.value in
    subst (λ (ls : List Label). All (λ l. length l.name ≤ line_limit) ls) (sym same) (short-labels (length o.bytes.now) [] (labels o.symbols.items) c.requires.labels_fit)
