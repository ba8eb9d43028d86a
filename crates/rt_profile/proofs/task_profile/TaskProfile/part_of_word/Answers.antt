use Rattle.rt_profile.proofs.Common.{◌≡◌, ◌+◌, ◌*◌, ◌<◌, nat_le, length, ap, ◌∙◌, arith, count_by-le-length, base, Label, labels, part, TaskCounts}
use Rattle.std.proofs.lemmas.Grind.{get_or_default_zero}
use Rattle.rt_profile.proofs.task_profile.TaskProfile.part_of_word.Goals as goal

pub returns-clause-within : goal.returns-clause-within
returns-clause-within c =
    let x = c.self.inside in
    let w = c.args.word in
    let ls = labels x.symbols.now in
    let words : length x.words.items ≡ length c.args.self.now.words = ap (λ (y : TaskCounts). length y.words) c.self.view_is in
    let parts : length x.parts.items ≡ length c.args.self.now.parts = ap (λ (y : TaskCounts). length y.parts) c.self.view_is in
    let inside : w < length x.parts_of_words.items = omega (arith, c.requires, words, c.self.invariant.size) in
    let value : c.index.result.now ≡ part ls (base + 4 * w) =
    c.index.ensures ∙ get_or_default_zero x.parts_of_words.items w c.index.result.now inside ∙ c.self.invariant.value w (omega (arith, c.requires, words)) in
    omega (arith, value, parts, c.self.invariant.parts, count_by-le-length (λ (l : Label). nat_le l.address (base + 4 * w)) ls)
