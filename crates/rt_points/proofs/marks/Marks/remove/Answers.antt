use Rattle.std.proofs.Common.{◌<◌, length, refl, arith, ◌∙◌}
use Rattle.std.proofs.lemmas.Grind.{get_or_default_zero}
use Rattle.rt_points.proofs.MarkLemmas.{unmarked_now, unmarked_beside}
use Rattle.rt_points.proofs.marks.Marks.remove.Goals as goal

pub returns-in-Some-clause-kept : goal.returns-in-Some-clause-kept
returns-in-Some-clause-kept c = λ task pc apart.
    let words = c.args.self.now.words.items in
    let word = c.word_of.result in
    let old = c.in-Some.tasks.now in
    let some = c.in-Some.ensures.variant.0 refl in
    let within : word < length words = omega (arith, some, c.args.self.now.words.ok.0) in
    unmarked_beside words word old c.args.place.task c.args.place.pc task pc within c.word_of.ensures (c.in-Some.ensures.value ∙ get_or_default_zero words word old within) apart

pub returns-in-Some-clause-gone : goal.returns-in-Some-clause-gone
returns-in-Some-clause-gone c =
    let some = c.in-Some.ensures.variant.0 refl in
    let within : c.word_of.result < length c.args.self.now.words.items = omega (arith, some, c.args.self.now.words.ok.0) in
    unmarked_now c.args.self.now.words.items c.word_of.result c.in-Some.tasks.now c.args.place.task c.args.place.pc within c.word_of.ensures
