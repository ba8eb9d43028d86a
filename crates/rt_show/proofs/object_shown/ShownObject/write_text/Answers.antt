use Rattle.std.proofs.Common.{◌≤◌, List, [], length, All, ap, sym, subst, arith}
use Rattle.std.proofs.lemmas.List.{length-map}
use Rattle.std.proofs.lemmas.List.Sorted.{All-permutation, length_permutation}
use Rattle.rt_words.specs.Limits.{line_limit}
use Rattle.rt_image.specs.declared.object.Symbol.{Symbol}
use Rattle.rt_image.specs.ObjectFile.{ObjectValue, label, labels}
use Rattle.rt_text_out.proofs.LineLemmas.{lines-by}
use Rattle.rt_names.proofs.ShortLemmas.{IsShort, short-labels}
use Rattle.rt_show.specs.ObjectShown.{WritesObject, symbol_line}
use Rattle.rt_show.proofs.ShownLemmas.{short-symbols}
use Rattle.rt_show.proofs.object_shown.ShownObject.write_text.Goals as goal

pub invariant_of-symbols-clause-few : goal.invariant_of-symbols-clause-few
invariant_of-symbols-clause-few g c =
    let moved = length_permutation _ _ c.self.invariant.1.all in
    omega (arith, moved, length-map c.self.inside.symbols.items label, c.self.invariant.0.count, ap (λ (ss : List Symbol). length ss) c.deref.ensures.value)

pub invariant_of-symbols-clause-may : goal.invariant_of-symbols-clause-may
invariant_of-symbols-clause-may g c =
    let o = c.self.inside.object.now in
    let short = short-labels (length o.bytes.now) [] (labels o.symbols.items) c.self.invariant.0.labels_fit in
    subst (All (λ (s : Symbol). length s.name.now ≤ line_limit)) (sym c.deref.ensures.value)
    (short-symbols c.self.inside.symbols.items (All-permutation IsShort _ _ c.self.invariant.1.all short))

pub returns : goal.returns
returns g c =
    let counts = rw (c.plain.ensures, c.plain-2.ensures, c.deref.ensures.value, lines-by symbol_line label c.self.inside.symbols.items) at c.write.ensures in
    subst (λ (p : ObjectValue). WritesObject g.S.Sink.seen c.args.out.now p c.write.result c.write.new.out) c.self.view_is
    (record { order = labels c.self.inside.symbols.items; ordered = c.self.invariant.1; counts = counts })
