use Rattle.rt_image.proofs.Common.{◌≡◌, ◌++◌, ◌∷◌, [], labels, labels_at}
use Rattle.std.proofs.lemmas.Result.{err_from_is_err_and}
use Rattle.std.proofs.lemmas.List.{map_push}
use Rattle.rt_image.specs.ObjectFile.{label}
use Rattle.rt_image.proofs.SymbolLoop.{goes_on, ends, is_done}
use Rattle.rt_image.proofs.reading.symbols_at.Goals as goal

pub returns-in_err-symbol : goal.returns-in_err-symbol
returns-in_err-symbol c =
    let p = err_from_is_err_and c.from_residual.result c.from_residual.ensures.1 in
    rw (p.1, p.2) (ends c.in_err-symbol.field-0.0 (labels c.loop.symbols.items) c.args.count c.loop.counter c.args.size c.loop.before.now c.loop.rest.now (labels_at c.args.count c.args.size [] c.args.bytes.now) c.loop-test.true c.in_err-symbol.ensures c.loop.invariant)

pub loop-preserved : goal.loop-preserved
loop-preserved c =
    let s = c.in_ok-symbol.symbol in
    let e : labels c.push.new.self.items ≡ labels c.loop.symbols.items ++ label s ∷ [] = rw c.in_ok-push.ensures.items (map_push _ c.loop.symbols.items s) in
    rw e (goes_on (labels c.loop.symbols.items) c.args.count c.loop.counter c.args.size c.loop.before.now c.loop.rest.now (label s) c.in_ok-symbol.after.now (labels_at c.args.count c.args.size [] c.args.bytes.now) c.loop-test.true c.in_ok-symbol.ensures c.loop.invariant)

pub returns : goal.returns
returns c = is_done (labels c.loop.symbols.items) c.args.count c.loop.counter c.args.size c.loop.before.now c.loop.rest.now (labels_at c.args.count c.args.size [] c.args.bytes.now) c.loop-test.false c.loop.invariant
