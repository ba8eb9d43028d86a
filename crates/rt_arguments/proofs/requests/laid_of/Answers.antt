use Rattle.std.proofs.Common.{◌+◌, sym, subst}
use Rattle.rt_arguments.proofs.LaidLemmas.{laid-more, laid-same, AreLaid}
use Rattle.rt_arguments.proofs.requests.laid_of.Goals as goal

pub loop-word-preserved-in_default : goal.loop-word-preserved-in_default
loop-word-preserved-in_default c =
    laid-same c.unwrap_or-word-items.result.now c.loop-word.word-index _ c.loop-word.laid.items c.loop-word-test.true c.loop-word.invariant c.in_default.ensures.none

pub loop-word-preserved : goal.loop-word-preserved
loop-word-preserved c =
    subst (AreLaid c.unwrap_or-word-items.result.now (c.loop-word.word-index + 1)) (sym c.in_ok-push.ensures.items)
    (laid-more c.unwrap_or-word-items.result.now c.loop-word.word-index _ c.loop-word.laid.items c.in-Some.file c.loop-word-test.true c.loop-word.invariant c.in-Some.ensures.some)
