use Rattle.rt_walk.proofs.Common.{◌≤◌, arith, sym, ◌∙◌, met_at}
use Rattle.rt_walk.proofs.CheckpointLemmas.{seeks_on, none_to, none_so_far, unpaused_unmet, moves_on, ends_at, part_end}
use Rattle.rt_walk.proofs.checkpoints.Checkpoints.seek.Goals as goal

pub returns-then-not-is_unmet-clause-seeks : goal.returns-then-not-is_unmet-clause-seeks
returns-then-not-is_unmet-clause-seeks g c = λ begin set is.
    let i = c.loop-left.invariant in
    let met = met_at (g.H.Halt.behind c.args.halt) (g.H.Halt.ahead c.args.halt) begin set in
    let small : c.min-part.result ≤ c.loop-left.left = omega (arith, c.min-part.ensures) in
    seeks_on _ met c.args.place.now.machine.tick c.args.n c.loop-left.left c.loop-left.place.machine.tick c.min-part.result _ i.left i.clock small (i.none begin set is) c.seek-sought.result (sym c.if-not-is_unmet.ensures)
    (c.seek-sought.ensures.seeks begin set (i.stands begin set is))

pub returns-then-not-is_unmet-clause-reached : goal.returns-then-not-is_unmet-clause-reached
returns-then-not-is_unmet-clause-reached g c = λ first r. c.seek-sought.ensures.reached first (c.loop-left.invariant.reached first r)

pub returns-then-not-is_unmet-clause-kept : goal.returns-then-not-is_unmet-clause-kept
returns-then-not-is_unmet-clause-kept g c = λ first r all.
    let i = c.loop-left.invariant in
    c.visit.ensures.reached first (c.seek-sought.ensures.reached first (i.reached first r)) (i.kept first r all)

pub returns-then-not-is_unmet-clause-later : goal.returns-then-not-is_unmet-clause-later
returns-then-not-is_unmet-clause-later g c =
    c.visit.ensures.later (omega (arith, c.loop-left.invariant.later, c.seek-sought.ensures.within, c.min-part.ensures, c.now-in-loop-left.ensures.value))

pub loop-left-preserved : goal.loop-left-preserved
loop-left-preserved g c =
    let i = c.loop-left.invariant in
    let small : c.min-part.result ≤ c.loop-left.left = omega (arith, c.min-part.ensures) in
    record {
      left = omega (arith, i.left);
      clock = part_end c.args.n c.args.place.now.machine.tick c.loop-left.left c.loop-left.place.machine.tick c.min-part.result _ _ i.left i.clock c.min-part.ensures c.loop-left-test.true
          (ends_at c.loop-left.place.machine.tick c.min-part.result _ c.seek-sought.result (sym c.if-not-is_unmet.ensures) c.seek-sought.ensures.moves);
      stands = λ begin set is. c.seek-sought.ensures.stands begin set (i.stands begin set is);
      none = λ begin set is. none_to _ (met_at (g.H.Halt.behind c.args.halt) (g.H.Halt.ahead c.args.halt) begin set) c.args.place.now.machine.tick c.args.n c.loop-left.left c.loop-left.place.machine.tick c.min-part.result _ i.left i.clock small (i.none begin set is)
          c.seek-sought.result (sym c.if-not-is_unmet.ensures) (c.seek-sought.ensures.seeks begin set (i.stands begin set is));
      unpaused = λ was. c.is_to_pause.ensures.same c.if-is_to_pause.false (c.seek-sought.ensures.paused (i.unpaused was) ∙ unpaused_unmet c.seek-sought.result (sym c.if-not-is_unmet.ensures));
      goes = g.P.Pace.joins _ _ _ (g.P.Pace.joins _ _ _ i.goes c.seek-sought.ensures.goes) c.is_to_pause.ensures.goes;
      later = c.visit.ensures.later (omega (arith, i.later, c.seek-sought.ensures.within, c.min-part.ensures, c.now-in-loop-left.ensures.value));
      spread = λ start before. c.visit.ensures.kept start (i.spread start before);
      reached = λ first r. c.seek-sought.ensures.reached first (i.reached first r);
      kept = λ first r all. c.visit.ensures.reached first (c.seek-sought.ensures.reached first (i.reached first r)) (i.kept first r all);
    }

pub returns-then-is_to_pause-clause-seeks : goal.returns-then-is_to_pause-clause-seeks
returns-then-is_to_pause-clause-seeks g c = λ begin set is.
    let i = c.loop-left.invariant in
    let met = met_at (g.H.Halt.behind c.args.halt) (g.H.Halt.ahead c.args.halt) begin set in
    let unmet = sym c.if-not-is_unmet.ensures in
    let small : c.min-part.result ≤ c.loop-left.left = omega (arith, c.min-part.ensures) in (
      c.is_to_pause.ensures.asks c.if-is_to_pause.true,
      none_so_far _ met c.args.place.now.machine.tick c.args.n c.loop-left.left c.loop-left.place.machine.tick c.min-part.result _ i.left i.clock small (i.none begin set is) c.seek-sought.result unmet
          (omega (arith, c.min-part.ensures, c.loop-left-test.true, i.later, c.now-in-loop-left.ensures.value)) (let more = c.is_to_pause.ensures.some c.if-is_to_pause.true in omega (arith, more)) (c.seek-sought.ensures.seeks begin set (i.stands begin set is)),
    )

pub returns-then-not-is_unmet-clause-paused : goal.returns-then-not-is_unmet-clause-paused
returns-then-not-is_unmet-clause-paused g c = λ was. c.seek-sought.ensures.paused (c.loop-left.invariant.unpaused was)

pub returns-then-not-is_unmet-clause-goes : goal.returns-then-not-is_unmet-clause-goes
returns-then-not-is_unmet-clause-goes g c = g.P.Pace.joins _ _ _ c.loop-left.invariant.goes c.seek-sought.ensures.goes

pub returns-then-not-is_unmet-clause-moves : goal.returns-then-not-is_unmet-clause-moves
returns-then-not-is_unmet-clause-moves g c =
    let i = c.loop-left.invariant in
    moves_on c.args.place.now.machine.tick c.args.n c.loop-left.left c.loop-left.place.machine.tick c.min-part.result _ i.left i.clock (omega (arith, c.min-part.ensures)) c.seek-sought.result (sym c.if-not-is_unmet.ensures) c.seek-sought.ensures.moves

pub returns-then-not-is_unmet-clause-stands : goal.returns-then-not-is_unmet-clause-stands
returns-then-not-is_unmet-clause-stands g c = λ begin set is. c.seek-sought.ensures.stands begin set (c.loop-left.invariant.stands begin set is)

pub returns-then-is_to_pause-clause-reached : goal.returns-then-is_to_pause-clause-reached
returns-then-is_to_pause-clause-reached g c = λ first at. c.seek-sought.ensures.reached first (c.loop-left.invariant.reached first at)

pub returns-then-is_to_pause-clause-kept : goal.returns-then-is_to_pause-clause-kept
returns-then-is_to_pause-clause-kept g c = λ first at all.
    let i = c.loop-left.invariant in
    c.visit.ensures.reached first (c.seek-sought.ensures.reached first (i.reached first at)) (i.kept first at all)

pub returns-then-is_to_pause-clause-goes : goal.returns-then-is_to_pause-clause-goes
returns-then-is_to_pause-clause-goes g c =
    g.P.Pace.joins _ _ _ (g.P.Pace.joins _ _ _ c.loop-left.invariant.goes c.seek-sought.ensures.goes) c.is_to_pause.ensures.goes
