use Rattle.rt_trace.proofs.Common.{◌≡◌, ◌-◌, ◌<◌, ◌≤◌, [], ◌∷◌, length, length-append, take, drop, get_or, ap, arith}
use Rattle.std.proofs.Common.{length-drop}
use Rattle.std.proofs.lemmas.List.{take_all}
use Rattle.rt_trace.specs.RegsLine.{register_text, registers_text}
use Rattle.rt_trace.proofs.LineTexts.{regs_step}
use Rattle.rt_trace.proofs.regs_line.offer_regs.Goals as goal

pub loop-number-preserved : goal.loop-number-preserved
loop-number-preserved g c =
    let x = c.args.x.now in
    let n = c.loop-number.number in
    let within : n < length x = omega arith in
    let more = regs_step x n c.loop-number.invariant.from_one within in
    record {
      from_one = omega arith;
      offered = rw more (g.met.O.Out.joined _ _ _ _ _ c.loop-number.invariant.offered c.offer.ensures.offers);
      short = omega (arith, ap length more, length-append (registers_text 1 (take (n - 1) (drop 1 x))) (register_text n (get_or x n 0)), c.loop-number.invariant.short, c.offer.ensures.short);
    }

pub returns-clause-offers : goal.returns-clause-offers
returns-clause-offers g c =
    let ended : length (drop 1 c.args.x.now) ≤ c.loop-number.number - 1 = omega (arith, length-drop 1 c.args.x.now) in
    let all = take_all (c.loop-number.number - 1) (drop 1 c.args.x.now) ended in
    g.met.O.Out.joined _ _ _ _ _ (rw all at c.loop-number.invariant.offered) c.put-2.ensures

pub returns-clause-short : goal.returns-clause-short
returns-clause-short g c =
    let ended : length (drop 1 c.args.x.now) ≤ c.loop-number.number - 1 = omega (arith, length-drop 1 c.args.x.now) in
    let all = take_all (c.loop-number.number - 1) (drop 1 c.args.x.now) ended in
    omega (arith, rw all at c.loop-number.invariant.short, length-append (registers_text 1 (drop 1 c.args.x.now)) (10 ∷ []))
