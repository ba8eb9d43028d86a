use Rattle.std.proofs.Common.{◌≡◌, ◌+◌, ◌++◌, length, length-drop, arith}
use Rattle.rt_words.specs.Modular.{sum32}
use Rattle.rt_debug.specs.reply.Shown.{word_line, words_shown}
use Rattle.rt_debug.proofs.reply.ShownLemmas.{all_left, fewer_left, none_left, first_word, no_word}
use Rattle.rt_debug.proofs.reply.showing.WordLinesText.offer.Goals as goal

pub loop-rest-init : goal.loop-rest-init
loop-rest-init g c = record { fewer = omega arith; so_far = all_left _ g.met.O.Out.nothing _ _ _ }

pub loop-rest-preserved : goal.loop-rest-preserved
loop-rest-preserved g c =
    let rest = c.loop-rest.rest.now in
    let size : length c.split_at.result.1.now + 4 ≡ length rest = rw c.split_at.ensures.back (omega (arith, length-drop 4 rest)) in
    let parts : words_shown c.loop-rest.address rest ≡ word_line c.loop-rest.address c.read_u32.result ++ words_shown (sum32 c.loop-rest.address 4) c.split_at.result.1.now =
    rw (c.read_u32.ensures, c.split_at.ensures.back) (first_word c.loop-rest.address rest c.loop-rest-test.true) in
    record {
      fewer = omega (arith, size, c.loop-rest.invariant.fewer);
      so_far = fewer_left _ g.met.O.Out.joined _ _ _ _ _ _ _ _ _ c.loop-rest.invariant.so_far parts (omega (arith, size, c.loop-rest.invariant.fewer, c.offer.ensures.short)) c.offer.ensures.offers;
    }

pub returns : goal.returns
returns g c =
    let all = none_left _ _ _ _ _ _ c.loop-rest.invariant.so_far (no_word c.loop-rest.address c.loop-rest.rest.now (omega arith)) in
    record { offers = all.0; short = omega (arith, all.1, c.args.self.now.few) }
