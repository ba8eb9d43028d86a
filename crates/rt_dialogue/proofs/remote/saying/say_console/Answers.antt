use Rattle.rt_dialogue.proofs.Common.{◌≡◌, ◌++◌, ℕ, List, length, take, min, subst, rules, err_from_is_err_and, packet_of, HasSaid, SaysLess}
use Rattle.std.proofs.Common.{drop}
use Rattle.rt_packet.specs.answer.Bytes.{console_text}
use Rattle.rt_dialogue.proofs.remote.AskLemmas.{speaks_at}
use Rattle.rt_dialogue.proofs.remote.ConsoleLemmas.{more_in, all_in, fails_in, none_left, some_left}
use Rattle.rt_dialogue.proofs.remote.saying.say_console.Goals as goal

pub returns-in_err-say-clause-says : goal.returns-in_err-say-clause-says
returns-in_err-say-clause-says g c = λ before said.
    let rest = c.loop-rest.rest.now in
    let i = c.loop-rest.invariant before said in
    let piece_is : c.split_at.result.0.now ≡ take (min (length rest) 1024) rest = search rules in
    let behind_is : c.split_at.result.1.now ≡ drop (min (length rest) 1024) rest = search rules in
    let bytes_are : c.bytes.result.now ≡ packet_of (console_text c.split_at.result.0.now) = search rules in
    speaks_at g.S.Sink.seen _ _ c.in_err-say.field-0.0 c.say.new.out (err_from_is_err_and c.from_residual.result c.from_residual.ensures.1)
    (fails_in g.S.Sink.seen before c.args.text.now rest c.split_at.result.0.now c.split_at.result.1.now _ c.say.new.out c.in_err-say.field-0.0
    (some_left rest _ c.is_empty.ensures c.loop-rest-test.true) piece_is behind_is i
    (subst (λ (l : List ℕ). SaysLess g.S.Sink.seen ((before ++ i.done) ++ l) c.in_err-say.field-0.0 c.say.new.out) bytes_are (c.in_err-say.ensures.says (before ++ i.done) i.said)))

pub loop-rest-preserved : goal.loop-rest-preserved
loop-rest-preserved g c = λ before said.
    let rest = c.loop-rest.rest.now in
    let i = c.loop-rest.invariant before said in
    let piece_is : c.split_at.result.0.now ≡ take (min (length rest) 1024) rest = search rules in
    let behind_is : c.split_at.result.1.now ≡ drop (min (length rest) 1024) rest = search rules in
    let bytes_are : c.bytes.result.now ≡ packet_of (console_text c.split_at.result.0.now) = search rules in
    more_in g.S.Sink.seen before c.args.text.now rest c.split_at.result.0.now c.split_at.result.1.now _ c.say.new.out
    (some_left rest _ c.is_empty.ensures c.loop-rest-test.true) piece_is behind_is i
    (subst (λ (l : List ℕ). HasSaid g.S.Sink.seen ((before ++ i.done) ++ l) c.say.new.out) bytes_are (c.in_ok-say.ensures.says (before ++ i.done) i.said))

pub returns-clause-says : goal.returns-clause-says
returns-clause-says g c = λ before said. all_in g.S.Sink.seen before _ _ _ (none_left _ _ c.is_empty.ensures c.loop-rest-test.false) (c.loop-rest.invariant before said)
