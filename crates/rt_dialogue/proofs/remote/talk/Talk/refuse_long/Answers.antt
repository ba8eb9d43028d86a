use Rattle.rt_dialogue.proofs.Common.{◌++◌, ℕ, List, subst, err_from_is_err_and, HasSaid, SaysLess}
use Rattle.rt_dialogue.proofs.remote.AskLemmas.{speaks_at, unknown_is}
use Rattle.rt_dialogue.proofs.remote.talk.Talk.refuse_long.Goals as goal

pub returns-in_err-say-clause-says : goal.returns-in_err-say-clause-says
returns-in_err-say-clause-says g c = λ text said.
    speaks_at g.S.Sink.seen _ _ c.in_err-say.field-0.0 c.say.new.out (err_from_is_err_and c.from_residual.result c.from_residual.ensures.1) (subst (λ (l : List ℕ). SaysLess g.S.Sink.seen (text ++ l) c.in_err-say.field-0.0 c.say.new.out) unknown_is (c.in_err-say.ensures.says text said))

pub returns-clause-says : goal.returns-clause-says
returns-clause-says g c = λ text said. subst (λ (l : List ℕ). HasSaid g.S.Sink.seen (text ++ l) c.say.new.out) unknown_is (c.in_ok-say.ensures.says text said)
