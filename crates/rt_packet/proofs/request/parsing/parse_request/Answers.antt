use Rattle.rt_packet.proofs.request.SpelledLaws.{whole_is, prefix_is}
use Rattle.rt_packet.proofs.request.TakenLaws.{whole_taken, prefix_taken}
use Rattle.rt_packet.proofs.request.parsing.parse_request.Goals as goal

pub returns-in-Some-clause-spelled : goal.returns-in-Some-clause-spelled
returns-in-Some-clause-spelled c =
    λ r h. whole_is c.args.payload.now c.in-Some.request r c.in-Some.ensures h

pub returns-in-None-clause-spelled : goal.returns-in-None-clause-spelled
returns-in-None-clause-spelled c =
    λ r h. prefix_is c.args.payload.now c.request_by_prefix.result r c.in-None.ensures c.request_by_prefix.ensures h

pub returns-in-Some-clause-written : goal.returns-in-Some-clause-written
returns-in-Some-clause-written c = λ known. whole_taken c.args.payload.now c.in-Some.request c.in-Some.ensures known

pub returns-in-None-clause-written : goal.returns-in-None-clause-written
returns-in-None-clause-written c =
    λ known. prefix_taken c.args.payload.now c.request_by_prefix.result c.in-None.ensures c.request_by_prefix.ensures known
