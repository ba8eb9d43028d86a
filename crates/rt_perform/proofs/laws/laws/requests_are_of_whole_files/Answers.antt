use Rattle.rt_perform.proofs.Common.{first_kind, Works}
use Rattle.rt_perform.proofs.laws.Requests.{works}
use Rattle.rt_perform.proofs.laws.Wholes.{of_whole}
use Rattle.rt_perform.proofs.laws.laws.requests_are_of_whole_files.Goals as goal

pub returns : goal.returns
returns g c request whole bytes names less input old out result new after =
    of_whole (first_kind request) (λ file. Works g.S.Sink.seen request file names less input old out result new after)
    (λ a b like back. works g.S.Sink.seen request names less input old out result new after a b like) whole bytes
