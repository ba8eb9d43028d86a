use Rattle.rt_elf.proofs.UnreadLemmas.{refusal_stays, object_stays, kept_names_stay}
use Rattle.rt_elf.proofs.laws.unread_bytes_do_not_matter.Goals as goal

pub returns-clause-refused : goal.returns-clause-refused
returns-clause-refused c = refusal_stays

pub returns-clause-same : goal.returns-clause-same
returns-clause-same c = λ file place b unread none. (object_stays file place b unread none, kept_names_stay file place b unread none)
