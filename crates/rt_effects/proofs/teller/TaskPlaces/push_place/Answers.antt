use Rattle.rt_names.proofs.ShortLemmas.{namer-short}
use Rattle.rt_effects.proofs.teller.TaskPlaces.push_place.Goals as goal

pub push_part-requires-clause-short : goal.push_part-requires-clause-short
push_part-requires-clause-short c = namer-short c.self.inside.places c.args.address c.namer_at.result c.self.invariant c.namer_at.ensures
