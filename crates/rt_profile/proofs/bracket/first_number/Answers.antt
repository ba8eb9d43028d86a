use Rattle.rt_profile.proofs.BracketLaws.{from-whole}
use Rattle.rt_profile.proofs.bracket.first_number.Goals as goal

pub returns : goal.returns
returns c = from-whole c.args.bracket c.digits_beyond_in-beyond.result c.requires c.digits_beyond_in-beyond.ensures
