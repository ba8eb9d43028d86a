use Rattle.rt_chart.proofs.PlaceLaws.{place-rises, place-within}
use Rattle.rt_chart.proofs.laws.places_rise.Goals as goal

pub returns-clause-rising : goal.returns-clause-rising
returns-clause-rising c = place-rises

pub returns-clause-within : goal.returns-clause-within
returns-clause-within c = place-within
