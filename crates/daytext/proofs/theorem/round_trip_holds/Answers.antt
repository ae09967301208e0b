use Rattle.daytext.proofs.RoundTrip.{round_trip}
use Rattle.daytext.proofs.theorem.round_trip_holds.Goals as goal

pub returns : goal.returns
returns c = round_trip
