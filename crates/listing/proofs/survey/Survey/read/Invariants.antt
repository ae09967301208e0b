use Rattle.std.proofs.Common.{◌≡◌, length}
use Rattle.listing.specs.Records.{script_in}
use Rattle.listing.specs.Sites.{surveyed}
use Rattle.listing.specs.Surveys.{Roomy, site_of}
use Rattle.listing.proofs.survey.Survey.read.Given as goal

abbrev pub invariant-loop-said : goal.invariant-loop-said
invariant-loop-said l =
    (surveyed (site_of l.initial.self) (script_in l.records) ≡ surveyed (site_of l.self) (script_in l.rest))
    × (l.self.count ≡ l.initial.self.count) × Roomy l.self l.rest

abbrev pub decreases-loop-said : goal.decreases-loop-said
decreases-loop-said l = length l.rest.rest.now
