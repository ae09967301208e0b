use Rattle.std.proofs.Common.{◌≡◌, length}
use Rattle.engine.specs.Engines.{view}
use Rattle.listing.specs.Listings.{day_story}
use Rattle.listing.specs.Records.{script_in}
use Rattle.listing.specs.Turns.{Turned}
use Rattle.listing.proofs.day.Day.run.Given as goal

abbrev pub invariant-loop-said : goal.invariant-loop-said
invariant-loop-said l =
    (l.page.out.ghost_name ≡ l.initial.page.out.ghost_name)
    × Turned (day_story (view l.initial.self.engine) (script_in l.records)) l.initial.page (day_story (view l.self.engine) (script_in l.rest)) l.page

abbrev pub decreases-loop-said : goal.decreases-loop-said
decreases-loop-said l = length l.rest.rest.now
