-- A site as its records are kept, and the reading of them.
use Rattle.std.specs.Prelude.{◌≡◌, ℕ, ◌+◌, ◌*◌, ◌≤◌, List, length, Some, None, Ok, Err, Result}
use Rattle.listing.specs.declared.records.Records.{Records}
use Rattle.listing.specs.declared.stop.Stop.{Stop}
use Rattle.listing.specs.declared.survey.PlannedSite.{PlannedSite}
use Rattle.listing.specs.declared.survey.Survey.{Survey}
use Rattle.listing.specs.Listings.{Ends, plan_story, story_of}
use Rattle.listing.specs.Records.{script_in}
use Rattle.listing.specs.Sites.{Site, bare, planned_site, site_in, surveyed}
use Rattle.plan.specs.Plans.{plan_of}

abbrev pub site_of : Survey → Site
site_of s = record { count = s.count; edges = s.edges.items; links = s.links.items }

-- there is room for all records that the bytes can hold: an edge record has three bytes, a tree record four
abbrev pub Roomy : Survey → Records → Type 0
Roomy s rs = 3 * length s.edges.items + 4 * length s.links.items + length rs.rest.now ≤ 16384

-- the nodes record was read
abbrev pub NodesRead : Records → Result (ℕ × Records) Stop → Type 0
NodesRead rs (Ok p) = (site_in (script_in rs) ≡ surveyed (bare p.0) (script_in p.1)) × (p.1.total ≡ rs.total)
NodesRead rs (Err stop) = site_in (script_in rs) ≡ Err stop

-- the other records of the site were read
abbrev pub SiteRead : Survey → Survey → Records → Result Records Stop → Type 0
SiteRead s s' rs (Ok rest) =
    (surveyed (site_of s) (script_in rs) ≡ Ok (site_of s', script_in rest)) × (s'.count ≡ s.count)
SiteRead s s' rs (Err stop) = surveyed (site_of s) (script_in rs) ≡ Err stop

-- the site of the file was read and planned; or the listing stops before a line is written
abbrev pub Planned : List ℕ → Result (PlannedSite × Records) Stop → Type 0
Planned file (Ok p) =
    (story_of file ≡ plan_story None (plan_of p.0.plan) (script_in p.1)) × (planned_site file ≡ Ok (p.0.nodes, plan_of p.0.plan))
Planned file (Err stop) = (story_of file ≡ Ends (Some stop)) × (planned_site file ≡ Err stop)
