-- The site of a file that has no plan.
use Rattle.std.proofs.Common.{◌≡◌, ℕ, ◌≤◌, List, length, Some, Ok, Err, sym, ap, ◌∙◌}
use Rattle.listing.specs.declared.records.Records.{Records}
use Rattle.listing.specs.declared.stop.Stop.{Stop}
use Rattle.listing.specs.declared.stop.SiteFault.{SiteFault}
use Rattle.listing.specs.declared.stop.StopFault.TheVariants.{Unplanned}
use Rattle.listing.specs.Listings.{Ends, plan_story, site_story, story_of}
use Rattle.listing.specs.Records.{offset_in, script_in}
use Rattle.listing.specs.Scripts.{offset_of, script_of}
use Rattle.listing.specs.Sites.{Site, planned, planned_from, planned_or, planned_site, site_fault, site_in}
use Rattle.listing.specs.Stops.{stop_at}
use Rattle.listing.proofs.Reading.{script_offset}
use Rattle.std.proofs.lemmas.Bool.{cond-false, le-ltb}

-- what the site of a file gives, where it has no plan
pub file_unplanned : (file : List ℕ) → length file ≤ 16384 → (s : Site) (rest : Records) → site_in (script_of (length file) file) ≡ Ok (s, script_in rest)
    → (f : SiteFault) (stop : Stop) → site_fault s ≡ Some f → stop ≡ stop_at (Unplanned f) (offset_in rest)
    → (story_of file ≡ Ends (Some stop)) × (planned_site file ≡ Err stop)
file_unplanned file small s rest is f stop fault at =
    let o : stop_at (Unplanned f) (offset_of (script_in rest)) ≡ stop = ap (stop_at (Unplanned f)) (script_offset rest.total rest.rest.now) ∙ sym at in (
      cond-false _ _ _ (le-ltb _ _ small) ∙ ap site_story is ∙ ap (λ g. plan_story g (planned s) (script_in rest)) fault ∙ ap (λ t. Ends (Some t)) o,
      cond-false _ _ _ (le-ltb _ _ small) ∙ ap planned_from is ∙ ap (λ g. planned_or g s (script_in rest)) fault ∙ ap (λ t. Err t) o,
    )
