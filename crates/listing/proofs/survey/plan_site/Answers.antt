use Rattle.std.proofs.Common.{◌≡◌, ◌≤◌, length, Ok, sym, ap, ◌∙◌, arith, rules}
use Rattle.listing.specs.declared.stop.StopFault.TheVariants.{Unplanned}
use Rattle.listing.specs.Records.{script_in}
use Rattle.listing.specs.Scripts.{script_of}
use Rattle.listing.specs.Sites.{site_in, surveyed}
use Rattle.listing.specs.Stops.{stop_at}
use Rattle.listing.specs.Surveys.{site_of}
use Rattle.listing.proofs.Mapped.{failed}
use Rattle.listing.proofs.Surveys.{file_unplanned}
use Rattle.listing.proofs.survey.plan_site.Goals as goal
use Rattle.std.proofs.lemmas.Result.{MatchResult-at_err, err_from_is_err_and}

pub returns-in_err-plan : goal.returns-in_err-plan
returns-in_err-plan c =
    let file = c.args.file.now in
    let p = err_from_is_err_and c.from_residual-in_err-plan.result c.from_residual-in_err-plan.ensures.1 in
    let (fault, is, stop) = failed c.plan.result _ _ c.in_err-plan.ensures.cases in
    let at : c.in_err-plan.field-0.0 ≡ stop_at (Unplanned fault) c.offset-offset.result = search rules in
    let described : site_in (script_of (length file) file) ≡ Ok (site_of c.read.new.self, script_in c.in_ok-day.day) =
    (λ k. site_in (script_of (sym c.all.ensures.total k) (sym c.all.ensures.rest k)))
    ∙ c.in_ok-nodes.ensures.0
    ∙ ap (λ s. surveyed s (script_in c.in_ok-nodes.records)) (sym c.new-survey.ensures)
    ∙ c.in_ok-day.ensures.0 in
    let small : length file ≤ 16384 = omega arith in
    rw (p.1, p.2)
    (file_unplanned file small (site_of c.read.new.self) c.in_ok-day.day described fault c.in_err-plan.field-0.0 (MatchResult-at_err _ _ fault is c.plan.ensures)
    (let o = c.offset-offset.ensures in cc))
