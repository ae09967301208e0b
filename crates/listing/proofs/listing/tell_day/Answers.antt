use Rattle.std.proofs.Common.{◌≡◌, Some, rules}
use Rattle.lines.specs.declared.line.TextLine.TheVariants.{Plan}
use Rattle.listing.specs.Listings.{day_story, engine_of}
use Rattle.listing.specs.Records.{offset_in, script_in}
use Rattle.listing.specs.Scripts.{offset_of}
use Rattle.listing.specs.Stops.{stop_at}
use Rattle.listing.proofs.Mapped.{failed}
use Rattle.listing.proofs.Reading.{script_offset}
use Rattle.listing.proofs.Telling.{told_stops}
use Rattle.listing.proofs.listing.tell_day.Goals as goal
use Rattle.plan.specs.Plans.{plan_of}
use Rattle.std.proofs.lemmas.Result.{err_from_is_err_and}

pub returns-in_err-map_err-clause-told : goal.returns-in_err-map_err-clause-told
returns-in_err-map_err-clause-told c =
    let day = c.args.day in
    let p = err_from_is_err_and c.from_residual.result c.from_residual.ensures.1 in
    let (fault, is, stop) = failed c.tell.result _ _ c.in_err-map_err.ensures.cases in
    let here : offset_of (script_in day) ≡ offset_in day = script_offset day.total day.rest.now in
    let at : c.in_err-map_err.field-0.0 ≡ stop_at fault c.offset-offset.result = search rules in
    rw (p.1, p.2)
    (told_stops (Some (Plan c.from.result c.from-2.result)) _ c.args.page.now c.tell.new.self c.tell.result fault (offset_of (script_in day))
    (day_story (engine_of (plan_of c.args.plan.now)) (script_in day)) c.in_err-map_err.field-0.0 is c.tell.ensures.told (search rules)
    (let o = c.offset-offset.ensures in cc))
