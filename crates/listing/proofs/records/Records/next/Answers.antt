use Rattle.std.proofs.Common.{◌≡◌, ◌-◌, ◌<◌, length, refl, ap, ◌∙◌, arith, rules}
use Rattle.listing.specs.Scripts.{Over}
use Rattle.listing.proofs.Mapped.{failed, passed}
use Rattle.listing.proofs.Reading.{next_size, script_broken, script_end, script_next}
use Rattle.listing.proofs.records.Records.next.Goals as goal
use Rattle.std.proofs.lemmas.Result.{MatchResult-at_err, MatchResult-at_ok, err_from_is_err_and}

pub returns-then-is_empty : goal.returns-then-is_empty
returns-then-is_empty c =
    let rs = c.args.self.now in
    let none : length rs.rest.now ≡ 0 = search rules in
    script_end rs.total rs.rest.now none ∙ ap Over (let e : rs.total ≡ rs.total - length rs.rest.now = omega arith in e)

pub returns-in_err-record : goal.returns-in_err-record
returns-in_err-record c =
    let rs = c.args.self.now in
    let some : 0 < length rs.rest.now = search rules in
    let p = err_from_is_err_and c.from_residual.result c.from_residual.ensures.1 in
    let (fault, is, stop) = failed c.next.result _ _ c.in_err-record.ensures.cases in
    rw (p.1, p.2) (record {
      fault = fault;
      script = script_broken rs.total rs.rest.now fault some (MatchResult-at_err _ _ fault is c.next.ensures.answer);
      is = let at = c.offset-offset.ensures in search rules;
    })

pub returns : goal.returns
returns c =
    let rs = c.args.self.now in
    let some : 0 < length rs.rest.now = search rules in
    let is = passed _ c.next.result _ c.in_ok-record.ensures.cases in
    let read = MatchResult-at_ok _ _ _ is c.next.ensures.answer in
    record {
      script = script_next rs.total rs.rest.now c.in_ok-record.record c.in_ok-record.rest.now some read;
      total = refl;
      size = next_size rs.rest.now c.in_ok-record.record c.in_ok-record.rest.now read;
    }
