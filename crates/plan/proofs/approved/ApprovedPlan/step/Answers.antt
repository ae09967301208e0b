use Rattle.std.proofs.Common.{◌≡◌, ◌+◌, ◌-◌, ◌<◌, ◌≤◌, length, get_or, take, drop, ap, ◌∙◌, arith}
use Rattle.plan.proofs.Layouts.{ends_within, part_at}
use Rattle.plan.proofs.approved.ApprovedPlan.step.Goals as goal
use Rattle.std.proofs.lemmas.List.{length-take-le}

pub slice_bounds-result-end : goal.slice_bounds-result-end
slice_bounds-result-end c =
    let p = c.args.self.now in
    let long : p.steps ≤ length p.counts = omega arith in
    let steps = length-take-le p.steps p.counts long in
    let below : c.args.step < p.steps = omega (arith, c.length.ensures.value, c.if-step-length.false) in
    let end = ends_within p.counts p.steps c.args.step below long in
    let start = p.laid c.args.step below in
    omega arith

pub returns : goal.returns
returns c =
    let p = c.args.self.now in
    let k = c.args.step in
    let long : p.steps ≤ length p.counts = omega arith in
    let steps = length-take-le p.steps p.counts long in
    let below : k < p.steps = omega (arith, c.length.ensures.value, c.if-step-length.false) in
    let start = p.laid k below in
    let part = part_at p.counts p.steps k below long p.transmissions p.size p.whole in
    let size : get_or p.starts k 0 + get_or p.counts k 0 - get_or p.starts k 0 ≡ get_or p.counts k 0 = omega arith in (
      omega arith,
      ap (λ m. take m (drop (get_or p.starts k 0) p.transmissions)) size
          ∙ ap (λ m. take (get_or p.counts k 0) (drop m p.transmissions)) start ∙ part,
    )
