use Rattle.std.proofs.Common.{◌+◌, ◌<◌, ◌≢◌, length, arith, below_more}
use Rattle.plan.proofs.shape.Shaped.start_table.Goals as goal
use Rattle.std.proofs.lemmas.List.{get_or-set_other, get_or-set_same, length-set}
use Rattle.std.proofs.lemmas.List.Sums.{sum_by_more, sum_by-take-le}

pub overflow_add-at : goal.overflow_add-at
overflow_add-at c =
    let more = sum_by_more (λ x. x) c.args.self.counts.now c.loop-i.i 0 c.loop-i-test.true in
    let most = sum_by-take-le (λ x. x) c.args.self.counts.now (c.loop-i.i + 1) in
    omega arith

pub loop-i-preserved : goal.loop-i-preserved
loop-i-preserved c =
    let i = c.loop-i.i in
    let more = sum_by_more (λ x. x) c.args.self.counts.now i 0 c.loop-i-test.true in (
      simp length-set c.loop-i.invariant.0,
      omega arith,
      below_more _ _
          (λ k h. let ne : k ≢ i = omega arith in rw get_or-set_other (c.loop-i.invariant.2 k h))
          (let lt : i < length c.loop-i.starts = omega arith in rw get_or-set_same c.loop-i.invariant.1),
    )
