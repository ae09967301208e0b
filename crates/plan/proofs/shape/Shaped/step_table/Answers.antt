use Rattle.std.proofs.Common.{◌≡◌, ◌+◌, take, sum, ap, ◌∙◌, arith}
use Rattle.plan.proofs.Marks.{stepped_more}
use Rattle.plan.proofs.shape.Shaped.step_table.Goals as goal
use Rattle.std.proofs.lemmas.List.{take_all}
use Rattle.std.proofs.lemmas.List.Sums.{sum_by_more, sum_by-take-le}

pub overflow_add-end : goal.overflow_add-end
overflow_add-end c =
    let most = sum_by-take-le (λ x. x) c.args.self.counts.now c.loop-i.i in omega arith

pub mark-requires : goal.mark-requires
mark-requires c =
    let more = sum_by_more (λ x. x) c.args.self.counts.now c.loop-i.i 0 c.loop-i-test.true in
    let most = sum_by-take-le (λ x. x) c.args.self.counts.now (c.loop-i.i + 1) in
    (omega arith, omega arith)

pub loop-i-preserved : goal.loop-i-preserved
loop-i-preserved c =
    let more = sum_by_more (λ x. x) c.args.self.counts.now c.loop-i.i 0 c.loop-i-test.true in (
      c.mark.auto.table ∙ c.loop-i.invariant.0,
      omega arith,
      stepped_more c.args.self.counts.now c.loop-i.table c.mark.new.table c.loop-i.i c.loop-i.at _
          c.loop-i-test.true c.loop-i.invariant.1 (ap (λ n. c.loop-i.at + n) c.from.ensures) c.loop-i.invariant.2 c.mark.ensures,
    )

pub returns : goal.returns
returns c k h =
    let all : sum (take c.loop-i.i c.args.self.counts.now) ≡ sum c.args.self.counts.now =
    ap sum (take_all c.loop-i.i c.args.self.counts.now c.loop-i-test.false) in
    c.loop-i.invariant.2 k (omega arith)
