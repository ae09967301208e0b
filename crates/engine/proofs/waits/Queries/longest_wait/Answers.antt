use Rattle.std.proofs.Common.{arith}
use Rattle.engine.specs.Tables.{queries_of}
use Rattle.engine.proofs.Climbs.{climb_found, climb_lost}
use Rattle.engine.proofs.waits.Queries.longest_wait.Goals as goal
use Rattle.rules.proofs.Waiting.{climbs, stays_below}

pub returns-then-next-wait-clause-value : goal.returns-then-next-wait-clause-value
returns-then-next-wait-clause-value c =
    let queries = c.args.self.now in
    climb_found queries.distance (queries_of queries.rows.now queries.extra) c.args.q.now c.loop-wait.wait
    c.loop-wait.invariant.1 c.demand-next.result c.demand-next.ensures c.if-next-wait.true (omega arith)

pub loop-wait-preserved : goal.loop-wait-preserved
loop-wait-preserved c =
    let queries = c.args.self.now in
    let t = queries_of queries.rows.now queries.extra in (
      climbs queries.distance t c.args.q.now c.loop-wait.wait c.demand-next.result c.demand-next.ensures
          c.loop-wait.invariant.1 (omega (arith, c.demand-next.ensures)),
      stays_below queries.distance t c.args.q.now c.loop-wait.wait c.demand-next.result c.demand-next.ensures
          c.loop-wait.invariant.1,
    )

pub returns-clause-value : goal.returns-clause-value
returns-clause-value c =
    let queries = c.args.self.now in
    climb_lost queries.distance (queries_of queries.rows.now queries.extra) c.args.q.now c.loop-wait.wait
    c.loop-wait.invariant.1 (omega arith)
