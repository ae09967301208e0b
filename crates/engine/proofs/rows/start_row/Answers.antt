use Rattle.std.proofs.Common.{◌<◌, length, arith}
use Rattle.engine.proofs.Changes.{starts_all, starts_here, starts_past}
use Rattle.engine.proofs.rows.start_row.Goals as goal
use Rattle.engine.proofs.rows.start_row.Goals.{then-row-number, else-row-number}

pub loop-row-preserved : goal.loop-row-preserved
loop-row-preserved c =
    let below : c.loop-row.row-index < length c.args.rows.now = omega arith in
    elim c.if-row-number.branch [
      | then-row-number w ↦
          rw w.rows-is
          (starts_here c.args.number c.args.rows.now c.loop-row.rows c.loop-row.row-index below c.loop-row.auto.rows c.loop-row.invariant _
          w.if-row-number.true w.after_start-row.ensures)
      | else-row-number w ↦
          rw w.rows-is
          (starts_past c.args.number c.args.rows.now c.loop-row.rows c.loop-row.row-index below c.loop-row.auto.rows c.loop-row.invariant
          w.if-row-number.false)
    ]

pub returns : goal.returns
returns c = starts_all c.args.number c.args.rows.now c.loop-row.rows c.loop-row.row-index c.loop-row-test.false c.loop-row.invariant
