use Rattle.std.proofs.Common.{length, ap, arith}
use Rattle.engine.proofs.Rounds.{lines_more}
use Rattle.engine.proofs.running.RunningRounds.write_lines.Goals as goal

pub loop-i-preserved : goal.loop-i-preserved
loop-i-preserved c =
    let rounds = ap length c.deref-round-items.ensures.0 in
    lines_more c.args.slot c.deref-round-items.result.now c.args.lines.now c.loop-i.lines c.loop-i.i
    c.loop-i-test.true (omega arith) c.loop-i.invariant
