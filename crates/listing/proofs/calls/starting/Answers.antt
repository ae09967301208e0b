use Rattle.std.proofs.Common.{arith}
use Rattle.listing.proofs.Days.{starting_here, starting_none, starting_on}
use Rattle.listing.proofs.calls.starting.Goals as goal

pub returns-then-line-eq0 : goal.returns-then-line-eq0
returns-then-line-eq0 c =
    starting_here c.args.lines.now c.loop-line.line-index c.loop-line.invariant (omega arith) c.if-line-eq0.true

pub loop-line-preserved : goal.loop-line-preserved
loop-line-preserved c =
    starting_on c.args.lines.now c.loop-line.line-index c.loop-line.invariant (omega arith) c.if-line-eq0.false

pub returns : goal.returns
returns c = starting_none c.args.lines.now c.loop-line.line-index c.loop-line.invariant (omega arith)
