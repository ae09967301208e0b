use Rattle.std.proofs.Common.{◌≡◌, Some, ap, ◌∙◌, arith}
use Rattle.routing.proofs.Trees.{walk_home, walk_lost, walk_more, walk_start}
use Rattle.routing.proofs.tables.Parents.hops.Goals as goal

pub loop-i-init : goal.loop-i-init
loop-i-init c = walk_start _ _ _

pub returns-then-at-eq0 : goal.returns-then-at-eq0
returns-then-at-eq0 c = walk_home _ _ c.loop-i.i _ c.loop-i.at c.loop-i.invariant c.if-at-eq0.true

pub loop-i-preserved : goal.loop-i-preserved
loop-i-preserved c = rw c.of-at.ensures (walk_more _ _ c.loop-i.i _ c.loop-i.at c.loop-i-test.true c.if-at-eq0.false c.loop-i.invariant)

pub returns-then-at-eq0-2 : goal.returns-then-at-eq0-2
returns-then-at-eq0-2 c =
    let done : c.args.most ≡ c.loop-i.i = omega arith in
    ap Some done ∙ walk_home _ _ c.loop-i.i _ c.loop-i.at c.loop-i.invariant c.if-at-eq0-2.true

pub returns-else-at-eq0-2 : goal.returns-else-at-eq0-2
returns-else-at-eq0-2 c = walk_lost _ _ c.loop-i.i _ c.loop-i.at (omega arith) c.if-at-eq0-2.false c.loop-i.invariant
