use Rattle.std.proofs.Common.{refl, arith}
use Rattle.planner.proofs.Readiness.{mark_none, mark_some, mark_start, mark_upto}
use Rattle.planner.proofs.site.Site.awaiting.Goals as goal
use Rattle.planner.proofs.site.Site.awaiting.Goals.{then-left-i-gt0, else-left-i-gt0}
use Rattle.std.proofs.lemmas.List.{length-set}

pub loop-i-init : goal.loop-i-init
loop-i-init g c = (refl, mark_start c.args.self.now.routes.now.parents c.args.left.now)

pub loop-i-preserved : goal.loop-i-preserved
loop-i-preserved g c =
    let parents = c.args.self.now.routes.now.parents in
    elim c.if-left-i-gt0.branch [
      | then-left-i-gt0 w ↦ rw (w.table-is, w.from.ensures) (
        simp length-set c.loop-i.invariant.0,
        mark_some parents c.args.left.now c.loop-i.i c.loop-i.table w.if-left-i-gt0.true
            c.loop-i.invariant.0 c.loop-i.invariant.1,
      )
      | else-left-i-gt0 w ↦ rw w.table-is (
        c.loop-i.invariant.0,
        mark_none parents c.args.left.now c.loop-i.i c.loop-i.table w.if-left-i-gt0.false
            c.loop-i.invariant.1,
      )
    ]

pub returns : goal.returns
returns g c =
    mark_upto c.args.self.now.routes.now.parents c.args.left.now c.loop-i.i c.args.n c.loop-i.table (omega arith)
    c.loop-i.invariant.1
