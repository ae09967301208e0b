use Rattle.std.proofs.Common.{◌≡◌, length}
use Rattle.planner.proofs.Readiness.{Marked}
use Rattle.planner.proofs.site.Site.awaiting.Given as goal

-- the parents of the unfinished nodes below i are marked
abbrev pub invariant-loop-i : goal.invariant-loop-i
invariant-loop-i g l = (length l.table ≡ 64) × Marked l.self.routes.now.parents l.left l.i l.table
