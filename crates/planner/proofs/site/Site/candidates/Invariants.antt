use Rattle.planner.specs.Planner.{is_ready}
use Rattle.planner.proofs.Readiness.{Gathering}
use Rattle.planner.proofs.site.Site.candidates.Given as goal

-- the ready nodes below v wait
abbrev pub invariant-loop-v : goal.invariant-loop-v
invariant-loop-v g l = Gathering (is_ready l.self.routes.now.parents l.left l.n) l.self.routes.now.depths l.v l.ready
