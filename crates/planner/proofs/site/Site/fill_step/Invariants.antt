use Rattle.std.proofs.Common.{length}
use Rattle.planner.specs.Planner.{step_from}
use Rattle.planner.proofs.Steps.{Joining}
use Rattle.planner.proofs.site.Site.fill_step.Given as goal

-- what waits completes the step
abbrev pub invariant-loop-candidate : goal.invariant-loop-candidate
invariant-loop-candidate g l =
    Joining (g.M.Interference.conflict l.self.model.now) l.self.routes.now.parents
    (step_from (g.M.Interference.conflict l.self.model.now) (g.M.Interference.nodes l.self.model.now) l.self.routes.now l.initial.left)
    l.initial.out l.initial.left l.ready l.size l.out l.left

abbrev pub decreases-loop-candidate : goal.decreases-loop-candidate
decreases-loop-candidate g l = length l.ready
