use Rattle.planner.specs.Planner.{steps_from}
use Rattle.planner.proofs.Plans.{Planning}
use Rattle.planner.proofs.site.Site.fill_steps.Given as goal

-- what is left of the slots completes the plan
abbrev pub invariant-loop-steps : goal.invariant-loop-steps
invariant-loop-steps g l =
    Planning (g.M.Interference.conflict l.self.model.now) (g.M.Interference.nodes l.self.model.now) l.self.routes.now
    (steps_from (g.M.Interference.conflict l.self.model.now) (g.M.Interference.nodes l.self.model.now) l.self.routes.now 256 l.self.routes.now.slots)
    l.initial.transmissions l.initial.counts l.left l.remaining l.sent l.steps l.transmissions l.counts
