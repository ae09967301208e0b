use Rattle.planner.proofs.Bounds.{parents_below, slots_within}
use Rattle.planner.proofs.planner.plan.Goals as goal

pub invariant_of-site : goal.invariant_of-site
invariant_of-site g c =
    let few = g.met.M.Interference.most c.args.model.now in
    let read = c.in_ok-routes.ensures in
    record { within = parents_below _ _ few read.0 _ read.1; few = slots_within _ _ few read.0 _ read.1 }
