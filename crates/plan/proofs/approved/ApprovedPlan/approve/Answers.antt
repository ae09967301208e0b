use Rattle.plan.specs.Plans.{plan_of}
use Rattle.plan.proofs.Approvals.{filled}
use Rattle.plan.proofs.approved.ApprovedPlan.approve.Goals as goal

pub returns : goal.returns
returns g c =
    let judged = c.in_ok-shaped.ensures in
    filled (g.M.Interference.nodes c.args.model.now) (g.M.Interference.conflict c.args.model.now) c.args.tree.now
    c.args.draft.transmissions.now c.args.draft.counts.now judged.2.0 (plan_of c.args.self.now)
    (plan_of c.laid_out.result) c.in_ok-shaped.distance judged.2.1 (rw (judged.0, judged.1) at c.laid_out.ensures)
