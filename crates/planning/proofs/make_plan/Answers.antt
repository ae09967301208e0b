use Rattle.plan.specs.Plans.{plan_of}
use Rattle.planner.proofs.Used.{steps_within, used_within}
use Rattle.planning.proofs.Law.{always}
use Rattle.planning.proofs.Makings as makings
use Rattle.planning.proofs.make_plan.Goals as goal

pub slice_bounds-draft-end : goal.slice_bounds-draft-end
slice_bounds-draft-end g c = let done = c.in-Ok.ensures in used_within _ _ _ _ done.1 done.3

pub slice_bounds-draft-end-2 : goal.slice_bounds-draft-end-2
slice_bounds-draft-end-2 g c = let done = c.in-Ok.ensures in steps_within _ _ _ _ done.2 done.4

pub unreachable-requires-in-Err : goal.unreachable-requires-in-Err
unreachable-requires-in-Err g c =
    let m = c.args.model.now in
    makings.never_refused (g.M.Interference.nodes m) (g.M.Interference.conflict m) c.args.tree.now _ c.plan.new.transmissions
    _ c.plan.new.counts c.in-Ok.size c.in-Ok.ensures (g.met.M.Interference.most m) (g.met.M.Interference.shared m)
    c.in-Err.field-0 c.in-Err.ensures.0

pub returns-in-Ok-approve : goal.returns-in-Ok-approve
returns-in-Ok-approve g c =
    let m = c.args.model.now in
    let n = g.M.Interference.nodes m in
    let conflict = g.M.Interference.conflict m in
    let ls = c.args.tree.now in
    let d = c.in-Ok-approve.ensures in
    record {
      made = (
        makings.sound n conflict ls _ c.plan.new.transmissions _ c.plan.new.counts c.in-Ok.size c.in-Ok.ensures,
        makings.holds n conflict ls _ c.plan.new.transmissions _ c.plan.new.counts c.in-Ok.size c.in-Ok.ensures
            (plan_of c.approve.new.self) d.1 d.2 d.3 d.4,
      );
      always = always n conflict ls (g.met.M.Interference.most m) (g.met.M.Interference.shared m);
    }
