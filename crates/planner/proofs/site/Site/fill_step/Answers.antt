use Rattle.std.proofs.Common.{arith}
use Rattle.planner.proofs.Steps.{join_end, join_more, join_none, join_room, join_slots, join_start, join_within}
use Rattle.planner.proofs.site.Site.fill_step.Goals as goal

pub loop-candidate-init : goal.loop-candidate-init
loop-candidate-init g c =
    join_start _ c.args.self.now.routes.now (g.M.Interference.nodes c.args.self.now.model.now) _ c.args.out.now c.args.left.now
    (g.met.M.Interference.most c.args.self.now.model.now) c.told-left c.candidates-ready.ensures

pub to_parent-t-requires : goal.to_parent-t-requires
to_parent-t-requires g c = omega (arith, join_within c.loop-candidate.invariant c.in-Some.candidate c.in-Some.ensures.0, c.told-left)

pub bounds-out-size : goal.bounds-out-size
bounds-out-size g c = join_room c.loop-candidate.invariant c.in-Some.candidate c.in-Some.ensures.0 (rw c.to_parent-t.ensures at c.if-is_free.ensures) c.requires

pub overflow_sub-left : goal.overflow_sub-left
overflow_sub-left g c = rw c.from.ensures (join_slots c.loop-candidate.invariant c.in-Some.candidate c.in-Some.ensures.0 (rw c.to_parent-t.ensures at c.if-is_free.ensures))

pub loop-candidate-preserved : goal.loop-candidate-preserved
loop-candidate-preserved g c = join_none c.loop-candidate.invariant c.in-Some.candidate c.in-Some.ensures.0 (rw c.to_parent-t.ensures at c.if-is_free.ensures)

pub loop-candidate-preserved-then-is_free : goal.loop-candidate-preserved-then-is_free
loop-candidate-preserved-then-is_free g c =
    rw (c.from.ensures, c.to_parent-t.ensures) (join_more c.loop-candidate.invariant c.in-Some.candidate c.in-Some.ensures.0
    (rw c.to_parent-t.ensures at c.if-is_free.ensures) (g.met.M.Interference.shared c.args.self.now.model.now) c.requires)

pub returns : goal.returns
returns g c = join_end c.loop-candidate.invariant c.in_default.ensures.0
