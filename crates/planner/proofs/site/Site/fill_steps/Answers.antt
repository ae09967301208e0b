use Rattle.std.proofs.Common.{◌≡◌, inl, inr, arith}
use Rattle.planner.proofs.Plans.{plan_end, plan_more, plan_room, plan_start}
use Rattle.planner.proofs.site.Site.fill_steps.Goals as goal

pub loop-steps-init : goal.loop-steps-init
loop-steps-init g c =
    plan_start _ _ c.args.self.now.routes.now _ _ c.total_slots-remaining.result
    c.total_slots-remaining.ensures c.args.self.now.few

pub fill_step-size-requires : goal.fill_step-size-requires
fill_step-size-requires g c = plan_room c.loop-steps.invariant c.requires.0 c.requires.1

pub returns-then-remaining-eq0 : goal.returns-then-remaining-eq0
returns-then-remaining-eq0 g c = plan_end c.loop-steps.invariant c.requires.0 c.requires.1 (inl (omega arith))

pub loop-steps-preserved : goal.loop-steps-preserved
loop-steps-preserved g c =
    plan_more c.loop-steps.invariant c.requires.0 c.requires.1 (omega arith) c.loop-steps-test.true _ _ _
    c.fill_step-size.ensures

pub returns : goal.returns
returns g c =
    let all : c.loop-steps.steps ≡ 256 = omega (arith, c.loop-steps.invariant.few) in
    rw all at (plan_end c.loop-steps.invariant c.requires.0 c.requires.1 (inr c.loop-steps-test.false))
