use Rattle.engine.proofs.Promises.{promise_for}
use Rattle.engine.proofs.state.Engine.open.Goals as goal
use Rattle.plan.specs.Plans.{plan_of}

pub returns-then-first-gt-LAST_SLOT-clause-promise : goal.returns-then-first-gt-LAST_SLOT-clause-promise
returns-then-first-gt-LAST_SLOT-clause-promise c = promise_for (plan_of c.args.plan.now) c.args.first

pub returns-clause-promise : goal.returns-clause-promise
returns-clause-promise c = promise_for (plan_of c.args.plan.now) c.args.first
