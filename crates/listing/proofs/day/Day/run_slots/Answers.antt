use Rattle.std.proofs.Common.{◌≡◌, ◌+◌, ◌-◌, ◌∙◌, subst, arith}
use Rattle.engine.specs.Engines.{view}
use Rattle.listing.proofs.Slots.{Running, one_more, stopped_run}
use Rattle.listing.proofs.day.Day.run_slots.Goals as goal
use Rattle.std.proofs.lemmas.Result.{err_from_is_err_and}

pub returns-in_err-tell-clause-ran : goal.returns-in_err-tell-clause-ran
returns-in_err-tell-clause-ran c =
    let p = err_from_is_err_and c.from_residual.result c.from_residual.ensures.1 in
    rw (p.1, p.2)
    (stopped_run c.loop.invariant.1 (view c.slot-outcome.new.engine) c.slot-outcome.result c.outcome_line.result c.tell.new.self (omega arith)
    c.slot-outcome.ensures c.outcome_line.ensures c.in_err-tell.field-0.0 c.in_err-tell.ensures.told)

pub loop-preserved : goal.loop-preserved
loop-preserved c = (
  c.in_ok-tell.ensures.same ∙ c.loop.invariant.0,
  subst (λ left. Running c.args.offset c.args.slots (view c.args.self.now.engine) c.args.page.now left (view c.slot-outcome.new.engine) c.tell.new.self)
      (let e : c.args.slots - c.loop.counter - 1 ≡ c.args.slots - (c.loop.counter + 1) = omega arith in e)
      (one_more c.loop.invariant.1 (view c.slot-outcome.new.engine) c.slot-outcome.result c.outcome_line.result c.tell.new.self (omega arith)
      c.slot-outcome.ensures c.outcome_line.ensures c.in_ok-tell.ensures.told),
)
