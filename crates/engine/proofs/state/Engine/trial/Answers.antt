use Rattle.std.proofs.Common.{◌≡◌, Ok, rules, arith}
use Rattle.engine.specs.Engines.{view}
use Rattle.engine.proofs.Means.{trial_judged}
use Rattle.engine.proofs.Safe.{reckoned}
use Rattle.engine.proofs.state.Engine.trial.Goals as goal
use Rattle.rules.specs.Rules.{trial}

pub invariant_of-queries : goal.invariant_of-queries
invariant_of-queries c =
    let e = c.args.self.now in
    reckoned (view e) e.good c.deref.result.now c.deref.ensures.0 e.spread (omega arith)

pub returns-in_err-row-clause-judged : goal.returns-in_err-row-clause-judged
returns-in_err-row-clause-judged c =
    let e = c.args.self.now in
    let done : (c.from_residual.result, view e) ≡ trial c.args.priority c.args.period c.args.deadline (view e) = search rules in
    trial_judged (view e) e.good c.args.priority c.args.period c.args.deadline _ (view e) done

pub returns-clause-judged : goal.returns-clause-judged
returns-clause-judged c =
    let e = c.args.self.now in
    let done : (Ok c.in_ok-row.row.number, view e) ≡ trial c.args.priority c.args.period c.args.deadline (view e) = search rules in
    trial_judged (view e) e.good c.args.priority c.args.period c.args.deadline (Ok c.in_ok-row.row.number) (view e) done
