use Rattle.std.proofs.Common.{◌≡◌, rules, sym, subst, arith}
use Rattle.engine.specs.Engines.{view}
use Rattle.engine.specs.Meanings.{Waited}
use Rattle.engine.proofs.Means.{waited}
use Rattle.engine.proofs.Safe.{reckoned}
use Rattle.engine.proofs.state.Engine.wait.Goals as goal
use Rattle.rules.specs.Rules.{wait}

pub invariant_of-queries : goal.invariant_of-queries
invariant_of-queries c =
    let e = c.args.self.now in
    reckoned (view e) e.good c.deref.result.now c.deref.ensures.0 e.spread (omega arith)

pub returns-clause-least : goal.returns-clause-least
returns-clause-least c =
    let e = c.args.self.now in
    let value : c.ok_or-2.result ≡ wait c.args.number (view e) = search rules in
    subst (Waited c.args.number (view e)) (sym value) (waited (view e) e.good c.args.number)
