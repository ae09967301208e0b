use Rattle.std.proofs.Common.{map, ap}
use Rattle.engine.specs.Engines.{view}
use Rattle.engine.specs.Views.{rows_of}
use Rattle.engine.proofs.Settles.{call_good, settled}
use Rattle.engine.proofs.state.Engine.release.Goals as goal
use Rattle.rules.specs.Rows.{release_row, row_of}
use Rattle.rules.specs.Rules.{release_refusal, with_rows}
use Rattle.rules.specs.declared.call.Call.TheVariants.{Release}

pub invariant_of-self-clause-good : goal.invariant_of-self-clause-good
invariant_of-self-clause-good c =
    let e = c.args.self.now in
    let done =
    settled (view e) (release_refusal (row_of c.args.number (view e).rows) e.slot) c.release.result
    (rows_of c.release.new.self) (map (release_row e.slot c.args.number) (view e).rows) c.release.ensures in
    call_good (view e) (with_rows (view e) (rows_of c.release.new.self)) e.good (Release c.args.number) (ap (λ p. p.1) done)
