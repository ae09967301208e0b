use Rattle.std.proofs.Common.{map, ap}
use Rattle.engine.specs.Engines.{view}
use Rattle.engine.specs.Views.{rows_of}
use Rattle.engine.proofs.Settles.{call_good, settled}
use Rattle.engine.proofs.state.Engine.close.Goals as goal
use Rattle.rules.specs.Rows.{close_row, row_of}
use Rattle.rules.specs.Rules.{unless_open, with_rows}
use Rattle.rules.specs.declared.call.Call.TheVariants.{Close}

pub invariant_of-self-clause-good : goal.invariant_of-self-clause-good
invariant_of-self-clause-good c =
    let e = c.args.self.now in
    let done =
    settled (view e) (unless_open (row_of c.args.number (view e).rows)) c.close.result
    (rows_of c.close.new.self) (map (close_row c.args.number) (view e).rows) c.close.ensures in
    call_good (view e) (with_rows (view e) (rows_of c.close.new.self)) e.good (Close c.args.number) (ap (λ p. p.1) done)
