use Rattle.std.proofs.Common.{map, ap}
use Rattle.engine.specs.Engines.{view}
use Rattle.engine.specs.Views.{rows_of}
use Rattle.engine.proofs.Settles.{call_good, settled}
use Rattle.engine.proofs.state.Engine.confirm.Goals as goal
use Rattle.rules.specs.Rows.{confirm_row, row_of}
use Rattle.rules.specs.Rules.{unless_booked, with_rows}
use Rattle.rules.specs.declared.call.Call.TheVariants.{Confirm}

pub invariant_of-self-clause-good : goal.invariant_of-self-clause-good
invariant_of-self-clause-good c =
    let e = c.args.self.now in
    let n = c.args.booking.number in
    let done = settled (view e) (unless_booked (row_of n (view e).rows)) c.confirm-outcome.result (rows_of c.confirm-outcome.new.self) (map (confirm_row n) (view e).rows) c.confirm-outcome.ensures in
    call_good (view e) (with_rows (view e) (rows_of c.confirm-outcome.new.self)) e.good (Confirm n) (ap (λ p. p.1) done)
