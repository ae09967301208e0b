use Rattle.engine.specs.Views.{rows_of}
use Rattle.engine.proofs.Tables.{facts, held_entered, table_held}
use Rattle.engine.proofs.table.Table.enter.Goals as goal

pub invariant_of-self : goal.invariant_of-self
invariant_of-self c =
    let table = c.args.self.now in
    facts c.push.ensures.items (held_entered (rows_of table) table.waiting (table_held table) c.args.row c.requires.above c.requires.booked)
