use Rattle.std.proofs.Common.{◌∙◌}
use Rattle.engine.specs.Views.{rows_of}
use Rattle.engine.proofs.Tables.{queue_quiet}
use Rattle.engine.proofs.table.Table.is_quiet.Goals as goal

pub returns : goal.returns
returns c =
    let table = c.args.self.now in
    c.is_empty.ensures ∙ queue_quiet (rows_of table) table.waiting table.queued
