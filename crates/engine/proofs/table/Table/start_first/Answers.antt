use Rattle.std.proofs.Common.{refl, sym, ◌∙◌, subst}
use Rattle.engine.specs.Views.{rows_of}
use Rattle.engine.proofs.Changes.{mapped_back}
use Rattle.engine.proofs.Entries.{first_none}
use Rattle.engine.proofs.Tables.{Held, facts, held_started, queue_first, table_held}
use Rattle.engine.proofs.table.Table.start_first.Goals as goal
use Rattle.rules.specs.Rows.{start_row}

pub returns-in_err-first : goal.returns-in_err-first
returns-in_err-first c =
    let table = c.args.self.now in
    rw c.from_residual.ensures (first_none (rows_of table) (sym table.queued ∙ c.in_err-first.ensures.0), refl)

pub invariant_of-self-2 : goal.invariant_of-self-2
invariant_of-self-2 c =
    let table = c.args.self.now in
    let rows = rows_of table in
    let first = c.in_ok-first.first in
    let was = subst (Held table.closing rows) c.in_ok-first.ensures.0 (table_held table) in
    facts (mapped_back (start_row first.number) rows _ _ c.deref_mut.ensures.value c.start_row.ensures) (held_started rows first _ was)

pub returns : goal.returns
returns c =
    let table = c.args.self.now in
    let rows = rows_of table in
    let first = c.in_ok-first.first in (
      queue_first rows first _ (sym c.in_ok-first.ensures.0 ∙ table.queued),
      mapped_back (start_row first.number) rows _ _ c.deref_mut.ensures.value c.start_row.ensures,
    )
