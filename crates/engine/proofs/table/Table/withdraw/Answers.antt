use Rattle.std.proofs.Common.{◌≡◌, None, refl, rules}
use Rattle.arrayvec.proofs.ArrayVecLemmas.{filter-from_retain}
use Rattle.engine.specs.Views.{rows_of}
use Rattle.engine.proofs.Changes.{withdrawn_row}
use Rattle.engine.proofs.Tables.{facts, held_withdrawn, table_held}
use Rattle.engine.proofs.table.Table.withdraw.Goals as goal
use Rattle.rules.specs.Rows.{row_of}
use Rattle.rules.specs.Rules.{unless_booked}

pub invariant_of-self : goal.invariant_of-self
invariant_of-self c =
    let table = c.args.self.now in
    let rows = rows_of table in
    let kept = filter-from_retain _ _ _ (λ x b f' y called. search rules) _ _ c.retain.ensures.filtered in
    let none : unless_booked (row_of c.args.number rows) ≡ None = search rules in
    let q = withdrawn_row (row_of c.args.number rows) none in
    facts kept (held_withdrawn rows table.waiting (table_held table) c.args.number q.0 q.1 q.2)

pub returns : goal.returns
returns c =
    let kept = filter-from_retain _ _ _ (λ x b f' y called. search rules) _ _ c.retain.ensures.filtered in
    let none : unless_booked (row_of c.args.number (rows_of c.args.self.now)) ≡ None = search rules in
    rw (none, kept) refl
