use Rattle.std.proofs.Common.{refl}
use Rattle.engine.specs.Views.{rows_of}
use Rattle.engine.proofs.Changes.{close_others, denied, done, lost, written}
use Rattle.engine.proofs.Tables.{facts, held_closed, table_held}
use Rattle.engine.proofs.table.Table.close.Goals as goal
use Rattle.rules.specs.Rows.{close_row}
use Rattle.rules.specs.Rules.{unless_open}
use Rattle.std.proofs.lemmas.Result.{err_from_is_err_and}

pub returns-in_err-i : goal.returns-in_err-i
returns-in_err-i c =
    let p = err_from_is_err_and c.from_residual.result c.from_residual.ensures.1 in
    rw (p.1, p.2) (lost unless_open close_row close_others c.args.number (rows_of c.args.self.now) _ c.place.ensures _ _ c.in_err-i.ensures.value refl)

pub returns-in_err-self : goal.returns-in_err-self
returns-in_err-self c =
    let rows = rows_of c.args.self.now in
    let p = err_from_is_err_and c.from_residual-in_err-self.result c.from_residual-in_err-self.ensures.1 in
    rw (p.1, p.2) (denied unless_open close_row close_others c.args.number rows c.in_ok-i.i _ c.place.ensures c.in_ok-i.ensures.ok_part _ c.deref.ensures.0 _ c.in_err-self.ensures)

pub invariant_of-self : goal.invariant_of-self
invariant_of-self c =
    let table = c.args.self.now in
    let rows = rows_of table in
    let same = written unless_open close_row close_others c.args.number rows c.in_ok-i.i _ c.place.ensures c.in_ok-i.ensures.ok_part _ c.deref.ensures.0 _ c.in_ok-self.ensures _ c.deref_mut.ensures.value table.rising in
    facts same (held_closed rows table.waiting (table_held table) c.args.number)

pub returns : goal.returns
returns c =
    let rows = rows_of c.args.self.now in
    done unless_open close_row close_others c.args.number rows c.in_ok-i.i _ c.place.ensures c.in_ok-i.ensures.ok_part _ c.deref.ensures.0 _ c.in_ok-self.ensures _ c.deref_mut.ensures.value c.args.self.now.rising
