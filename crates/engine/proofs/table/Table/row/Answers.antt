use Rattle.std.proofs.Common.{◌∙◌, rules}
use Rattle.engine.specs.Views.{rows_of}
use Rattle.engine.proofs.Places.{row_found}
use Rattle.engine.proofs.table.Table.row.Goals as goal
use Rattle.rules.specs.Rows.{has_number}
use Rattle.std.proofs.lemmas.Iterator.{YieldsList-from_slice}
use Rattle.std.proofs.lemmas.Iterator.Search.{find_from_yields_List}

pub returns : goal.returns
returns c =
    let rows = rows_of c.args.self.now in
    c.copied.ensures
    ∙ find_from_yields_List (has_number c.args.number) _ _ c.find.result c.find.ensures.ran
    (YieldsList-from_slice rows (c.iter.ensures.rest ∙ c.deref.ensures.0)) (λ x b q k. search rules)
    ∙ row_found c.args.number rows
