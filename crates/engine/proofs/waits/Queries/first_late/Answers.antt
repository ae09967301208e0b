use Rattle.std.proofs.Common.{◌&&◌, not, fold, reverse, rules, ap, ◌∙◌}
use Rattle.engine.specs.Tables.{feels, queries_of}
use Rattle.engine.proofs.Lateness.{better_from, first_found}
use Rattle.engine.proofs.waits.Queries.first_late.Goals as goal
use Rattle.rules.specs.declared.row.Row.{Row}
use Rattle.rules.specs.Waits.{keeps}
use Rattle.std.proofs.lemmas.Iterator.Adapters.{YieldsList-from_rev_slice}
use Rattle.std.proofs.lemmas.Iterator.Consumers.{fold_from_yields_List}
use Rattle.std.specs.Slice.Iter.{iter_rest}

pub returns : goal.returns
returns c =
    let queries = c.args.self.now in
    let rows = queries.rows.now in
    let late = λ (q : Row). feels queries.extra q && not (keeps queries.steps queries.distance (queries_of rows queries.extra) q) in
    fold_from_yields_List _ (better_from late) c.late_extra.result c.fold.result c.fold.ensures.ran
    (YieldsList-from_rev_slice {s = c.rev.result} rows (ap iter_rest c.rev.ensures.source ∙ c.iter.ensures.rest))
    (λ found x next f' called. search rules)
    ∙ ap (λ o. fold (better_from late) o (reverse rows)) c.late_extra.ensures
    ∙ first_found queries.steps queries.distance rows queries.extra queries.kept
