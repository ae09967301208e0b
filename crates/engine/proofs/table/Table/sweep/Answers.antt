use Rattle.std.proofs.Common.{rules, sym, ◌∙◌}
use Rattle.arrayvec.proofs.ArrayVecLemmas.{filter-from_retain}
use Rattle.engine.specs.Views.{rows_of}
use Rattle.engine.proofs.Closings.{none_swept}
use Rattle.engine.proofs.Slots.{none_waits}
use Rattle.engine.proofs.Tables.{facts, held_swept, table_held}
use Rattle.engine.proofs.table.Table.sweep.Goals as goal
use Rattle.std.proofs.lemmas.Bool.{not-false}

pub returns-then-not-self : goal.returns-then-not-self
returns-then-not-self c =
    let table = c.args.self.now in
    none_swept table.closing (rows_of table) c.if-not-self.true table.noted

pub invariant_of-self : goal.invariant_of-self
invariant_of-self c =
    let table = c.args.self.now in
    let kept = filter-from_retain _ _ _ (λ x b f' y called. search rules) _ _ c.retain.ensures.filtered in
    facts kept (held_swept (rows_of table) table.waiting (table_held table) _
    (λ off. none_waits _ (sym (not-false _ off) ∙ c.is_quiet.ensures)))

pub returns : goal.returns
returns c = filter-from_retain _ _ _ (λ x b f' y called. search rules) _ _ c.retain.ensures.filtered
