use Rattle.std.proofs.Common.{◌≡◌, get_or, ◌≤◌, Some, None, Err, sym, ◌∙◌, arith, rules}
use Rattle.plan.proofs.Judgement as judgement
use Rattle.plan.proofs.Widest.{widest_folded}
use Rattle.plan.proofs.judge.judge.Goals as goal

pub returns-in_err-check : goal.returns-in_err-check
returns-in_err-check g c =
    let read = c.in_ok-routes.ensures in
    let good = c.in-Some.ensures in
    let fault = c.in_err-check.field-0.0 in
    let fails : c.from_residual-in_err-check.result ≡ Err fault = search rules in
    rw fails
    (judgement.outcome (g.M.Interference.nodes c.args.model.now) (g.M.Interference.conflict c.args.model.now)
    c.args.tree.now c.args.draft.transmissions.now c.args.draft.counts.now
    good.0 c.step_table.result (rw good.2 at c.step_table.ensures)
    c.in_ok-routes.routes (Some fault) read.0 read.1 (sym (rw good.1 at c.in_err-check.ensures)))

pub overflow_add-result : goal.overflow_add-result
overflow_add-result g c =
    let conflict = g.M.Interference.conflict c.args.model.now in
    let good = c.in-Some.ensures in
    let small : c.widest.result ≤ 255 =
    judgement.narrow (g.M.Interference.nodes c.args.model.now) conflict
    c.args.tree.now c.args.draft.transmissions.now c.args.draft.counts.now
    good.0 c.step_table.result (rw good.2 at c.step_table.ensures) c.widest.result
    (rw good.1 at (c.widest.ensures ∙ widest_folded conflict c.in-Some.shaped.transmissions.now (λ i. get_or c.step_table.result i 0))) in
    omega arith

pub returns : goal.returns
returns g c =
    let read = c.in_ok-routes.ensures in
    let n = g.M.Interference.nodes c.args.model.now in
    let conflict = g.M.Interference.conflict c.args.model.now in
    let ts = c.args.draft.transmissions.now in
    let cs = c.args.draft.counts.now in
    let good = c.in-Some.ensures in (
      good.1,
      good.2,
      (
        judgement.outcome n conflict c.args.tree.now ts cs good.0 c.step_table.result
            (rw good.2 at c.step_table.ensures) c.in_ok-routes.routes None read.0 read.1 (sym (rw good.1 at c.in_ok-check.ensures)),
        judgement.distance n conflict c.args.tree.now ts cs good.0 c.step_table.result
            (rw good.2 at c.step_table.ensures) c.widest.result
            (rw good.1 at (c.widest.ensures ∙ widest_folded conflict c.in-Some.shaped.transmissions.now (λ i. get_or c.step_table.result i 0))),
      ),
    )
