use Rattle.std.proofs.Common.{ℕ, get_or, sym, ap, ◌∙◌}
use Rattle.plan.specs.Approval.{step_fault}
use Rattle.plan.proofs.Faulty as faulty
use Rattle.plan.proofs.placed.Placed.check.Goals as goal

pub returns-in-Some : goal.returns-in-Some
returns-in-Some g c =
    let conflict = g.M.Interference.conflict c.args.self.now.model.now in
    let parents = c.args.routes.now.parents in
    let slots = c.args.routes.now.slots in
    let ts = c.args.self.now.transmissions.now in
    let step : ℕ → ℕ = λ i. get_or c.args.self.now.steps i 0 in
    sym (faulty.stray_fault c.nodes-n.result conflict parents slots ts step c.in-Some.at (c.in-Some.ensures ∙ faulty.stray_found c.nodes-n.result parents ts)
    ∙ ap (λ n. step_fault n conflict parents slots ts step) c.nodes-n.ensures)

pub returns-in-Some-first_conflict : goal.returns-in-Some-first_conflict
returns-in-Some-first_conflict g c =
    let conflict = g.M.Interference.conflict c.args.self.now.model.now in
    let parents = c.args.routes.now.parents in
    let slots = c.args.routes.now.slots in
    let ts = c.args.self.now.transmissions.now in
    let step : ℕ → ℕ = λ i. get_or c.args.self.now.steps i 0 in
    sym (faulty.conflict_fault c.nodes-n.result conflict parents slots ts step (c.in_default.ensures ∙ faulty.stray_found c.nodes-n.result parents ts) c.in-Some-first_conflict.at (c.in-Some-first_conflict.ensures ∙ faulty.conflict_found conflict ts step)
    ∙ ap (λ n. step_fault n conflict parents slots ts step) c.nodes-n.ensures)

pub returns-in-Some-first_uneven : goal.returns-in-Some-first_uneven
returns-in-Some-first_uneven g c =
    let conflict = g.M.Interference.conflict c.args.self.now.model.now in
    let parents = c.args.routes.now.parents in
    let slots = c.args.routes.now.slots in
    let ts = c.args.self.now.transmissions.now in
    let step : ℕ → ℕ = λ i. get_or c.args.self.now.steps i 0 in
    sym (faulty.slot_fault c.nodes-n.result conflict parents slots ts step (c.in_default.ensures ∙ faulty.stray_found c.nodes-n.result parents ts) (c.in_default-first_conflict.ensures ∙ faulty.conflict_found conflict ts step) c.in-Some-first_uneven.node (c.in-Some-first_uneven.ensures ∙ faulty.uneven_found slots ts c.nodes-n.result)
    ∙ ap (λ n. step_fault n conflict parents slots ts step) c.nodes-n.ensures)

pub returns-in-Some-first_early : goal.returns-in-Some-first_early
returns-in-Some-first_early g c =
    let conflict = g.M.Interference.conflict c.args.self.now.model.now in
    let parents = c.args.routes.now.parents in
    let slots = c.args.routes.now.slots in
    let ts = c.args.self.now.transmissions.now in
    let step : ℕ → ℕ = λ i. get_or c.args.self.now.steps i 0 in
    sym (faulty.order_fault c.nodes-n.result conflict parents slots ts step (c.in_default.ensures ∙ faulty.stray_found c.nodes-n.result parents ts) (c.in_default-first_conflict.ensures ∙ faulty.conflict_found conflict ts step) (c.in_default-first_uneven.ensures ∙ faulty.uneven_found slots ts c.nodes-n.result) c.in-Some-first_early.at (c.in-Some-first_early.ensures ∙ faulty.early_found conflict ts step)
    ∙ ap (λ n. step_fault n conflict parents slots ts step) c.nodes-n.ensures)

pub returns : goal.returns
returns g c =
    let conflict = g.M.Interference.conflict c.args.self.now.model.now in
    let parents = c.args.routes.now.parents in
    let slots = c.args.routes.now.slots in
    let ts = c.args.self.now.transmissions.now in
    let step : ℕ → ℕ = λ i. get_or c.args.self.now.steps i 0 in
    sym (faulty.step_sound c.nodes-n.result conflict parents slots ts step (c.in_default.ensures ∙ faulty.stray_found c.nodes-n.result parents ts) (c.in_default-first_conflict.ensures ∙ faulty.conflict_found conflict ts step) (c.in_default-first_uneven.ensures ∙ faulty.uneven_found slots ts c.nodes-n.result) (c.in_default-first_early.ensures ∙ faulty.early_found conflict ts step)
    ∙ ap (λ n. step_fault n conflict parents slots ts step) c.nodes-n.ensures)
