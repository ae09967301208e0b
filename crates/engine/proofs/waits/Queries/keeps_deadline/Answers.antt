use Rattle.std.proofs.Common.{ap, ◌∙◌, rules}
use Rattle.engine.proofs.Loads.{ends}
use Rattle.engine.proofs.waits.Queries.keeps_deadline.Goals as goal
use Rattle.rules.specs.Waits.{ends_by}

pub returns : goal.returns
returns c =
    let queries = c.args.self.now in
    let q = c.args.q.now in
    ends c.longest_wait.result queries.steps q.deadline _ _ c.is_some_and.ensures (λ w k. search rules)
    ∙ ap (λ o. ends_by o queries.steps q.deadline) c.longest_wait.ensures.value
