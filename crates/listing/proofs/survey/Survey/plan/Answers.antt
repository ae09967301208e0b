use Rattle.std.proofs.Common.{Ok, Err, subst}
use Rattle.interference.specs.Graph.{EdgesMeant, EdgesRefused, graph_conflict, word_edge}
use Rattle.listing.specs.Surveys.{site_of}
use Rattle.listing.proofs.Sites.{site_planned, site_refused, tree_refused}
use Rattle.listing.proofs.survey.Survey.plan.Goals as goal
use Rattle.plan.specs.Plans.{plan_of}
use Rattle.planning.specs.Making.{Made}
use Rattle.std.proofs.lemmas.Result.{err_from_is_err_and}

pub returns-in_err-model : goal.returns-in_err-model
returns-in_err-model c =
    let s = c.args.self.now in
    let p = err_from_is_err_and c.from_residual.result c.from_residual.ensures.1 in
    rw (p.1, p.2)
    (site_refused (site_of s) c.in_err-model.field-0.0
    (subst (λ es. EdgesRefused s.count es c.in_err-model.field-0.0) c.as_slice.ensures.value c.in_err-model.ensures))

pub returns-in_err-make_plan : goal.returns-in_err-make_plan
returns-in_err-make_plan c =
    let s = c.args.self.now in
    let m = c.in_ok-model.model in
    let conflict = graph_conflict m.count (word_edge m.words) in
    let p = err_from_is_err_and c.from_residual-in_err-make_plan.result c.from_residual-in_err-make_plan.ensures.1 in
    rw (p.1, p.2)
    (tree_refused (site_of s) m.count conflict
    (subst (λ es. EdgesMeant s.count es m.count conflict) c.as_slice.ensures.value c.in_ok-model.ensures)
    (plan_of c.new-plan.result) (plan_of c.make_plan.new.place) c.in_err-make_plan.field-0.0
    (subst (λ ls. Made m.count conflict ls (plan_of c.new-plan.result) (plan_of c.make_plan.new.place) {U = Unit {0}} (Err c.in_err-make_plan.field-0.0))
    c.as_slice-2.ensures.value c.in_err-make_plan.ensures.made))

pub returns : goal.returns
returns c =
    let s = c.args.self.now in
    let m = c.in_ok-model.model in
    let conflict = graph_conflict m.count (word_edge m.words) in
    site_planned (site_of s) m.count conflict
    (subst (λ es. EdgesMeant s.count es m.count conflict) c.as_slice.ensures.value c.in_ok-model.ensures)
    (plan_of c.new-plan.result) (plan_of c.make_plan.new.place)
    (subst (λ ls. Made m.count conflict ls (plan_of c.new-plan.result) (plan_of c.make_plan.new.place) {U = Unit {0}} (Ok tt))
    c.as_slice-2.ensures.value c.in_ok-make_plan.ensures.made)
