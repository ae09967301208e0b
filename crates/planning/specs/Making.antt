-- The one outcome of making a plan: only the tree can be refused.
use Rattle.std.specs.Prelude.{◌≡◌, ℕ, Bool, List, Some, None, Ok, Err, Result}
use Rattle.interference.specs.declared.transmission.Transmission.{Transmission}
use Rattle.plan.specs.Approval.{Spaced}
use Rattle.plan.specs.Drafts.{step_of}
use Rattle.plan.specs.Plans.{Approved, Plan}
use Rattle.planner.specs.Planner.{flat, plan_steps, sizes}
use Rattle.routing.specs.declared.fault.TreeFault.{TreeFault}
use Rattle.routing.specs.declared.link.TreeLink.{TreeLink}
use Rattle.routing.specs.Tree.{routes_of, tree_fault}

-- the plan holds just these steps, with exactly their minimum step distance, and is fit to run
pub record Holds (conflict : Transmission → Transmission → Bool) (steps : List (List Transmission)) (p : Plan) : Type 0 where
  pub sent : p.transmissions ≡ flat steps
  pub counted : p.counts ≡ sizes steps
  pub spaced : Spaced conflict p.transmissions (step_of p.counts) p.distance
  pub approved : Approved conflict p

-- a place that held `before` holds `after`
abbrev pub Made : ℕ → (Transmission → Transmission → Bool) → List TreeLink → Plan → Plan → {U : Type 0} → Result U TreeFault → Type 0
Made n conflict ls before after (Ok _) = (tree_fault n ls ≡ None) × Holds conflict (plan_steps conflict n (routes_of ls)) after
Made n conflict ls before after (Err fault) = (tree_fault n ls ≡ Some fault) × (after ≡ before)
