-- An approved plan as its users see it.
use Rattle.std.specs.Prelude.{◌≡◌, ℕ, ◌+◌, ◌<◌, ◌≤◌, Bool, false, List, [], ◌∷◌, length, take, Some, None, Ok, Err, Result}
use Rattle.interference.specs.declared.transmission.Transmission.{Transmission}
use Rattle.plan.specs.Approval.{Spaced, approval_fault}
use Rattle.plan.specs.Drafts.{step_of, step_part, transmission_at}
use Rattle.plan.specs.declared.approved.ApprovedPlan.{ApprovedPlan}
use Rattle.plan.specs.declared.fault.ApprovalFault.{ApprovalFault}
use Rattle.routing.specs.declared.link.TreeLink.{TreeLink}

-- the transmissions, step after step; how many each step has; the minimum step distance
pub record Plan : Type 0 where
  pub transmissions : List Transmission
  pub counts : List ℕ
  pub distance : ℕ

abbrev pub plan_of : ApprovedPlan → Plan
plan_of p = record {
  transmissions = take p.size p.transmissions;
  counts = take p.steps p.counts;
  distance = p.distance;
}

-- a new place: one empty step
abbrev pub empty_plan : Plan
empty_plan = record { transmissions = []; counts = 0 ∷ []; distance = 1 }

-- the number of steps
abbrev pub length_of : Plan → ℕ
length_of p = length p.counts

-- the transmissions of step i
abbrev pub part_of : Plan → ℕ → List Transmission
part_of p i = step_part p.transmissions p.counts i

-- what approval gives to whoever runs the plan, by step: within a step nothing conflicts, and nothing of steps that
-- are the distance or more apart does
pub record Approved (conflict : Transmission → Transmission → Bool) (p : Plan) : Type 0 where
  pub some : 1 ≤ length_of p
  pub positive : 1 ≤ p.distance
  pub within : (i j k : ℕ) → j < k → k < length (part_of p i)
      → conflict (transmission_at (part_of p i) j) (transmission_at (part_of p i) k) ≡ false
  pub between : (h i j k : ℕ) → h + p.distance ≤ i → j < length (part_of p h) → k < length (part_of p i)
      → conflict (transmission_at (part_of p h) j) (transmission_at (part_of p i) k) ≡ false

-- the one outcome of approval over a place that held `before` and holds `after`
abbrev pub ApprovalDone : ℕ → (Transmission → Transmission → Bool) → List TreeLink → List Transmission → List ℕ → Plan → Plan → {U : Type 0} → Result U ApprovalFault → Type 0
ApprovalDone n conflict ls ts cs before after (Ok _) =
    (approval_fault n conflict ls ts cs ≡ None) × (after.transmissions ≡ ts) × (after.counts ≡ cs)
    × Spaced conflict ts (step_of cs) after.distance × Approved conflict after
ApprovalDone n conflict ls ts cs before after (Err fault) =
    (approval_fault n conflict ls ts cs ≡ Some fault) × (after ≡ before)
