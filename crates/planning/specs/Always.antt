-- The planner and approval agree: what the planner makes from a tree that is not refused is always approved.
use Rattle.std.specs.Prelude.{◌≡◌, ℕ, ◌≤◌, Bool, true, List, None}
use Rattle.interference.specs.declared.transmission.Transmission.{Transmission}
use Rattle.interference.specs.Transmissions.{share}
use Rattle.plan.specs.Approval.{approval_fault}
use Rattle.planner.specs.Planner.{flat, plan_steps, sizes}
use Rattle.routing.specs.declared.link.TreeLink.{TreeLink}
use Rattle.routing.specs.Tree.{routes_of, tree_fault}

-- transmissions that have a node in common conflict
abbrev pub Shared : (Transmission → Transmission → Bool) → Type 0
Shared conflict = (a b : Transmission) → share a b ≡ true → conflict a b ≡ true

-- the plan of the tree, as a draft, has no fault
abbrev pub PlanApproved : ℕ → (Transmission → Transmission → Bool) → List TreeLink → Type 0
PlanApproved n conflict ls =
    approval_fault n conflict ls (flat (plan_steps conflict n (routes_of ls))) (sizes (plan_steps conflict n (routes_of ls))) ≡ None

-- at every site, under every such model, for every tree that is not refused
abbrev pub AlwaysApproved : Type 0
AlwaysApproved =
    (n : ℕ) (conflict : Transmission → Transmission → Bool) (ls : List TreeLink) → n ≤ 64 → Shared conflict
    → tree_fault n ls ≡ None → PlanApproved n conflict ls
