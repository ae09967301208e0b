-- The worked examples, one sentence each.
use Rattle.std.specs.Prelude.{ℕ, Bool, true, false, List, [], ◌∷◌, ◌≡◌, pos, negsuc}
use Rattle.interference.specs.declared.transmission.Transmission.{Transmission}
use Rattle.interference.specs.Graph.{graph_conflict, list_edge}
use Rattle.interference.specs.Grid.{cell}
use Rattle.plan.specs.Approval.{Spaced}
use Rattle.plan.specs.Drafts.{step_of}
use Rattle.planner.specs.Planner.{flat, plan_steps, sizes}
use Rattle.routing.specs.declared.link.TreeLink.{TreeLink}
use Rattle.routing.specs.Tree.{routes_of}
use Rattle.rules.specs.Examples as engine

abbrev pub to : ℕ → ℕ → Transmission
to a b = record { from = a; to = b }

abbrev pub link : ℕ → ℕ → TreeLink
link c p = record { child = c; parent = p; slots = 1 }

-- a graph of n nodes without edges
abbrev pub bare : ℕ → Transmission → Transmission → Bool
bare n = graph_conflict n (list_edge [])

-- six nodes, with the edge from 1 to 4 only
abbrev pub six : Transmission → Transmission → Bool
six = graph_conflict 6 (list_edge (record { from = 1; to = 4 } ∷ []))

-- the steps are those of the tree's plan at a site of n nodes without edges, and d is their minimum distance
pub record Planned (n : ℕ) (tree : List TreeLink) (steps : List (List Transmission)) (d : ℕ) : Type 0 where
  pub plan : plan_steps (bare n) n (routes_of tree) ≡ steps
  pub spaced : Spaced (bare n) (flat steps) (step_of (sizes steps)) d

pub record Worked : Type 0 where
  -- edge 1→4: 1→2 and 3→4 conflict, 1→2 and 3→5 do not
  pub heard : six (to 1 2) (to 3 4) ≡ true
  pub unheard : six (to 1 2) (to 3 5) ≡ false
  -- side 100: −1 and −100 lie in cell −1, −101 in cell −2, 0 in cell 0
  pub cell_below : cell 100 (negsuc 0) ≡ negsuc 0
  pub cell_edge : cell 100 (negsuc 99) ≡ negsuc 0
  pub cell_beyond : cell 100 (negsuc 100) ≡ negsuc 1
  pub cell_zero : cell 100 (pos 0) ≡ pos 0
  -- tree 2→1→0, a slot each: length 2, distance 2
  pub chain : Planned 3 (link 1 0 ∷ link 2 1 ∷ []) ((to 2 1 ∷ []) ∷ (to 1 0 ∷ []) ∷ []) 2
  -- tree 1→0: length 1, distance 1
  pub pair : Planned 2 (link 1 0 ∷ []) ((to 1 0 ∷ []) ∷ []) 1
  -- waits, admission, starts, releases and closing
  pub engine : engine.Worked
