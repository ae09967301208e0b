-- The planner's rule, for a site of n nodes, its relation of conflicts and the routes of its tree. `left` has the
-- slots that each node has left.
use Rattle.std.specs.Prelude.{◌≡◌, ℕ, zero, suc, ◌-◌, Bool, true, cond, not, ◌&&◌, ◌||◌, List, [], ◌∷◌, ◌++◌, map, length, drop, Some, None, Ok, Err, sum, filter, Option, Result, ◌==◌, nat_lt, slice_index, slice_set}
use Rattle.interference.specs.declared.transmission.Transmission.{Transmission}
use Rattle.planner.specs.declared.candidate.Candidate.{Candidate}
use Rattle.planner.specs.declared.fault.PlanFault.{PlanFault}
use Rattle.planner.specs.declared.fault.PlanFault.TheVariants.{Tree, ShortList}
use Rattle.planner.specs.declared.planner.PlanSize.{PlanSize}
use Rattle.queue.specs.Ranked.{ranked}
use Rattle.routing.specs.declared.link.TreeLink.{TreeLink}
use Rattle.routing.specs.declared.routes.Routes.{Routes}
use Rattle.routing.specs.Search.{any_below, or_else}
use Rattle.routing.specs.Tree.{routes_of, tree_fault}
use Rattle.std.specs.List.{range_with_len, flat_map}
use Rattle.std.specs.Option.{option_map}

-- the deeper candidate ranks first, then the one with the smaller number
abbrev pub deeper : Candidate → Candidate → Bool
deeper a b = nat_lt b.depth.0 a.depth.0 || (b.depth.0 == a.depth.0 && nat_lt a.node b.node)

-- a child of node v has slots left
abbrev pub is_awaiting : List ℕ → List ℕ → ℕ → ℕ → Bool
is_awaiting parents left n v = any_below (λ c. (slice_index parents c == v) && nat_lt 0 (slice_index left c)) n

-- node v has slots left, and its children all finished in earlier steps
abbrev pub is_ready : List ℕ → List ℕ → ℕ → ℕ → Bool
is_ready parents left n v = nat_lt 0 (slice_index left v) && not (is_awaiting parents left n v)

abbrev pub candidate_of : List ℕ → ℕ → Candidate
candidate_of depths v = record { depth = record { 0 = slice_index depths v }; node = v }

-- the candidates of a step, by number
abbrev pub candidates : Routes → List ℕ → ℕ → List Candidate
candidates routes left n =
    map (candidate_of routes.depths) (filter (is_ready routes.parents left n) (range_with_len 0 n))

-- a node's transmission to its parent
abbrev pub to_parent : List ℕ → ℕ → Transmission
to_parent parents v = record { from = v; to = slice_index parents v }

-- the transmission conflicts with none of these
abbrev pub is_free : (Transmission → Transmission → Bool) → List Transmission → Transmission → Bool
is_free conflict [] t = true
is_free conflict (s ∷ ss) t = not (conflict s t) && is_free conflict ss t

-- a step while it is filled: its transmissions, and the slots that are left
pub record Filling : Type 0 where
  pub sent : List Transmission
  pub left : List ℕ

-- the candidate's transmission joins the step if it conflicts with none already there
abbrev pub join : (Transmission → Transmission → Bool) → List ℕ → Candidate → Filling → Filling
join conflict parents c f = record {
  sent = cond (is_free conflict f.sent (to_parent parents c.node)) (f.sent ++ to_parent parents c.node ∷ []) f.sent;
  left =
      cond (is_free conflict f.sent (to_parent parents c.node)) (slice_set f.left c.node (slice_index f.left c.node - 1))
      f.left;
}

abbrev pub join_all : (Transmission → Transmission → Bool) → List ℕ → List Candidate → Filling → Filling
join_all conflict parents [] f = f
join_all conflict parents (c ∷ cs) f = join_all conflict parents cs (join conflict parents c f)

-- one step: the candidates join in rank order, if they can
abbrev pub step_from : (Transmission → Transmission → Bool) → ℕ → Routes → List ℕ → Filling
step_from conflict n routes left =
    join_all conflict routes.parents (ranked deeper (candidates routes left n)) (record { sent = []; left = left })

-- the steps until no slot is left, and at most so many
unfoldable pub steps_from : (Transmission → Transmission → Bool) → ℕ → Routes → ℕ → List ℕ → List (List Transmission)
steps_from conflict n routes zero left = []
steps_from conflict n routes (suc most) left =
    cond (sum left == 0) []
    ((step_from conflict n routes left).sent ∷ steps_from conflict n routes most (step_from conflict n routes left).left)

-- the steps of the plan; 256 are enough, for a tree has at most 252 slots and each step uses one. A base station
-- alone has one empty step
abbrev pub plan_steps : (Transmission → Transmission → Bool) → ℕ → Routes → List (List Transmission)
plan_steps conflict n routes = cond (n == 1) ([] ∷ []) (steps_from conflict n routes 256 routes.slots)

-- the transmissions of all steps, one step after the other, and how many each step has
abbrev pub flat : List (List Transmission) → List Transmission
flat steps = flat_map (λ step. step) steps

abbrev pub sizes : List (List Transmission) → List ℕ
sizes steps = map length steps

-- the front of a list written over
abbrev pub overwritten : {X : Type 0} → List X → List X → List X
overwritten xs ys = xs ++ drop (length xs) ys

-- the one refusal of the planner, if there is one, given the lengths of the two lists
abbrev pub plan_fault : ℕ → List TreeLink → ℕ → ℕ → Option PlanFault
plan_fault n ls a b =
    or_else (option_map Tree (tree_fault n ls)) (cond (nat_lt a 256 || nat_lt b 256) (Some ShortList) None)

-- the one outcome of planning over two lists that held ts and cs and hold ts' and cs'
abbrev pub PlanDone : ℕ → (Transmission → Transmission → Bool) → List TreeLink → List Transmission → List ℕ → List Transmission → List ℕ → Result PlanSize PlanFault → Type 0
PlanDone n conflict ls ts cs ts' cs' (Ok size) =
    (plan_fault n ls (length ts) (length cs) ≡ None)
    × (size.transmissions ≡ length (flat (plan_steps conflict n (routes_of ls))))
    × (size.steps ≡ length (plan_steps conflict n (routes_of ls)))
    × (ts' ≡ overwritten (flat (plan_steps conflict n (routes_of ls))) ts)
    × (cs' ≡ overwritten (sizes (plan_steps conflict n (routes_of ls))) cs)
PlanDone n conflict ls ts cs ts' cs' (Err fault) =
    (plan_fault n ls (length ts) (length cs) ≡ Some fault) × (ts' ≡ ts) × (cs' ≡ cs)
