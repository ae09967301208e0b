-- The worked examples.
use Prim.Native.Nat.{ℕ, zero, suc, ◌≤◌}
use native.Mathlib.Omega.{arith}
use mathlib.Core.Bool.{false≢true}
use mathlib.Core.List.{[], ◌∷◌}
use mathlib.Core.Path.{refl, sym}
use Rattle.examples.specs.Examples.{Planned, Worked, bare, link, to}
use Rattle.interference.specs.Graph as graph
use Rattle.plan.specs.Approval.{ClearAt, Spaced}
use Rattle.plan.specs.Drafts as drafts
use Rattle.plan.specs.Drafts.{transmission_at}
use Rattle.planner.specs.Planner as planner
use Rattle.routing.specs.Search as search
use Rattle.routing.specs.Tree as tree
use Rattle.rules.proofs.Worked as engine

chain_spaced : Spaced (bare 3) (to 2 1 ∷ to 1 0 ∷ []) (drafts.step_of (1 ∷ 1 ∷ [])) 2
unfolding drafts.step_of graph.list_edge
chain_spaced = record { positive = omega arith; clear = clear; least = least }
  where
    clear : ClearAt (bare 3) (to 2 1 ∷ to 1 0 ∷ []) (drafts.step_of (1 ∷ 1 ∷ [])) 2
    clear zero zero a b far = absurd (omega arith)
    clear zero (suc zero) a b far = absurd (omega arith)
    clear zero (suc (suc l)) a b far = absurd (omega arith)
    clear (suc zero) zero a b far = absurd (omega arith)
    clear (suc zero) (suc zero) a b far = absurd (omega arith)
    clear (suc zero) (suc (suc l)) a b far = absurd (omega arith)
    clear (suc (suc k)) l a b far = absurd (omega arith)

    least : (e : ℕ) → 1 ≤ e → ClearAt (bare 3) (to 2 1 ∷ to 1 0 ∷ []) (drafts.step_of (1 ∷ 1 ∷ [])) e → 2 ≤ e
    least zero some near = absurd (omega arith)
    least (suc zero) some near = absurd (false≢true (sym (near 0 1 (omega arith) (omega arith) (omega arith))))
    least (suc (suc e)) some near = omega arith

pair_spaced : Spaced (bare 2) (to 1 0 ∷ []) (drafts.step_of (1 ∷ [])) 1
unfolding drafts.step_of
pair_spaced = record { positive = omega arith; clear = clear; least = λ e some near. some }
  where
    clear : ClearAt (bare 2) (to 1 0 ∷ []) (drafts.step_of (1 ∷ [])) 1
    clear zero zero a b far = absurd (omega arith)
    clear zero (suc l) a b far = absurd (omega arith)
    clear (suc k) l a b far = absurd (omega arith)

chain : Planned 3 (link 1 0 ∷ link 2 1 ∷ []) ((to 2 1 ∷ []) ∷ (to 1 0 ∷ []) ∷ []) 2
unfolding planner.steps_from graph.list_edge tree.hops search.any_below
chain = record { plan = refl; spaced = chain_spaced }

pair : Planned 2 (link 1 0 ∷ []) ((to 1 0 ∷ []) ∷ []) 1
unfolding planner.steps_from graph.list_edge tree.hops search.any_below
pair = record { plan = refl; spaced = pair_spaced }

pub worked : Worked
unfolding graph.list_edge
worked = record {
  heard = refl;
  unheard = refl;
  cell_below = refl;
  cell_edge = refl;
  cell_beyond = refl;
  cell_zero = refl;
  chain = chain;
  pair = pair;
  engine = engine.worked;
}
