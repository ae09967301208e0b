-- What the planner's inner functions leave in the lists that they are lent.
use Rattle.std.specs.Prelude.{◌≡◌, ℕ, ◌+◌, List, length, sum}
use Rattle.interference.specs.declared.transmission.Transmission.{Transmission}
use Rattle.planner.specs.declared.planner.PlanSize.{PlanSize}
use Rattle.planner.specs.Planner.{Filling, flat, overwritten, sizes}

-- one step is filled: the lists held ts and ls, and hold ts' and ls'
pub record StepFilled (step : Filling) (ts : List Transmission) (ls : List ℕ) (ts' : List Transmission) (ls' : List ℕ) (size : ℕ) : Type 0 where
  pub sized : size ≡ length step.sent
  pub written : ts' ≡ overwritten step.sent ts
  pub counted : ls' ≡ step.left
  pub used : size + sum ls' ≡ sum ls

-- all steps are filled: the lists held ts and cs, and hold ts' and cs'
pub record StepsFilled (all : List (List Transmission)) (ts : List Transmission) (cs : List ℕ) (ts' : List Transmission) (cs' : List ℕ) (size : PlanSize) : Type 0 where
  pub sent : size.transmissions ≡ length (flat all)
  pub count : size.steps ≡ length all
  pub written : ts' ≡ overwritten (flat all) ts
  pub counted : cs' ≡ overwritten (sizes all) cs
