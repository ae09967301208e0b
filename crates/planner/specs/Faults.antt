use Rattle.std.specs.Prelude.{ℕ, None, Option}
use Rattle.planner.specs.declared.fault.PlanFault.{PlanFault}
use Rattle.planner.specs.declared.fault.PlanFault.TheVariants.{Tree, ShortList}
use Rattle.routing.specs.Faults.{code_of, place_of}

-- the number that each refusal is reported by
abbrev pub plan_code : PlanFault → ℕ
plan_code (Tree fault) = code_of fault
plan_code ShortList = 15

-- the position of the first offender, where the refusal has one
abbrev pub plan_place : PlanFault → Option ℕ
plan_place (Tree fault) = place_of fault
plan_place ShortList = None
