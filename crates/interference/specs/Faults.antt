use Rattle.std.specs.Prelude.{ℕ, Some, None, Option}
use Rattle.interference.specs.declared.fault.ModelFault.{ModelFault}
use Rattle.interference.specs.declared.fault.ModelFault.TheVariants.{NodeCount, EdgeOutside, Side, Coordinate}

-- the number that each refusal is reported by
abbrev pub code_of : ModelFault → ℕ
code_of NodeCount = 11
code_of (EdgeOutside k) = 12
code_of Side = 13
code_of (Coordinate k) = 14

-- the position of the first offender, where the refusal has one
abbrev pub place_of : ModelFault → Option ℕ
place_of NodeCount = None
place_of (EdgeOutside k) = Some k
place_of Side = None
place_of (Coordinate k) = Some k
