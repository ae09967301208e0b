use Rattle.std.specs.Prelude.{ℕ, Some, None, Option}
use Rattle.routing.specs.declared.fault.TreeFault.{TreeFault}
use Rattle.routing.specs.declared.fault.TreeFault.TheVariants.{Count, OutOfRange, Repeated, Unrooted}

-- the number that each refusal is reported by
abbrev pub code_of : TreeFault → ℕ
code_of Count = 1
code_of (OutOfRange k) = 2
code_of (Repeated k) = 3
code_of (Unrooted k) = 4

-- the position of the first offender, where the refusal has one
abbrev pub place_of : TreeFault → Option ℕ
place_of Count = None
place_of (OutOfRange k) = Some k
place_of (Repeated k) = Some k
place_of (Unrooted k) = Some k
