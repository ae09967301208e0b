use Rattle.std.specs.Prelude.{ℕ, Some, None, Option}
use Rattle.plan.specs.declared.fault.ApprovalFault.{ApprovalFault}
use Rattle.plan.specs.declared.fault.ApprovalFault.TheVariants.{Tree, Shape, NotToParent, Conflicting, SlotCount, OutOfOrder}
use Rattle.routing.specs.Faults.{code_of, place_of}

-- the number that each refusal is reported by
abbrev pub approval_code : ApprovalFault → ℕ
approval_code (Tree fault) = code_of fault
approval_code Shape = 5
approval_code (NotToParent k) = 6
approval_code (Conflicting k) = 7
approval_code (SlotCount v) = 8
approval_code (OutOfOrder k) = 9

-- the position of the first offender, or the smallest such node
abbrev pub approval_place : ApprovalFault → Option ℕ
approval_place (Tree fault) = place_of fault
approval_place Shape = None
approval_place (NotToParent k) = Some k
approval_place (Conflicting k) = Some k
approval_place (SlotCount v) = Some v
approval_place (OutOfOrder k) = Some k
