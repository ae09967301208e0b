-- What each phase of a query says, and what a call makes of it.
use Rattle.std.specs.Prelude.{ℕ, Bool, true, false}
use Rattle.rules.specs.declared.phase.Phase.{Phase}
use Rattle.rules.specs.declared.phase.Phase.TheVariants.{Booked, Ready, Waiting, Leaving, LeavingWaiting}

abbrev pub is_booked : Phase → Bool
is_booked Booked = true
is_booked Ready = false
is_booked (Waiting r) = false
is_booked Leaving = false
is_booked (LeavingWaiting r) = false

-- ready or waiting: the query may be closed
abbrev pub is_open : Phase → Bool
is_open Booked = false
is_open Ready = true
is_open (Waiting r) = true
is_open Leaving = false
is_open (LeavingWaiting r) = false

-- a round waits for its start
abbrev pub is_waiting : Phase → Bool
is_waiting Booked = false
is_waiting Ready = false
is_waiting (Waiting r) = true
is_waiting Leaving = false
is_waiting (LeavingWaiting r) = true

-- leaving, and no round waits
abbrev pub is_leaving : Phase → Bool
is_leaving Booked = false
is_leaving Ready = false
is_leaving (Waiting r) = false
is_leaving Leaving = true
is_leaving (LeavingWaiting r) = false

-- the slot since which the round waits, and 0 where none does
abbrev pub since : Phase → ℕ
since Booked = 0
since Ready = 0
since (Waiting r) = r
since Leaving = 0
since (LeavingWaiting r) = r

-- the phase after the start of the round that waits
abbrev pub started : Phase → Phase
started Booked = Booked
started Ready = Ready
started (Waiting r) = Ready
started Leaving = Leaving
started (LeavingWaiting r) = Leaving

-- the phase after closing
abbrev pub closed : Phase → Phase
closed Booked = Booked
closed Ready = Leaving
closed (Waiting r) = LeavingWaiting r
closed Leaving = Leaving
closed (LeavingWaiting r) = LeavingWaiting r
