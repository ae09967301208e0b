-- Rows of closed queries.
use Rattle.std.specs.Prelude.{Bool, true, false, not, ◌&&◌, List, [], ◌∷◌}
use Rattle.rules.specs.declared.phase.Phase.{Phase}
use Rattle.rules.specs.declared.phase.Phase.TheVariants.{Booked, Ready, Waiting, Leaving, LeavingWaiting}
use Rattle.rules.specs.declared.row.Row.{Row}

-- leaving, with or without a round waiting
abbrev pub is_closed : Phase → Bool
is_closed Booked = false
is_closed Ready = false
is_closed (Waiting r) = false
is_closed Leaving = true
is_closed (LeavingWaiting r) = true

abbrev pub none_closed : List Row → Bool
none_closed [] = true
none_closed (h ∷ rows) = not (is_closed h.phase) && none_closed rows
