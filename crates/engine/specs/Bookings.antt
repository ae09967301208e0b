-- Bookings: the number that one holds, and a booking handed back.
use Rattle.std.specs.Prelude.{◌≡◌, ℕ, None, Ok, Err, Result}
use Rattle.engine.specs.declared.booking.Booking.{Booking}
use Rattle.rules.specs.declared.refusal.Refusal.{Refusal}
use Rattle.rules.specs.Rows.{row_of}
use Rattle.rules.specs.Rules.{View, unless_booked}

abbrev pub booked_by : Result Booking Refusal → Result ℕ Refusal
booked_by (Ok b) = Ok b.number
booked_by (Err r) = Err r

abbrev pub back_with : Booking → Result (Unit {0}) Refusal → Result (Unit {0}) (Refusal × Booking)
back_with b (Ok u) = Ok u
back_with b (Err r) = Err (r, b)

-- a refusal hands the booking back
abbrev pub handed_back : Booking → Result (Unit {0}) Refusal × View → Result (Unit {0}) (Refusal × Booking) × View
handed_back b o = (back_with b o.0, o.1)

-- a booking that was handed out: its query stands booked in the table, so neither confirming nor withdrawing is refused
abbrev pub StandsBooked : View → Result Booking Refusal → Type 0
StandsBooked v (Ok b) = unless_booked (row_of b.number v.rows) ≡ None
StandsBooked v (Err r) = Unit {0}
