-- Where a listing stops, and the numbers of its faults.
use Rattle.std.specs.Prelude.{ℕ, Some, None, Option}
use Rattle.dayfile.specs.Codes.{code_of as read_code}
use Rattle.interference.specs.Faults.{code_of as model_code, place_of as model_place}
use Rattle.lines.specs.declared.line.TextLine.{TextLine}
use Rattle.lines.specs.declared.line.TextLine.TheVariants.{Stop as StopLine}
use Rattle.listing.specs.declared.stop.SiteFault.{SiteFault}
use Rattle.listing.specs.declared.stop.SiteFault.TheVariants.{Graph, Routing}
use Rattle.listing.specs.declared.stop.Stop.{Stop}
use Rattle.listing.specs.declared.stop.StopFault.{StopFault}
use Rattle.listing.specs.declared.stop.StopFault.TheVariants.{TooLong, Unreadable, Order, NoRoom, Unplanned}
use Rattle.routing.specs.Faults.{code_of as tree_code, place_of as tree_place}

-- a site's refusal is that of its graph or of its tree, whole
abbrev pub inner_of : SiteFault → ℕ
inner_of (Graph f) = model_code f
inner_of (Routing f) = tree_code f

abbrev pub position_of : SiteFault → Option ℕ
position_of (Graph f) = model_place f
position_of (Routing f) = tree_place f

abbrev pub code_of : StopFault → ℕ
code_of TooLong = 36
code_of (Unreadable f) = read_code f
code_of Order = 33
code_of NoRoom = 34
code_of (Unplanned f) = 35

-- the number of the site's refusal, where the listing stops for that
abbrev pub inner_in : StopFault → Option ℕ
inner_in TooLong = None
inner_in (Unreadable f) = None
inner_in Order = None
inner_in NoRoom = None
inner_in (Unplanned f) = Some (inner_of f)

-- and its position, where it has one
abbrev pub position_in : StopFault → Option ℕ
position_in TooLong = None
position_in (Unreadable f) = None
position_in Order = None
position_in NoRoom = None
position_in (Unplanned f) = position_of f

abbrev pub stop_at : StopFault → ℕ → Stop
stop_at fault o = record { fault = fault; offset = o }

abbrev pub stopped : StopFault → ℕ → Option Stop
stopped fault o = Some (stop_at fault o)

-- the line of a stop
abbrev pub stop_line : Stop → TextLine
stop_line stop = StopLine (code_of stop.fault) stop.offset (inner_in stop.fault)
