-- The records that are still to come, as a script.
use Rattle.std.specs.Prelude.{◌≡◌, ℕ, ◌+◌, ◌-◌, length, Some, None, Ok, Err, Option, Result}
use Rattle.dayfile.specs.declared.record.ReadFault.{ReadFault}
use Rattle.dayfile.specs.declared.record.Record.{Record}
use Rattle.dayfile.specs.declared.record.Record.TheVariants.{Nodes, Edge, Tree, Query, Release, Close, Run}
use Rattle.listing.specs.declared.records.Records.{Records}
use Rattle.listing.specs.declared.stop.Stop.{Stop}
use Rattle.listing.specs.declared.stop.StopFault.TheVariants.{Unreadable}
use Rattle.listing.specs.Scripts.{Script, Over, Broken, Next, script_of}
use Rattle.listing.specs.Stops.{stop_at}

abbrev pub script_in : Records → Script
script_in rs = script_of rs.total rs.rest.now

-- where the next record stands
abbrev pub offset_in : Records → ℕ
offset_in rs = rs.total - length rs.rest.now

-- how many bytes a record takes
abbrev pub size_by : Record → ℕ
size_by (Nodes n) = 2
size_by (Edge a b) = 3
size_by (Tree c p k) = 4
size_by (Query h p d) = 6
size_by (Release n) = 5
size_by (Close n) = 5
size_by (Run k) = 3

-- the record that comes next, and those after it, of the same file
pub record Follows (rs : Records) (r : Record) (rest : Records) : Type 0 where
  pub script : script_in rs ≡ Next r (offset_in rs) (script_in rest)
  pub total : rest.total ≡ rs.total
  pub size : length rest.rest.now + size_by r ≡ length rs.rest.now

-- no record can be read
pub record Stops (rs : Records) (stop : Stop) : Type 0 where
  pub fault : ReadFault
  pub script : script_in rs ≡ Broken fault (offset_in rs)
  pub is : stop ≡ stop_at (Unreadable fault) (offset_in rs)

-- what comes next, if anything does
abbrev pub Came : Records → Result (Option (Record × Records)) Stop → Type 0
Came rs (Ok None) = script_in rs ≡ Over (offset_in rs)
Came rs (Ok (Some p)) = Follows rs p.0 p.1
Came rs (Err stop) = Stops rs stop
