-- A day file as its records, each with its offset, and how reading them ends.
use Rattle.std.specs.Prelude.{ℕ, zero, suc, ◌-◌, cond, List, length, Ok, Err, ◌==◌}
use Rattle.dayfile.specs.declared.record.ReadFault.{ReadFault}
use Rattle.dayfile.specs.declared.record.Record.{Record}
use Rattle.dayfile.specs.Reading.{next_of}

pub data Script : Type 0 where
  Over : ℕ → Script
  Broken : ReadFault → ℕ → Script
  Next : Record → ℕ → Script → Script

-- at most n records of bs, the last bytes of a file of so many bytes
unfoldable pub script_from : ℕ → ℕ → List ℕ → Script
script_from zero total bs = Over total
script_from (suc n) total bs =
    cond (length bs == 0) (Over total)
    (elim (next_of bs) [
      | Ok p ↦ Next p.0 (total - length bs) (script_from n total p.1)
      | Err f ↦ Broken f (total - length bs)
    ])

-- a record has a byte at least, so there are no more records than bytes
abbrev pub script_of : ℕ → List ℕ → Script
script_of total bs = script_from (length bs) total bs

-- the offset of the record that comes next, or the file's length at its end
abbrev pub offset_of : Script → ℕ
offset_of (Over o) = o
offset_of (Broken f o) = o
offset_of (Next r o rest) = o
