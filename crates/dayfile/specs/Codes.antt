-- The numbers of the refusals, and what they print.
use Rattle.std.specs.Prelude.{ℕ, List, codes}
use Rattle.dayfile.specs.declared.record.ReadFault.{ReadFault}
use Rattle.dayfile.specs.declared.record.ReadFault.TheVariants.{UnknownKind, CutShort}

abbrev pub code_of : ReadFault → ℕ
code_of UnknownKind = 31
code_of CutShort = 32

abbrev pub read_fault_shown : ReadFault → List ℕ
read_fault_shown UnknownKind = codes "no record begins with this byte"
read_fault_shown CutShort = codes "the record is cut short"
