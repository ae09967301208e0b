use Rattle.std.specs.Prelude.{ℕ, Some, None, Option}
use Rattle.rules.specs.declared.refusal.Refusal.{Refusal}
use Rattle.rules.specs.declared.refusal.Refusal.TheVariants.{FirstSlot, Terms, Numbers, TableFull, Deadline, NotBooked, NotOpen, TooEarly, RoundWaits, LastSlot, ShortList, NotInTable}

-- the number that each refusal is reported by
abbrev pub code_of : Refusal → ℕ
code_of FirstSlot = 10
code_of Terms = 20
code_of Numbers = 21
code_of TableFull = 22
code_of (Deadline n) = 23
code_of NotBooked = 24
code_of NotOpen = 25
code_of TooEarly = 26
code_of RoundWaits = 27
code_of LastSlot = 28
code_of ShortList = 29
code_of NotInTable = 30

-- the number of the query that a refusal names
abbrev pub named_by : Refusal → Option ℕ
named_by FirstSlot = None
named_by Terms = None
named_by Numbers = None
named_by TableFull = None
named_by (Deadline n) = Some n
named_by NotBooked = None
named_by NotOpen = None
named_by TooEarly = None
named_by RoundWaits = None
named_by LastSlot = None
named_by ShortList = None
named_by NotInTable = None
