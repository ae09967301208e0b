-- What is written is read back. Assumes nothing.
use Rattle.std.specs.Prelude.{◌≡◌, ℕ, ◌≤◌, List, [], ◌∷◌, ◌++◌, Some, Ok}
use Rattle.dayfile.specs.declared.record.Record.{Record}
use Rattle.dayfile.specs.Reading.{next_of}
use Rattle.daytext.specs.Bytes.{bytes_of}
use Rattle.daytext.specs.Lines.{keyword_of, fields_of, limits_of, line_of, line_meaning}

-- as many numbers as limits, none past its limit
abbrev pub Within : List ℕ → List ℕ → Type 0
Within [] [] = Unit {0}
Within [] (most ∷ limits) = ⊥
Within (n ∷ ns) [] = ⊥
Within (n ∷ ns) (most ∷ limits) = (n ≤ most) × Within ns limits

-- the numbers of a record fit their fields
abbrev pub Fits : Record → Type 0
Fits r = Within (fields_of r) (limits_of (keyword_of r))

-- the bytes of a record, whatever comes after them, are read as that record and what comes after
abbrev pub ReadsBack : Record → Type 0
ReadsBack r = (rest : List ℕ) → next_of (bytes_of r ++ rest) ≡ Ok (r, rest)

-- the line of a record means that record
abbrev pub ParsesBack : Record → Type 0
ParsesBack r = line_meaning (line_of r) ≡ Ok (Some r)

abbrev pub RoundTrip : Type 0
RoundTrip = (r : Record) → Fits r → ReadsBack r × ParsesBack r
