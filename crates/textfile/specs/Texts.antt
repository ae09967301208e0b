-- What a text means as a day file. Assumes nothing.
use Rattle.std.specs.Prelude.{ℕ, ◌+◌, Bool, cond, not, List, [], ◌∷◌, ◌++◌, take, drop, Some, None, Ok, Err, Option, Result, ◌==◌}
use Rattle.std.specs.List.{prefix_len, flat_map}
use Rattle.dayfile.specs.declared.record.Record.{Record}
use Rattle.daytext.specs.declared.fault.LineFault.{LineFault}
use Rattle.daytext.specs.Bytes.{bytes_of}
use Rattle.daytext.specs.Lines.{line_meaning, line_of}

-- all but the line feed
abbrev pub in_line : ℕ → Bool
in_line c = not (c == 10)

abbrev pub first_line : List ℕ → List ℕ
first_line bs = take (prefix_len in_line bs) bs

abbrev pub after_line : List ℕ → List ℕ
after_line bs = drop (prefix_len in_line bs + 1) bs

-- a byte at the front of the first line
abbrev pub onto : ℕ → List (List ℕ) → List (List ℕ)
onto c [] = (c ∷ []) ∷ []
onto c (l ∷ ls) = (c ∷ l) ∷ ls

-- the lines of a text; a line feed ends a line, and the last line may do without
abbrev pub lines_of : List ℕ → List (List ℕ)
lines_of [] = []
lines_of (c ∷ cs) = cond (in_line c) (onto c (lines_of cs)) ([] ∷ lines_of cs)

-- bytes before those of a file, unless there is none
abbrev pub before : List ℕ → Result (List ℕ) (ℕ × LineFault) → Result (List ℕ) (ℕ × LineFault)
before bs (Ok cs) = Ok (bs ++ cs)
before bs (Err e) = Err e

-- what the line of number n adds to the file of the lines after it
abbrev pub packed_line : ℕ → Result (Option Record) LineFault → Result (List ℕ) (ℕ × LineFault) → Result (List ℕ) (ℕ × LineFault)
packed_line n (Ok (Some r)) more = before (bytes_of r) more
packed_line n (Ok None) more = more
packed_line n (Err f) more = Err (n, f)

abbrev pub packed_from : ℕ → List (List ℕ) → Result (List ℕ) (ℕ × LineFault)
packed_from n [] = Ok []
packed_from n (l ∷ ls) = packed_line n (line_meaning l) (packed_from (n + 1) ls)

-- the day file of a text, or the number of the first line that has no meaning and what is wrong with it
abbrev pub packed_of : List ℕ → Result (List ℕ) (ℕ × LineFault)
packed_of bs = packed_from 1 (lines_of bs)

-- the bytes of records, one after another; and their text, a line for each
abbrev pub file_of : List Record → List ℕ
file_of rs = flat_map bytes_of rs

abbrev pub text_of : List Record → List ℕ
text_of rs = flat_map (λ r. line_of r ++ (10 ∷ [])) rs
