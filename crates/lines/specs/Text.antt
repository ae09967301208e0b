-- The bytes of a line, and what writing them does to a list.
use Rattle.std.specs.Prelude.{ℕ, ◌+◌, cond, List, [], ◌∷◌, ◌++◌, length, take, drop, Some, None, Ok, Err, codes, decimal, Option, Result, nat_le}
use Rattle.lines.specs.declared.line.TextLine.{TextLine}
use Rattle.lines.specs.declared.line.TextLine.TheVariants.{Plan, Query, Start, No, Stop}
use Rattle.lines.specs.declared.writer.Full.{Full}

-- a space and the number, if there is a third one
abbrev pub third_of : Option ℕ → List ℕ
third_of None = []
third_of (Some c) = 32 ∷ decimal c

-- a word with its space, the numbers with a space between them, and byte 10
abbrev pub line_of : List ℕ → ℕ → ℕ → Option ℕ → List ℕ
line_of word a b c = word ++ (decimal a ++ (32 ∷ (decimal b ++ (third_of c ++ (10 ∷ [])))))

abbrev pub bytes_of : TextLine → List ℕ
bytes_of (Plan length distance) = line_of (codes "PLAN ") length distance None
bytes_of (Query number wait) = line_of (codes "QUERY ") number wait None
bytes_of (Start slot number) = line_of (codes "START ") slot number None
bytes_of (No refusal offset named) = line_of (codes "NO ") refusal offset named
bytes_of (Stop refusal offset inner) = line_of (codes "STOP ") refusal offset inner

-- what the list holds once the bytes are written from place i on
abbrev pub written : List ℕ → ℕ → List ℕ → List ℕ
written out i bs = take i out ++ (bs ++ drop (i + length bs) out)

-- the place after the bytes, written from place i on in a list of so many places, where they fit
abbrev pub placed : ℕ → ℕ → List ℕ → Result ℕ Full
placed most i bs = cond (nat_le (i + length bs) most) (Ok (i + length bs)) (Err (record {}))

-- what the list then holds
abbrev pub lined : List ℕ → ℕ → List ℕ → List ℕ
lined out i bs = cond (nat_le (i + length bs) (length out)) (written out i bs) out
