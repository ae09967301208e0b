-- The bytes of a record. Assumes nothing.
use Rattle.std.specs.Prelude.{ℕ, ◌/◌, ◌%◌, List, [], ◌∷◌, ◌++◌}
use Rattle.dayfile.specs.declared.record.Record.{Record}
use Rattle.dayfile.specs.declared.record.Record.TheVariants.{Nodes, Edge, Tree, Query, Release, Close, Run}

-- a number in two, or four, bytes, lowest first
abbrev pub two_bytes : ℕ → List ℕ
two_bytes n = (n % 256) ∷ (n / 256 % 256) ∷ []

abbrev pub four_bytes : ℕ → List ℕ
four_bytes n = (n % 256) ∷ (n / 256 % 256) ∷ (n / 65536 % 256) ∷ (n / 16777216 % 256) ∷ []

-- the kind byte and the body
abbrev pub bytes_of : Record → List ℕ
bytes_of (Nodes count) = 1 ∷ count ∷ []
bytes_of (Edge source target) = 2 ∷ source ∷ target ∷ []
bytes_of (Tree child parent slots) = 3 ∷ child ∷ parent ∷ slots ∷ []
bytes_of (Query priority period deadline) = 4 ∷ priority ∷ (two_bytes period ++ two_bytes deadline)
bytes_of (Release number) = 5 ∷ four_bytes number
bytes_of (Close number) = 6 ∷ four_bytes number
bytes_of (Run slots) = 7 ∷ two_bytes slots
