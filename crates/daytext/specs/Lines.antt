-- A record as a line of text, and what a line of text means. Assumes nothing.
use Rattle.std.specs.Prelude.{ℕ, cond, List, [], ◌∷◌, ◌++◌, Some, None, Ok, Err, codes, decimal, Option, Result, slice_index}
use Rattle.std.specs.Str.{bytes_eq}
use Rattle.dayfile.specs.declared.record.Record.{Record}
use Rattle.dayfile.specs.declared.record.Record.TheVariants.{Nodes, Edge, Tree, Query, Release, Close, Run}
use Rattle.daytext.specs.declared.fault.LineFault.{LineFault}
use Rattle.daytext.specs.declared.fault.LineFault.TheVariants.{UnknownWord}
use Rattle.daytext.specs.declared.keyword.Keyword.{Keyword}
use Rattle.daytext.specs.declared.keyword.Keyword.TheVariants as key
use Rattle.daytext.specs.Words.{first_word, after_word, is_empty, and_then, numbers_of}

abbrev pub name_of : Keyword → List ℕ
name_of key.Nodes = codes "nodes"
name_of key.Edge = codes "edge"
name_of key.Tree = codes "tree"
name_of key.Query = codes "query"
name_of key.Release = codes "release"
name_of key.Close = codes "close"
name_of key.Run = codes "run"

-- the most that each number of a record may be: its field has one, two or four bytes
abbrev pub limits_of : Keyword → List ℕ
limits_of key.Nodes = 255 ∷ []
limits_of key.Edge = 255 ∷ 255 ∷ []
limits_of key.Tree = 255 ∷ 255 ∷ 255 ∷ []
limits_of key.Query = 255 ∷ 65535 ∷ 65535 ∷ []
limits_of key.Release = 4294967295 ∷ []
limits_of key.Close = 4294967295 ∷ []
limits_of key.Run = 65535 ∷ []

abbrev pub keyword_of : Record → Keyword
keyword_of (Nodes count) = key.Nodes
keyword_of (Edge source target) = key.Edge
keyword_of (Tree child parent slots) = key.Tree
keyword_of (Query priority period deadline) = key.Query
keyword_of (Release number) = key.Release
keyword_of (Close number) = key.Close
keyword_of (Run slots) = key.Run

abbrev pub fields_of : Record → List ℕ
fields_of (Nodes count) = count ∷ []
fields_of (Edge source target) = source ∷ target ∷ []
fields_of (Tree child parent slots) = child ∷ parent ∷ slots ∷ []
fields_of (Query priority period deadline) = priority ∷ period ∷ deadline ∷ []
fields_of (Release number) = number ∷ []
fields_of (Close number) = number ∷ []
fields_of (Run slots) = slots ∷ []

-- each number in decimal, with a space before it
abbrev pub spaced : List ℕ → List ℕ
spaced [] = []
spaced (n ∷ ns) = 32 ∷ (decimal n ++ spaced ns)

-- the line of a record: its word and its numbers
abbrev pub line_of : Record → List ℕ
line_of r = name_of (keyword_of r) ++ spaced (fields_of r)

-- the keyword that a word names
abbrev pub keyword_named : List ℕ → Result Keyword LineFault
keyword_named w =
    cond (bytes_eq w (name_of key.Nodes)) (Ok key.Nodes)
    (cond (bytes_eq w (name_of key.Edge)) (Ok key.Edge)
    (cond (bytes_eq w (name_of key.Tree)) (Ok key.Tree)
    (cond (bytes_eq w (name_of key.Query)) (Ok key.Query)
    (cond (bytes_eq w (name_of key.Release)) (Ok key.Release)
    (cond (bytes_eq w (name_of key.Close)) (Ok key.Close)
    (cond (bytes_eq w (name_of key.Run)) (Ok key.Run) (Err UnknownWord)))))))

-- the record of these numbers
abbrev pub record_with : Keyword → List ℕ → Record
record_with key.Nodes ns = Nodes (slice_index ns 0)
record_with key.Edge ns = Edge (slice_index ns 0) (slice_index ns 1)
record_with key.Tree ns = Tree (slice_index ns 0) (slice_index ns 1) (slice_index ns 2)
record_with key.Query ns = Query (slice_index ns 0) (slice_index ns 1) (slice_index ns 2)
record_with key.Release ns = Release (slice_index ns 0)
record_with key.Close ns = Close (slice_index ns 0)
record_with key.Run ns = Run (slice_index ns 0)

-- the record of a keyword and the bytes after it
abbrev pub record_after : Keyword → List ℕ → Result Record LineFault
record_after k bs = and_then (numbers_of (limits_of k) bs) (λ ns. Ok (record_with k ns))

-- the record of a line, none where the line has no word, or what is wrong
abbrev pub line_meaning : List ℕ → Result (Option Record) LineFault
line_meaning bs =
    cond (is_empty (first_word bs)) (Ok None)
    (and_then (keyword_named (first_word bs)) (λ k. and_then (record_after k (after_word bs)) (λ r. Ok (Some r))))
