-- How the records of a day file lie in its bytes. Assumes nothing.
use Rattle.std.specs.Prelude.{ℕ, ◌+◌, ◌*◌, cond, List, drop, ◌==◌, slice_index}
use Rattle.dayfile.specs.declared.record.Record.{Record}
use Rattle.dayfile.specs.declared.record.Record.TheVariants.{Nodes, Edge, Tree, Query, Release, Close, Run}

-- the kind byte at the front
abbrev pub kind_of : List ℕ → ℕ
kind_of bs = slice_index bs 0

-- the bytes of a record of kind k, its kind byte among them; 0 for an unknown kind
abbrev pub size_of : ℕ → ℕ
size_of k = cond (k == 1) 2 (cond (k == 2) 3 (cond (k == 3) 4 (cond (k == 4) 6 (cond (k == 5) 5 (cond (k == 6) 5 (cond (k == 7) 3 0))))))

-- the number in the two, or four, bytes from place i, lowest first
abbrev pub le16 : List ℕ → ℕ → ℕ
le16 bs i = slice_index bs i + slice_index bs (i + 1) * 256

abbrev pub le32 : List ℕ → ℕ → ℕ
le32 bs i = slice_index bs i + slice_index bs (i + 1) * 256 + slice_index bs (i + 2) * 65536 + slice_index bs (i + 3) * 16777216

-- the record of kind k, from 1 to 7, that bs begins with
abbrev pub record_as : ℕ → List ℕ → Record
record_as k bs =
    cond (k == 1) (Nodes (slice_index bs 1))
    (cond (k == 2) (Edge (slice_index bs 1) (slice_index bs 2))
    (cond (k == 3) (Tree (slice_index bs 1) (slice_index bs 2) (slice_index bs 3))
    (cond (k == 4) (Query (slice_index bs 1) (le16 bs 2) (le16 bs 4))
    (cond (k == 5) (Release (le32 bs 1))
    (cond (k == 6) (Close (le32 bs 1))
    (Run (le16 bs 1)))))))

abbrev pub record_of : List ℕ → Record
record_of bs = record_as (kind_of bs) bs

-- the bytes after that record
abbrev pub rest_of : List ℕ → List ℕ
rest_of bs = drop (size_of (kind_of bs)) bs
