-- The bytes that a frame, and a record that was checked, stand for.
use Rattle.std.specs.Prelude.{ℕ, List, ◌∷◌, ◌++◌}
use Rattle.dayfile.specs.declared.reader.Frame.{Frame}
use Rattle.dayfile.specs.declared.reader.Frame.TheVariants.{Nodes, Edge, Tree, Query, Release, Close, Run}
use Rattle.dayfile.specs.declared.reader.WholeRecord.{WholeRecord}

abbrev pub framed : Frame → List ℕ
framed (Nodes body) = 1 ∷ body
framed (Edge body) = 2 ∷ body
framed (Tree body) = 3 ∷ body
framed (Query body) = 4 ∷ body
framed (Release body) = 5 ∷ body
framed (Close body) = 6 ∷ body
framed (Run body) = 7 ∷ body

abbrev pub bytes_in : WholeRecord → List ℕ
bytes_in w = framed w.0 ++ w.1.now
