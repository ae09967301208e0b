use Rattle.std.specs.Prelude.{◌≡◌, ℕ, ◌^◌, ◌<◌, ◌≤◌, Bool, false, ◌&&◌, ◌||◌, ◌⊎◌, List, [], ◌∷◌, length, ◌==◌, slice_index, slice_index_or}
use Rattle.interference.specs.declared.fault.ModelFault.{ModelFault}
use Rattle.interference.specs.declared.fault.ModelFault.TheVariants.{NodeCount, EdgeOutside, Side, Coordinate}
use Rattle.interference.specs.declared.graph.Edge.{Edge}
use Rattle.interference.specs.declared.transmission.Transmission.{Transmission}
use Rattle.interference.specs.Transmissions.{ruled}
use Rattle.interference.specs.Words.{bit_of}

-- transmissions apart conflict when one of the two receivers hears the other's sender
abbrev pub graph_conflict : ℕ → (ℕ → ℕ → Bool) → Transmission → Transmission → Bool
graph_conflict n edge a b = ruled n a b (edge a.from b.to || edge b.from a.to)

-- the edge from a to b, in a graph by words: bit b of word a
abbrev pub word_edge : List ℕ → ℕ → ℕ → Bool
word_edge ws a b = bit_of (slice_index ws a) b

-- the edge from a to b, in a graph by a list of edges
unfoldable pub list_edge : List Edge → ℕ → ℕ → Bool
list_edge [] a b = false
list_edge (e ∷ es) a b = (a == e.from && b == e.to) || list_edge es a b

abbrev pub GoodCount : ℕ → Type 0
GoodCount n = (1 ≤ n) × (n ≤ 64)

abbrev pub BadCount : ℕ → Type 0
BadCount n = (n < 1) ⊎ (64 < n)

-- the words below place k have no bit at or above the number of nodes
abbrev pub WordsWithin : List ℕ → ℕ → Type 0
WordsWithin ws k = (j : ℕ) → j < k → slice_index ws j < 2 ^ length ws

-- the one refusal of these words
abbrev pub WordsRefused : List ℕ → ModelFault → Type 0
WordsRefused ws NodeCount = BadCount (length ws)
WordsRefused ws (EdgeOutside k) =
    GoodCount (length ws) × (k < length ws) × (2 ^ length ws ≤ slice_index ws k) × WordsWithin ws k
WordsRefused ws Side = ⊥
WordsRefused ws (Coordinate k) = ⊥

-- the words are a graph, and the model means just that graph
pub record WordsMeant (ws : List ℕ) (nodes : ℕ) (conflict : Transmission → Transmission → Bool) : Type 0 where
  pub counted : GoodCount (length ws)
  pub within : WordsWithin ws (length ws)
  pub count : nodes ≡ length ws
  pub pairs : (a b : Transmission) → conflict a b ≡ graph_conflict (length ws) (word_edge ws) a b

-- the edge at place k
abbrev pub edge_at : List Edge → ℕ → Edge
edge_at es k = slice_index_or es k (record { from = 0; to = 0 })

-- the edges below place k name only nodes below n
abbrev pub EdgesWithin : ℕ → List Edge → ℕ → Type 0
EdgesWithin n es k = (j : ℕ) → j < k → ((edge_at es j).from < n) × ((edge_at es j).to < n)

-- the one refusal of this number of nodes and these edges
abbrev pub EdgesRefused : ℕ → List Edge → ModelFault → Type 0
EdgesRefused n es NodeCount = BadCount n
EdgesRefused n es (EdgeOutside k) =
    GoodCount n × (k < length es) × ((n ≤ (edge_at es k).from) ⊎ (n ≤ (edge_at es k).to)) × EdgesWithin n es k
EdgesRefused n es Side = ⊥
EdgesRefused n es (Coordinate k) = ⊥

-- the edges are a graph of n nodes, and the model means just that graph
pub record EdgesMeant (n : ℕ) (es : List Edge) (nodes : ℕ) (conflict : Transmission → Transmission → Bool) : Type 0 where
  pub counted : GoodCount n
  pub within : EdgesWithin n es (length es)
  pub count : nodes ≡ n
  pub pairs : (a b : Transmission) → conflict a b ≡ graph_conflict n (list_edge es) a b
