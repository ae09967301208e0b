-- The elements in the order in which they come out. Assumes nothing.
use Rattle.std.specs.Prelude.{Bool, cond, List, [], ◌∷◌}
use Rattle.queue.specs.Heap.{First}

module _ {X : Type 0} (before : X → X → Bool) where
  -- x put before the first element that it ranks before
  abbrev pub placed : X → List X → List X
  placed x [] = x ∷ []
  placed x (y ∷ ys) = cond (before x y) (x ∷ y ∷ ys) (y ∷ placed x ys)

  -- each element put in its place among those after it
  abbrev pub ranked : List X → List X
  ranked [] = []
  ranked (x ∷ xs) = placed x (ranked xs)

  -- no element ranks before one that stands before it
  abbrev pub InOrder : List X → Type 0
  InOrder [] = Unit {0}
  InOrder (x ∷ xs) = First before x xs × InOrder xs
