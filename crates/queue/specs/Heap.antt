-- What the contracts of the queue say of its places. Assumes nothing.
--     Heap before xs         no element ranks before its parent: the parent of the one at k + 1 is at k / 2
--     First before x xs      no element of xs ranks before x
--     Rising before xs j     a heap, but that the element at j may rank before its parent
--     Sinking before xs j    a heap, but that a child of j may rank before the element at j
use Rattle.std.specs.Prelude.{◌≡◌, ℕ, ◌+◌, ◌-◌, ◌*◌, ◌/◌, ◌<◌, ◌≤◌, Bool, false, List, ◌∷◌, length, take, drop, ◌≢◌, slice_index_or}
use Rattle.std.specs.List.Sorted.{IsPermutation}
use Rattle.std.specs.List.{ContainsAt, AllByRecursion}

module _ {X : Type 0} (before : X → X → Bool) where
  abbrev pub Heap : List X → Type 0
  Heap xs = (k : ℕ) (d : X) → k + 1 < length xs → before (slice_index_or xs (k + 1) d) (slice_index_or xs (k / 2) d) ≡ false

  abbrev pub First : X → List X → Type 0
  First x xs = AllByRecursion (λ y. before y x ≡ false) xs

  -- no child of j ranks before the element at c
  abbrev pub Best : List X → ℕ → ℕ → Type 0
  Best xs j c = (k : ℕ) (d : X) → j * 2 + 1 ≤ k → k ≤ j * 2 + 2 → k < length xs → before (slice_index_or xs k d) (slice_index_or xs c d) ≡ false

  -- no child of j ranks before the parent of j
  abbrev pub Spans : List X → ℕ → Type 0
  Spans xs j = (p k : ℕ) (d : X) → p * 2 + 1 ≤ j → j ≤ p * 2 + 2 → j * 2 + 1 ≤ k → k ≤ j * 2 + 2 → k < length xs → before (slice_index_or xs k d) (slice_index_or xs p d) ≡ false

  pub record Rising (xs : List X) (j : ℕ) : Type 0 where
    pub others : (p k : ℕ) (d : X) → p * 2 + 1 ≤ k → k ≤ p * 2 + 2 → k < length xs → (k ≢ j) → before (slice_index_or xs k d) (slice_index_or xs p d) ≡ false
    pub spans : Spans xs j

  pub record Sinking (xs : List X) (j : ℕ) : Type 0 where
    pub others : (p k : ℕ) (d : X) → p * 2 + 1 ≤ k → k ≤ p * 2 + 2 → k < length xs → (p ≢ j) → before (slice_index_or xs k d) (slice_index_or xs p d) ≡ false
    pub spans : Spans xs j

  -- x went into the queue in the first n places of xs: ys is what the slice holds then. A heap stays one
  pub record Pushed (x : X) (n : ℕ) (xs ys : List X) : Type 0 where
    pub room : n < length xs
    pub holds : IsPermutation (x ∷ take n xs) (take (n + 1) ys)
    pub heaped : Heap (take n xs) → Heap (take (n + 1) ys)
    pub rest : drop (n + 1) ys ≡ drop (n + 1) xs

  -- x came out of the queue in the first n places of xs: ys is what the slice holds then. Of a heap it is the element that ranks first, and what is left is a heap
  pub record Popped (x : X) (n : ℕ) (xs ys : List X) : Type 0 where
    pub some : 0 < n
    pub within : n ≤ length xs
    pub holds : IsPermutation (take n xs) (x ∷ take (n - 1) ys)
    pub first : Heap (take n xs) → First x (take n xs)
    -- any other element that ranks first is x
    pub only : Heap (take n xs) → (y : X) → ContainsAt (take n xs) y → First y (take n xs) → y ≡ x
    pub heaped : Heap (take n xs) → Heap (take (n - 1) ys)
    pub rest : drop n ys ≡ drop n xs
