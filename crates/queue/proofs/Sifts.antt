-- What each exchange of a sift keeps. Assumes nothing.
use Rattle.std.proofs.Common.{◌≡◌, ℕ, ◌+◌, ◌-◌, ◌*◌, ◌/◌, ◌<◌, ◌≤◌, Bool, true, false, List, length, get_or, sym, refl, ap, ◌∙◌, ⊎_elim, arith}
use Rattle.std.proofs.Permutation.{which}
use Rattle.queue.specs.Heap.{Heap, Best, Rising, Sinking}
use Rattle.queue.specs.Order.{Order}

module _ {X : Type 0} (before : X → X → Bool) where
  -- a heap, by parent and child
  pub parent : (xs : List X) (p k : ℕ) (d : X) → p * 2 + 1 ≤ k → k ≤ p * 2 + 2 → k < length xs → Heap before xs → before (get_or xs k d) (get_or xs p d) ≡ false
  parent xs p k d a b f h =
      let child : k ≡ k - 1 + 1 = omega arith in
      let up : p ≡ (k - 1) / 2 = omega arith in
      ap (λ m. before (get_or xs m d) (get_or xs p d)) child ∙ ap (λ m. before (get_or xs (k - 1 + 1) d) (get_or xs m d)) up ∙ h (k - 1) d (omega arith)

module _ {X : Type 0} (before : X → X → Bool) (o : Order before) where
  itself : (x : X) (b : Bool) → before x x ≡ b → before x x ≡ false
  itself x true e = o.asymmetric x x e
  itself x false e = e

  pub never : (x y : X) → x ≡ y → before x y ≡ false
  never x y e = ap (before x) (sym e) ∙ itself x _ refl

  -- ---- the child that ranks first

  pub only_child : (xs : List X) (j c : ℕ) → c ≡ j * 2 + 1 → c + 1 ≡ length xs → Best before xs j c
  only_child xs j c e l k d a b f = never _ _ (ap (λ m. get_or xs m d) (let u : k ≡ c = omega arith in u))

  pub left_child : (xs : List X) (j c : ℕ) → c ≡ j * 2 + 1 → ((d : X) → before (get_or xs (c + 1) d) (get_or xs c d) ≡ false) → Best before xs j c
  left_child xs j c e t k d a b f = ⊎_elim
      (λ (u : k ≡ c). never _ _ (ap (λ m. get_or xs m d) u))
      (λ (u : k ≡ c → ⊥). let v : k ≡ c + 1 = omega arith in rw v (t d))
      (which k c)

  pub right_child : (xs : List X) (j c : ℕ) → c ≡ j * 2 + 1 → ((d : X) → before (get_or xs (c + 1) d) (get_or xs c d) ≡ true) → Best before xs j (c + 1)
  right_child xs j c e t k d a b f = ⊎_elim
      (λ (u : k ≡ c). rw u (o.asymmetric _ _ (t d)))
      (λ (u : k ≡ c → ⊥). never _ _ (ap (λ m. get_or xs m d) (let v : k ≡ c + 1 = omega arith in v)))
      (which k c)

  -- ---- an exchange of the places j and c, a child of j: ys is xs after it

  module _ (xs ys : List X) (j c : ℕ) (low : j * 2 + 1 ≤ c) (high : c ≤ j * 2 + 2) (within : c < length xs) (long : length ys ≡ length xs)
      (upper : (d : X) → get_or ys j d ≡ get_or xs c d) (lower : (d : X) → get_or ys c d ≡ get_or xs j d)
      (apart : (m : ℕ) (d : X) → (m ≡ j → ⊥) → (m ≡ c → ⊥) → get_or ys m d ≡ get_or xs m d)
      (t : (d : X) → before (get_or xs c d) (get_or xs j d) ≡ true) where
    pub rises : Rising before xs c → Rising before ys j
    rises h = record {
      others = λ p k d a b f n. ⊎_elim
          (λ (u : k ≡ c). let v : p ≡ j = omega arith in rw (u, v, lower, upper) (o.asymmetric _ _ (t d)))
          (λ (u : k ≡ c → ⊥). rw (apart k d n u) (⊎_elim
          (λ (v : p ≡ j). rw (v, upper) (o.chain _ _ _ (h.others j k d (omega arith) (omega arith) (omega arith) u) (o.asymmetric _ _ (t d))))
          (λ (v : p ≡ j → ⊥). ⊎_elim
          (λ (w : p ≡ c). rw (w, lower) (h.spans j k d low high (omega arith) (omega arith) (omega arith)))
          (λ (w : p ≡ c → ⊥). rw (apart p d v w) (h.others p k d a b (omega arith) u))
          (which p c))
          (which p j)))
          (which k c);
      spans = λ p k d a b f g i.
          let over = h.others p j d a b (omega arith) (omega arith) in
          rw (apart p d (omega arith) (omega arith)) (⊎_elim
          (λ (u : k ≡ c). rw (u, lower) over)
          (λ (u : k ≡ c → ⊥). rw (apart k d (omega arith) u) (o.chain _ _ _ (h.others j k d f g (omega arith) u) over))
          (which k c));
    }

    pub sinks : Best before xs j c → Sinking before xs j → Sinking before ys c
    sinks best h = record {
      others = λ p k d a b f n. ⊎_elim
          (λ (u : p ≡ j). rw (u, upper) (⊎_elim
          (λ (v : k ≡ c). rw (v, lower) (o.asymmetric _ _ (t d)))
          (λ (v : k ≡ c → ⊥). rw (apart k d (omega arith) v) (best k d (omega arith) (omega arith) (omega arith)))
          (which k c)))
          (λ (u : p ≡ j → ⊥). rw (apart p d u n) (⊎_elim
          (λ (v : k ≡ j). rw (v, upper) (h.spans p c d (omega arith) (omega arith) low high within))
          (λ (v : k ≡ j → ⊥). rw (apart k d v (omega arith)) (h.others p k d a b (omega arith) u))
          (which k j)))
          (which p j);
      spans = λ p k d a b f g i.
          let u : p ≡ j = omega arith in
          rw (u, upper, apart k d (omega arith) (omega arith)) (h.others c k d f g (omega arith) (omega arith));
    }

  -- ---- where a sift ends

  pub risen : (xs : List X) (j : ℕ) → ((p : ℕ) (d : X) → p * 2 + 1 ≤ j → j ≤ p * 2 + 2 → before (get_or xs j d) (get_or xs p d) ≡ false) → Rising before xs j → Heap before xs
  risen xs j t h k d f = ⊎_elim
      (λ (u : k + 1 ≡ j). rw u (t (k / 2) d (omega arith) (omega arith)))
      (λ (u : k + 1 ≡ j → ⊥). h.others (k / 2) (k + 1) d (omega arith) (omega arith) f u)
      (which (k + 1) j)

  pub sunk : (xs : List X) (j c : ℕ) → Best before xs j c → ((d : X) → before (get_or xs c d) (get_or xs j d) ≡ false) → Sinking before xs j → Heap before xs
  sunk xs j c best t h k d f = ⊎_elim
      (λ (u : k / 2 ≡ j). rw u (o.chain _ _ _ (best (k + 1) d (omega arith) (omega arith) f) (t d)))
      (λ (u : k / 2 ≡ j → ⊥). h.others (k / 2) (k + 1) d (omega arith) (omega arith) f u)
      (which (k / 2) j)
