-- Laws of the order in which elements come out, for crates above. Assumes nothing.
use Rattle.std.proofs.Common.{◌≡◌, ℕ, zero, suc, ◌+◌, ◌-◌, ◌<◌, Bool, true, false, List, [], ◌∷◌, ◌++◌, length, get_or, take, set, sym, refl, ap, ◌∙◌, ⊎_elim, arith}
use Rattle.std.specs.List.Sorted.{IsPermutation}
use Rattle.std.specs.List.{swap}
use Rattle.std.proofs.ByRecursion.{All-weaker, all_shuffled}
use Rattle.std.proofs.lemmas.List.Sorted.{IsPermutation-refl, IsPermutation-cons, IsPermutation-swap, IsPermutation-sym, IsPermutation-to_front, IsPermutation-trans, IsPermutation-keeps, length_permutation}
use Rattle.std.proofs.lemmas.Bool.{cases_Bool}
use Rattle.queue.specs.Heap.{Heap, First, Pushed, Popped}
use Rattle.queue.specs.Order.{Order}
use Rattle.queue.specs.Ranked.{placed, ranked, InOrder}

module _ {X : Type 0} (before : X → X → Bool) where
  placed_before : (x y : X) (ys : List X) → before x y ≡ true → placed before x (y ∷ ys) ≡ x ∷ y ∷ ys
  placed_before x y ys t = rw t

  placed_after : (x y : X) (ys : List X) → before x y ≡ false → placed before x (y ∷ ys) ≡ y ∷ placed before x ys
  placed_after x y ys t = rw t

  placed_behind : (x y z : X) (zs : List X) → before x z ≡ false → before y z ≡ false → placed before x (placed before y (z ∷ zs)) ≡ z ∷ placed before x (placed before y zs)
  placed_behind x y z zs t s = ap (placed before x) (placed_after y z zs s) ∙ placed_after x z _ t

  pub heap_none : (xs : List X) → Heap before (take 0 xs)
  heap_none xs k d f = absurd (omega arith)

  pub ranked_empty : ranked before [] ≡ []
  ranked_empty = refl

  -- ---- the same elements

  pub shuffled_placed : (x : X) (ys : List X) → IsPermutation (x ∷ ys) (placed before x ys)
  shuffled_placed x [] = IsPermutation-refl (x ∷ [])
  shuffled_placed x (y ∷ ys) = ⊎_elim
      (λ (t : before x y ≡ true). rw t (IsPermutation-refl (x ∷ y ∷ ys)))
      (λ (t : before x y ≡ false). rw t (IsPermutation-trans _ _ _ (IsPermutation-swap (x ∷ y ∷ ys) (y ∷ x ∷ ys) 0 1 (omega arith) (omega arith) refl) (IsPermutation-cons y _ _ (shuffled_placed x ys))))
      (cases_Bool (before x y))

  pub shuffled_ranked : (xs : List X) → IsPermutation xs (ranked before xs)
  shuffled_ranked [] = IsPermutation-refl []
  shuffled_ranked (x ∷ xs) = IsPermutation-trans _ _ _ (IsPermutation-cons x _ _ (shuffled_ranked xs)) (shuffled_placed x (ranked before xs))

  pub length-placed : (x : X) (ys : List X) → length (placed before x ys) ≡ length ys + 1
  length-placed x ys = omega (arith, length_permutation _ _ (shuffled_placed x ys))

  pub length-ranked : (xs : List X) → length (ranked before xs) ≡ length xs
  length-ranked xs = length_permutation _ _ (shuffled_ranked xs)

  -- ---- one order, whatever order the elements are given in

  module _ (o : Order before) where
    -- each of x and y goes to the front of zs
    placed_pair : (x y : X) (zs : List X) → placed before x zs ≡ x ∷ zs → placed before y zs ≡ y ∷ zs → placed before x (placed before y zs) ≡ placed before y (placed before x zs)
    placed_pair x y zs u v = ⊎_elim
        (λ (t : before x y ≡ true). ap (placed before x) v ∙ placed_before x y zs t ∙ sym (ap (placed before y) u ∙ placed_after y x zs (o.asymmetric x y t) ∙ ap (λ l. x ∷ l) v))
        (λ (t : before x y ≡ false). ⊎_elim
        (λ (s : before y x ≡ true). ap (placed before x) v ∙ placed_after x y zs t ∙ ap (λ l. y ∷ l) u ∙ sym (ap (placed before y) u ∙ placed_before y x zs s))
        (λ (s : before y x ≡ false). let e : x ≡ y = o.total x y t s in rw e)
        (cases_Bool (before y x)))
        (cases_Bool (before x y))

    -- x ranks before z, y does not
    placed-apart : (x y z : X) (zs : List X) → before x z ≡ true → before y z ≡ false → placed before x (placed before y (z ∷ zs)) ≡ placed before y (placed before x (z ∷ zs))
    placed-apart x y z zs t s =
        let later : before y x ≡ false = o.chain y z x s (o.asymmetric x z t) in
        ap (placed before x) (placed_after y z zs s) ∙ placed_before x z _ t ∙ sym (ap (placed before y) (placed_before x z zs t) ∙ placed_after y x _ later ∙ ap (λ l. x ∷ l) (placed_after y z zs s))

    -- two may be put in either way round
    placed-either : (x y : X) (zs : List X) → placed before x (placed before y zs) ≡ placed before y (placed before x zs)
    placed-either x y [] = placed_pair x y [] refl refl
    placed-either x y (z ∷ zs) = ⊎_elim
        (λ (t : before x z ≡ true). ⊎_elim
        (λ (s : before y z ≡ true). placed_pair x y (z ∷ zs) (placed_before x z zs t) (placed_before y z zs s))
        (λ (s : before y z ≡ false). placed-apart x y z zs t s)
        (cases_Bool (before y z)))
        (λ (t : before x z ≡ false). ⊎_elim
        (λ (s : before y z ≡ true). sym (placed-apart y x z zs s t))
        (λ (s : before y z ≡ false). placed_behind x y z zs t s ∙ ap (λ l. z ∷ l) (placed-either x y zs) ∙ sym (placed_behind y x z zs s t))
        (cases_Bool (before y z)))
        (cases_Bool (before x z))

    -- x outside and the element at i, one in the place of the other
    ranked-traded : (xs : List X) (i : ℕ) (x d : X) → i < length xs → placed before (get_or xs i d) (ranked before (set xs i x)) ≡ placed before x (ranked before xs)
    ranked-traded [] i x d f = absurd (omega arith)
    ranked-traded (y ∷ ys) zero x d f = placed-either y x (ranked before ys)
    ranked-traded (y ∷ ys) (suc i) x d f = placed-either _ y _ ∙ ap (placed before y) (ranked-traded ys i x d (omega arith)) ∙ placed-either y x _

    -- the elements at i and at j, one in the place of the other
    ranked-set-both : (xs : List X) (i j : ℕ) (d : X) → i < length xs → j < length xs → ranked before (set (set xs i (get_or xs j d)) j (get_or xs i d)) ≡ ranked before xs
    ranked-set-both [] i j d f g = refl
    ranked-set-both (x ∷ xs) zero zero d f g = refl
    ranked-set-both (x ∷ xs) zero (suc j) d f g = ranked-traded xs j x d (omega arith)
    ranked-set-both (x ∷ xs) (suc i) zero d f g = ranked-traded xs i x d (omega arith)
    ranked-set-both (x ∷ xs) (suc i) (suc j) d f g = ap (placed before x) (ranked-set-both xs i j d (omega arith) (omega arith))

    ranked-exchanged : (xs : List X) (i j : ℕ) → i < length xs → j < length xs → ranked before (swap xs i j) ≡ ranked before xs
    ranked-exchanged [] i j f g = refl
    ranked-exchanged (x ∷ xs) i j f g = ranked-set-both (x ∷ xs) i j x f g

    pub ranked_shuffled : (xs ys : List X) → IsPermutation xs ys → ranked before xs ≡ ranked before ys
    ranked_shuffled xs ys s = IsPermutation-keeps xs (λ l. ranked before xs ≡ ranked before l) refl (λ l i j f g e. e ∙ sym (ranked-exchanged l i j f g)) ys s

    -- the elements once x went in, in any order
    pub pushed : (xs zs : List X) (x : X) → IsPermutation (xs ++ x ∷ []) zs → ranked before zs ≡ placed before x (ranked before xs)
    pushed xs zs x s = sym (ranked_shuffled _ _ (IsPermutation-trans _ _ _ (IsPermutation-sym _ _ (IsPermutation-to_front xs x)) s))

    pub pushed_ranked : (x : X) (n : ℕ) (xs ys : List X) → Pushed before x n xs ys → ranked before (take (n + 1) ys) ≡ placed before x (ranked before (take n xs))
    pushed_ranked x n xs ys p = sym (ranked_shuffled _ _ p.holds)

    -- what ranks first stands first
    pub placed_first : (x : X) (ys : List X) → First before x ys → placed before x ys ≡ x ∷ ys
    placed_first x [] f = refl
    placed_first x (y ∷ ys) f = ⊎_elim
        (λ (t : before x y ≡ true). placed_before x y ys t)
        (λ (t : before x y ≡ false). let e : x ≡ y = o.total x y t f.0 in placed_after x y ys t ∙ ap (λ l. y ∷ l) (placed_first x ys f.1) ∙ rw e)
        (cases_Bool (before x y))

    -- the elements once x came out, in any order
    pub popped : (xs ys zs : List X) (x : X) → IsPermutation xs (x ∷ ys) → IsPermutation ys zs → First before x xs → (ranked before xs ≡ x ∷ ranked before zs) × First before x (ranked before zs)
    popped xs ys zs x s t f =
        let both : IsPermutation xs (x ∷ zs) = IsPermutation-trans _ _ _ s (IsPermutation-cons x _ _ t) in
        let left : First before x (ranked before zs) = all_shuffled (λ y. before y x ≡ false) _ _ (shuffled_ranked zs) (all_shuffled (λ y. before y x ≡ false) _ _ both f).1 in
        (ranked_shuffled _ _ both ∙ placed_first x _ left, left)

    pub popped_ranked : (x : X) (n : ℕ) (xs ys : List X) → Heap before (take n xs) → Popped before x n xs ys → ranked before (take n xs) ≡ x ∷ ranked before (take (n - 1) ys)
    popped_ranked x n xs ys h p =
        let left = (all_shuffled (λ y. before y x ≡ false) _ _ p.holds (p.first h)).1 in
        ranked_shuffled _ _ p.holds ∙ placed_first x _ (all_shuffled (λ y. before y x ≡ false) _ _ (shuffled_ranked (take (n - 1) ys)) left)

    -- ---- each element ranks first among those from it on

    placed-in-order : (x : X) (ys : List X) → InOrder before ys → InOrder before (placed before x ys)
    placed-in-order x [] h = (tt, tt)
    placed-in-order x (y ∷ ys) h = ⊎_elim
        (λ (t : before x y ≡ true).
        let after : before y x ≡ false = o.asymmetric x y t in
        rw t ((after, All-weaker (λ z. before z y ≡ false) (λ z. before z x ≡ false) (λ z u. o.chain z y x u after) ys h.0), h))
        (λ (t : before x y ≡ false). rw t (all_shuffled (λ z. before z y ≡ false) _ _ (shuffled_placed x ys) (t, h.0), placed-in-order x ys h.1))
        (cases_Bool (before x y))

    pub ranked_in_order : (xs : List X) → InOrder before (ranked before xs)
    ranked_in_order [] = tt
    ranked_in_order (x ∷ xs) = placed-in-order x (ranked before xs) (ranked_in_order xs)
