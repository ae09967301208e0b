-- What `push` and `pop` of a slice put together from a sift. Assumes nothing.
use Rattle.std.proofs.Common.{◌≡◌, ℕ, ◌+◌, ◌-◌, ◌<◌, ◌≤◌, Bool, false, List, [], ◌∷◌, ◌++◌, length, get_or, take, drop, set, sym, refl, ap, ◌∙◌, arith}
use Rattle.std.specs.List.Sorted.{IsPermutation}
use Rattle.std.specs.List.{ContainsAt}
use Rattle.std.proofs.ByRecursion.{all-has, has_shuffled}
use Rattle.std.proofs.lemmas.List.{length-take, length_push, get_or-take, take_more, take_more_set, take-append-le, take_at, take_all, drop_at, drop-set-lt}
use Rattle.std.proofs.lemmas.List.Sorted.{IsPermutation-cons, IsPermutation-sym, IsPermutation-to_front, IsPermutation-trans, length_permutation}
use Rattle.queue.specs.Heap.{Heap, First, Rising, Sinking, Pushed, Popped}
use Rattle.queue.specs.Order.{Order}
use Rattle.queue.proofs.Ends.{rising}
use Rattle.queue.proofs.Sifts.{parent}

module _ {X : Type 0} (before : X → X → Bool) where
  module _ (xs : List X) (x : X) (n m : ℕ) (room : n < length xs) (is : m ≡ n + 1) where
    long-front : length (take n xs) ≡ n
    long-front = simp length-take (omega arith)

    written : take m (set xs n x) ≡ take n xs ++ x ∷ []
    written = rw is (take_more_set xs n x room)

    risen : Heap before (take n xs) → Rising before (take m (set xs n x)) n
    risen h = rw written (rising before (take n xs) x n (omega (arith, long-front)) h)

    pub pushed : (zs : List X) → IsPermutation (take m (set xs n x)) zs → (Rising before (take m (set xs n x)) n → Heap before zs) → Pushed before x n xs (zs ++ drop m (set xs n x))
    pushed zs s h =
        let from = rw written at s in
        let long : length zs ≡ n + 1 = length_permutation _ _ from ∙ length_push (take n xs) x ∙ simp length-take (omega arith) in
        record {
          room = room;
          holds = rw (take_at zs (drop m (set xs n x)) (n + 1) long) (IsPermutation-trans _ _ _ (IsPermutation-sym _ _ (IsPermutation-to_front (take n xs) x)) from);
          heaped = λ heap. rw (take_at zs (drop m (set xs n x)) (n + 1) long) (h (risen heap));
          rest = drop_at zs _ (n + 1) long ∙ rw is (drop-set-lt (n + 1) xs n x (omega arith));
        }

  module _ (o : Order before) where
    -- of two elements that rank first, each is the other
    pub only : (xs : List X) (x y : X) → ContainsAt xs x → ContainsAt xs y → First before x xs → First before y xs → y ≡ x
    only xs x y hx hy fx fy = o.total y x
        (all-has (λ z. before z x ≡ false) xs y fx hy)
        (all-has (λ z. before z y ≡ false) xs x fy hx)

    module _ (xs zs : List X) (x : X) (n m : ℕ) (some : 0 < n) (within : n ≤ length xs) (is : m ≡ n) (long : length zs ≡ length (take m xs)) where
      pub popped : IsPermutation (take m xs) (x ∷ take (length (take m xs) - 1) zs) → (Heap before (take m xs) → First before x (take m xs)) → (Heap before (take m xs) → Heap before (take (length (take m xs) - 1) zs)) → Popped before x n xs (zs ++ drop m xs)
      popped s f h =
          let whole : length (take m xs) ≡ n = simp length-take (omega arith) in
          let left : take (n - 1) (zs ++ drop m xs) ≡ take (n - 1) zs = take-append-le (n - 1) zs (drop m xs) (omega arith) in
          let holds : IsPermutation (take n xs) (x ∷ take (n - 1) (zs ++ drop m xs)) = rw left (rw (whole, is) at s) in
          let first' : Heap before (take n xs) → First before x (take n xs) = λ heap. rw is at (f (rw is heap)) in
          record {
            some = some;
            within = within;
            holds = holds;
            first = first';
            only = λ heap y hy fy. only (take n xs) x y (has_shuffled _ _ x (IsPermutation-sym _ _ holds) (0, omega arith, λ d. refl)) hy (first' heap) fy;
            heaped = λ heap. rw left (rw whole at (h (rw is heap)));
            rest = drop_at zs (drop m xs) n (omega arith) ∙ ap (λ k. drop k xs) is;
          }

  module _ (xs ys : List X) (m : ℕ) (some : 0 < length xs) (is : m ≡ length xs - 1) (long : length ys ≡ length xs)
      (last : (d : X) → get_or ys (length xs - 1) d ≡ get_or xs 0 d)
      (apart : (k : ℕ) (d : X) → (k ≡ 0 → ⊥) → (k ≡ length xs - 1 → ⊥) → get_or ys k d ≡ get_or xs k d) where
    shorter : length (take m ys) ≡ length xs - 1
    shorter = simp length-take (omega arith)

    pub sinking : Heap before xs → Sinking before (take m ys) 0
    sinking h = record {
      others = λ p k d a b f ne.
          let in' : k < m = omega (arith, shorter) in
          rw (get_or-take m ys k d in', get_or-take m ys p d (omega arith), apart k d (omega arith) (omega arith), apart p d ne (omega arith)) (parent before xs p k d a b (omega arith) h);
      spans = λ p k d a b f g i. absurd (omega arith);
    }

    pub taken : (zs : List X) (x : X) → x ≡ get_or xs 0 x → IsPermutation xs ys → IsPermutation (take m ys) zs → IsPermutation xs (x ∷ zs)
    taken zs x e s t =
        let parts : ys ≡ take m ys ++ x ∷ [] = sym (take_all (m + 1) ys (omega arith)) ∙ take_more ys m x (omega arith) ∙ ap (λ y. take m ys ++ y ∷ []) (rw is (last x) ∙ sym e) in
        IsPermutation-trans _ _ _ (rw parts at s) (IsPermutation-trans _ _ _ (IsPermutation-to_front (take m ys) x) (IsPermutation-cons x _ _ t))

    pub kept : (zs : List X) → IsPermutation (take m ys) zs → take (length xs - 1) (zs ++ drop m ys) ≡ zs
    kept zs t = take_at zs (drop m ys) (length xs - 1) (length_permutation _ _ t ∙ shorter)
