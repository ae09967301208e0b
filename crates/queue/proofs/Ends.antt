-- The heap before and after a sift: one element more at its end, or its last element in the place of the first.
-- Assumes nothing.
use Rattle.std.proofs.Common.{◌≡◌, ℕ, zero, suc, ◌-◌, ◌/◌, ◌<◌, ◌≤◌, Bool, false, List, [], ◌∷◌, ◌++◌, length, get_or, drop, set, ap, ◌∙◌, ⊎_elim, arith}
use Rattle.std.specs.List.{refill, swap_remove}
use Rattle.std.specs.List.Sorted.{IsPermutation}
use Rattle.std.proofs.ByRecursion.{All-from_get_or}
use Rattle.std.proofs.Permutation.{which}
use Rattle.std.proofs.lemmas.List.{length-take, length-set, length_push, get_or_append_left, get_or-take, get_or-set_other, take_at}
use Rattle.std.proofs.lemmas.List.Sorted.{length_permutation}
use Rattle.queue.specs.Heap.{Heap, First, Rising, Sinking}
use Rattle.queue.specs.Order.{Order}
use Rattle.queue.proofs.Sifts.{never, parent}

-- a slice lent whole and sifted
pub refilled : {X : Type 0} (xs ys : List X) → IsPermutation xs ys → refill (length xs) xs ys ≡ ys
refilled xs ys s = take_at ys (drop (length ys) xs) (length xs) (length_permutation xs ys s)

module _ {X : Type 0} (before : X → X → Bool) where
  pub rising : (xs : List X) (x : X) (n : ℕ) → n ≡ length xs → Heap before xs → Rising before (xs ++ x ∷ []) n
  rising xs x n e h = record {
    others = λ p k d a b f ne.
        let in' : k < length xs = omega (arith, length_push xs x) in
        rw (get_or_append_left xs (x ∷ []) d k in', get_or_append_left xs (x ∷ []) d p (omega arith)) (parent before xs p k d a b in' h);
    spans = λ p k d a b f g i. absurd (omega (arith, length_push xs x));
  }

  module _ (xs : List X) (x : X) where
    shorter : length (swap_remove xs 0 x) ≡ length xs - 1
    shorter = simp (length-take, length-set) (omega arith)

    kept : (k : ℕ) (d : X) → (k ≡ 0 → ⊥) → k < length xs - 1 → get_or (swap_remove xs 0 x) k d ≡ get_or xs k d
    kept k d a b = get_or-take (length xs - 1) (set xs 0 (get_or xs (length xs - 1) x)) k d b ∙ get_or-set_other xs 0 k _ d a

    pub sinking : Heap before xs → Sinking before (swap_remove xs 0 x) 0
    sinking h = record {
      others = λ p k d a b f ne.
          let in' : k < length xs - 1 = omega (arith, shorter) in
          rw (kept k d (omega arith) in', kept p d ne (omega arith)) (parent before xs p k d a b (omega arith) h);
      spans = λ p k d a b f g i. absurd (omega arith);
    }

  module _ (o : Order before) where
    top : (xs : List X) (d : X) → Heap before xs → (fuel k : ℕ) → k ≤ fuel → k < length xs → before (get_or xs k d) (get_or xs 0 d) ≡ false
    top xs d h zero k a b = never before o _ _ (ap (λ m. get_or xs m d) (let u : k ≡ 0 = omega arith in u))
    top xs d h (suc fuel) k a b = ⊎_elim
        (λ (u : k ≡ 0). never before o _ _ (ap (λ m. get_or xs m d) u))
        (λ (u : k ≡ 0 → ⊥). o.chain _ _ _ (parent before xs ((k - 1) / 2) k d (omega arith) (omega arith) b h) (top xs d h fuel ((k - 1) / 2) (omega arith) (omega arith)))
        (which k 0)

    pub first : (xs : List X) (x : X) → x ≡ get_or xs 0 x → Heap before xs → First before x xs
    first xs x e h = All-from_get_or (λ y. before y x ≡ false) xs x (λ k f. ap (before (get_or xs k x)) e ∙ top xs x h k k (omega arith) f)
