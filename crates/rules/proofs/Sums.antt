-- Sums and counts over a list, and membership.
use Rattle.std.proofs.Common.{◌≡◌, ℕ, ◌+◌, ◌<◌, ◌≤◌, Bool, true, false, cond, ◌⊎◌, List, [], ◌∷◌, ◌++◌, map, filter, refl, ap, ◌∙◌, subst, inl, inr, add-le-add, arith}
use Rattle.rules.specs.Lists.{◌∈◌, total, count}

module _ {X : Type 0} where
  pub total_mono : (f g : X → ℕ) (t : List X) → ((h : X) → h ∈ t → f h ≤ g h) → total f t ≤ total g t
  total_mono f g [] k = omega arith
  total_mono f g (x ∷ t) k = add-le-add (k x (inl refl)) (total_mono f g t (λ h m. k h (inr m)))

  -- the same, and more by one where one part grows
  pub total_more :
      (f g : X → ℕ) (t : List X) → ((h : X) → h ∈ t → f h ≤ g h) → (y : X) → y ∈ t → f y < g y → total f t < total g t
  total_more f g [] k y m l = elim m [ ]
  total_more f g (x ∷ t) k y (inl e) l =
      let l' : f x < g x = subst (λ z. f z < g z) e l in
      let rest = total_mono f g t (λ h m. k h (inr m)) in
      omega arith
  total_more f g (x ∷ t) k y (inr m) l =
      let rest = total_more f g t (λ h n. k h (inr n)) y m l in
      let here = k x (inl refl) in
      omega arith

  pub total-map : (f : X → ℕ) (u : X → X) (t : List X) → total f (map u t) ≡ total (λ h. f (u h)) t
  total-map f u [] = refl
  total-map f u (x ∷ t) = ap (λ n. f (u x) + n) (total-map f u t)

  pub total_mono_map : (f g : X → ℕ) (u : X → X) (t : List X) → ((h : X) → h ∈ t → f h ≤ g (u h)) → total f t ≤ total g (map u t)
  total_mono_map f g u t k = rw total-map (total_mono f (λ h. g (u h)) t k)

  -- what is put at the end adds its part
  pub total_end : (f : X → ℕ) (t : List X) (x : X) → total f t ≤ total f (t ++ (x ∷ []))
  total_end f [] x = omega arith
  total_end f (y ∷ t) x = let r = total_end f t x in omega arith

  -- what weighs nothing can go
  pub total-keep :
      (f : X → ℕ) (p : X → Bool) (t : List X) → ((h : X) → h ∈ t → p h ≡ false → f h ≡ 0) → total f t ≤ total f (filter p t)
  total-keep f p [] k = omega arith
  total-keep f p (x ∷ t) k = go (total-keep f p t (λ h m. k h (inr m))) (p x) refl
    where
      go : total f t ≤ total f (filter p t) → (b : Bool) → p x ≡ b → f x + total f t ≤ total f (cond b (x ∷ filter p t) (filter p t))
      go rest true e = omega arith
      go rest false e = let z = k x (inl refl) e in omega arith

  -- what is kept sums to no more
  pub total_kept : (f : X → ℕ) (p : X → Bool) (t : List X) → total f (filter p t) ≤ total f t
  total_kept f p [] = omega arith
  total_kept f p (x ∷ t) = go (total_kept f p t) (p x)
    where
      go : total f (filter p t) ≤ total f t → (b : Bool) → total f (cond b (x ∷ filter p t) (filter p t)) ≤ f x + total f t
      go rest true = omega arith
      go rest false = omega arith

  pub from_keep : (p : X → Bool) (t : List X) (q : X) → q ∈ filter p t → q ∈ t
  from_keep p [] q m = elim m [ ]
  from_keep p (x ∷ t) q m = go (from_keep p t q) (p x) m
    where
      go : (q ∈ filter p t → q ∈ t) → (b : Bool) → q ∈ cond b (x ∷ filter p t) (filter p t) → (q ≡ x) ⊎ (q ∈ t)
      go rest true (inl e) = inl e
      go rest true (inr n) = inr (rest n)
      go rest false n = inr (rest n)

  -- what is kept passes the test
  pub keep_passes : (p : X → Bool) (t : List X) (q : X) → q ∈ filter p t → p q ≡ true
  keep_passes p [] q m = elim m [ ]
  keep_passes p (x ∷ t) q m = go (keep_passes p t q) (p x) refl m
    where
      go : (q ∈ filter p t → p q ≡ true) → (b : Bool) → p x ≡ b → q ∈ cond b (x ∷ filter p t) (filter p t) → p q ≡ true
      go rest true k (inl e) = ap p e ∙ k
      go rest true k (inr n) = rest n
      go rest false k n = rest n

  pub from_end : (t : List X) (x q : X) → q ∈ (t ++ (x ∷ [])) → (q ∈ t) ⊎ (q ≡ x)
  from_end [] x q (inl e) = inr e
  from_end [] x q (inr m) = elim m [ ]
  from_end (y ∷ t) x q (inl e) = inl (inl e)
  from_end (y ∷ t) x q (inr m) = go (from_end t x q m)
    where
      go : (q ∈ t) ⊎ (q ≡ x) → ((q ≡ y) ⊎ (q ∈ t)) ⊎ (q ≡ x)
      go (inl n) = inl (inr n)
      go (inr e) = inr e

  pub at_end : (t : List X) (x q : X) → q ≡ x → q ∈ (t ++ (x ∷ []))
  at_end [] x q e = inl e
  at_end (y ∷ t) x q e = inr (at_end t x q e)

  pub in_front : (t : List X) (x q : X) → q ∈ t → q ∈ (t ++ (x ∷ []))
  in_front [] x q m = elim m [ ]
  in_front (y ∷ t) x q (inl e) = inl e
  in_front (y ∷ t) x q (inr m) = inr (in_front t x q m)

  pub from_append : (t r : List X) (q : X) → q ∈ (t ++ r) → (q ∈ t) ⊎ (q ∈ r)
  from_append [] r q m = inr m
  from_append (y ∷ t) r q (inl e) = inl (inl e)
  from_append (y ∷ t) r q (inr m) = go (from_append t r q m)
    where
      go : (q ∈ t) ⊎ (q ∈ r) → ((q ≡ y) ⊎ (q ∈ t)) ⊎ (q ∈ r)
      go (inl n) = inl (inr n)
      go (inr e) = inr e

  pub count-append : (p : X → Bool) (t r : List X) → count p (t ++ r) ≡ count p t + count p r
  count-append p [] r = omega arith
  count-append p (x ∷ t) r = let k = count-append p t r in omega arith

  -- none passes
  pub count_none : (p : X → Bool) (t : List X) → ((x : X) → x ∈ t → p x ≡ false) → count p t ≡ 0
  count_none p [] k = refl
  count_none p (x ∷ t) k = rw (k x (inl refl), count_none p t (λ y m. k y (inr m)))

  -- tests that agree on the list count alike
  pub count_same : (p r : X → Bool) (t : List X) → ((x : X) → x ∈ t → p x ≡ r x) → count p t ≡ count r t
  count_same p r [] k = refl
  count_same p r (x ∷ t) k = rw (k x (inl refl), count_same p r t (λ y m. k y (inr m)))

-- where an element of a changed list comes from
pub from_map : {X Y : Type 0} (u : X → Y) (t : List X) (q : Y) → q ∈ map u t → (h : X) × (h ∈ t) × (q ≡ u h)
from_map u [] q m = elim m [ ]
from_map u (x ∷ t) q (inl e) = (x, inl refl, e)
from_map u (x ∷ t) q (inr m) = let r = from_map u t q m in (r.0, inr r.1, r.2)

pub count_map : {X Y : Type 0} (p : Y → Bool) (u : X → Y) (t : List X) → count p (map u t) ≡ count (λ x. p (u x)) t
count_map p u [] = refl
count_map p u (x ∷ t) = ap (λ n. cond (p (u x)) 1 0 + n) (count_map p u t)
