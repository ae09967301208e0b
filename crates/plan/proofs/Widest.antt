-- The greatest value below a bound, and the minimum step distance that the widest gap gives.
use Rattle.std.proofs.Common.{◌≡◌, ℕ, zero, suc, ◌+◌, ◌-◌, ◌<◌, ◌≤◌, max, Bool, true, false, cond, ◌&&◌, ltb, ◌⊎◌, List, [], ◌∷◌, ◌++◌, length, fold, sym, refl, ap, ◌∙◌, inl, inr, ⊎_elim, add-one, arith}
use Rattle.interference.specs.declared.transmission.Transmission.{Transmission}
use Rattle.plan.specs.Approval.{ClearAt, Spaced}
use Rattle.plan.specs.Drafts.{transmission_at}
use Rattle.plan.specs.Spacing.{distance_of, gap_of, most_below}
use Rattle.std.specs.List.{range_with_len}
use Rattle.std.proofs.lemmas.List.{map-id}
use Rattle.std.proofs.lemmas.List.FromFn.{map-range_with_len_more}
use Rattle.std.proofs.lemmas.List.Sums.{fold-append}
use Rattle.std.proofs.lemmas.Bool.{both_ways, cases_Bool, cases_eq, cases_lt, lt-ltb}

module _ (value : ℕ → ℕ) where
  -- the greatest, as the code folds it
  pub most_folded : (n : ℕ) → fold (λ w k. max (value k) w) 0 (range_with_len 0 n) ≡ most_below value n
  unfolding most_below
  most_folded zero = refl
  most_folded (suc n) =
      let more : range_with_len 0 (n + 1) ≡ range_with_len 0 n ++ n ∷ [] = sym (map-id _) ∙ map-range_with_len_more (λ k. k) 0 n n (omega arith) ∙ ap (λ l. l ++ n ∷ []) (map-id _) in
      ap (fold (λ w k. max (value k) w) 0) (rw add-one at more) ∙ fold-append (λ w k. max (value k) w) 0 (range_with_len 0 n) (n ∷ []) ∙ ap (max (value n)) (most_folded n)

  -- what is known already goes through the fold
  fold_known : (xs : List ℕ) (a m : ℕ) → fold (λ w k. max (value k) w) (max a m) xs ≡ max (fold (λ w k. max (value k) w) a xs) m
  fold_known [] a m = refl
  fold_known (x ∷ xs) a m =
      let moved : max (value x) (max a m) ≡ max (max (value x) a) m = omega arith in
      ap (λ s. fold (λ w k. max (value k) w) s xs) moved ∙ fold_known xs (max (value x) a) m

  pub most_from : (n m : ℕ) → fold (λ w k. max (value k) w) m (range_with_len 0 n) ≡ max (most_below value n) m
  most_from n m =
      let none : m ≡ max 0 m = omega arith in
      ap (λ a. fold (λ w k. max (value k) w) a (range_with_len 0 n)) none ∙ fold_known (range_with_len 0 n) 0 m ∙ ap (λ w. max w m) (most_folded n)

  -- no value is greater, and the greatest is 0 or one of them
  pub most_bound : (n k : ℕ) → k < n → value k ≤ most_below value n
  unfolding most_below
  most_bound zero k h = absurd (omega arith)
  most_bound (suc n) k h =
      ⊎_elim (λ (e : k ≡ n). rw e (omega arith))
      (λ (ne : k ≡ n → ⊥). let less : k < n = omega arith in let low = most_bound n k less in omega arith) (cases_eq k n)

  pub most_met : (n : ℕ) → (most_below value n ≡ 0) ⊎ ((k : ℕ) × (k < n) × (most_below value n ≡ value k))
  unfolding most_below
  most_met zero = inl refl
  most_met (suc n) =
      ⊎_elim
      (λ (h : most_below value n ≤ value n). inr (n, omega arith, omega arith))
      (λ (h : value n < most_below value n).
      ⊎_elim (λ (e : most_below value n ≡ 0). absurd (omega arith))
      (λ (m : (k : ℕ) × (k < n) × (most_below value n ≡ value k)). let e = m.2 in inr (m.0, omega (arith, m.1), omega arith)) (most_met n))
      (cases-le (most_below value n) (value n))
    where
      cases-le : (a b : ℕ) → (a ≤ b) ⊎ (b < a)
      cases-le a b = ⊎_elim (λ (h : b < a). inr h) (λ (h : a ≤ b). inl h) (cases_lt b a)

module _ (conflict : Transmission → Transmission → Bool) (ts : List Transmission) (step : ℕ → ℕ) where
  abbrev pub widest_gap : ℕ
  widest_gap = most_below (λ l. most_below (gap_of conflict ts step l) (length ts)) (length ts)

  -- the widest gap, as the code folds it
  pub widest_folded : fold (λ most l. fold (λ w k. max (gap_of conflict ts step l k) w) most (range_with_len 0 (length ts))) 0 (range_with_len 0 (length ts)) ≡ widest_gap
  widest_folded =
      ap (λ (g : ℕ → ℕ → ℕ). fold (λ most l. g l most) 0 (range_with_len 0 (length ts))) (λ i l m. most_from (gap_of conflict ts step l) (length ts) m i)
      ∙ most_folded (λ l. most_below (gap_of conflict ts step l) (length ts)) (length ts)

  gap_is : (l k : ℕ) → step k < step l → conflict (transmission_at ts k) (transmission_at ts l) ≡ true
      → gap_of conflict ts step l k ≡ step l - step k
  gap_is l k h e = rw (lt-ltb (step k) (step l) h, e) refl

  gap_conflicts : (l k : ℕ) → 0 < gap_of conflict ts step l k
      → (conflict (transmission_at ts k) (transmission_at ts l) ≡ true) × (gap_of conflict ts step l k ≤ step l - step k)
  gap_conflicts l k h = both (ltb (step k) (step l)) (conflict (transmission_at ts k) (transmission_at ts l)) (step l - step k) h
    where
      both : (a b : Bool) (x : ℕ) → 0 < cond (a && b) x 0 → (b ≡ true) × (cond (a && b) x 0 ≤ x)
      both true true x h = (refl, omega arith)
      both true false x h = absurd (omega arith)
      both false b x h = absurd (omega arith)

  wide : (l k : ℕ) → l < length ts → k < length ts → gap_of conflict ts step l k ≤ widest_gap
  wide l k hl hk =
      let inner = most_bound (gap_of conflict ts step l) (length ts) k hk in
      let outer = most_bound (λ m. most_below (gap_of conflict ts step m) (length ts)) (length ts) l hl in
      omega arith

  -- some two transmissions that conflict are as far apart as the widest gap, unless it is 0
  widest_met : 0 < widest_gap → (l k : ℕ) × (l < length ts) × (k < length ts) × (widest_gap ≡ gap_of conflict ts step l k)
  widest_met h =
      ⊎_elim (λ (none : widest_gap ≡ 0). absurd (omega arith))
      (λ (o : (l : ℕ) × (l < length ts) × (widest_gap ≡ most_below (gap_of conflict ts step l) (length ts))).
      let (l, hl, outer) = o in
      ⊎_elim (λ (none : most_below (gap_of conflict ts step l) (length ts) ≡ 0). absurd (omega arith))
      (λ (i : (k : ℕ) × (k < length ts) × (most_below (gap_of conflict ts step l) (length ts) ≡ gap_of conflict ts step l k)).
      let (k, hk, inner) = i in (l, k, hl, hk, outer ∙ inner))
      (most_met (gap_of conflict ts step l) (length ts)))
      (most_met (λ l. most_below (gap_of conflict ts step l) (length ts)) (length ts))

  clear_past : ClearAt conflict ts step (widest_gap + 1)
  clear_past k l hk hl far =
      ⊎_elim
      (λ (hit : conflict (transmission_at ts k) (transmission_at ts l) ≡ true).
      let before : step k < step l = omega arith in
      let gap = gap_is l k before hit in
      let within = wide l k hl hk in
      absurd (omega arith))
      (λ (miss : conflict (transmission_at ts k) (transmission_at ts l) ≡ false). miss)
      (cases_Bool (conflict (transmission_at ts k) (transmission_at ts l)))

  none_less : (e : ℕ) → 1 ≤ e → ClearAt conflict ts step e → widest_gap + 1 ≤ e
  none_less e he clear =
      ⊎_elim
      (λ (short : e < widest_gap + 1).
      let some : 0 < widest_gap = omega arith in
      let (l, k, hl, hk, met) = widest_met some in
      let (hit, far) = gap_conflicts l k (omega arith) in
      let miss = clear k l hk hl (omega arith) in
      absurd (both_ways (conflict (transmission_at ts k) (transmission_at ts l)) miss hit))
      (λ (long : widest_gap + 1 ≤ e). long)
      (cases_lt e (widest_gap + 1))

  pub spaced : Spaced conflict ts step (distance_of conflict ts step)
  spaced = record { positive = omega arith; clear = clear_past; least = none_less }

  -- no other number is the minimum step distance
  pub spaced_is : (d : ℕ) → Spaced conflict ts step d → d ≡ distance_of conflict ts step
  spaced_is d other =
      let low = other.least (distance_of conflict ts step) spaced.positive spaced.clear in
      let high = spaced.least d other.positive other.clear in
      omega arith
