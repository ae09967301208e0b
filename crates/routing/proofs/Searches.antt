-- A search below a bound, and what `position` and `list_any` find there.
use Rattle.std.proofs.Common.{◌≡◌, ℕ, zero, suc, ◌+◌, ◌<◌, Bool, true, false, cond, ltb, ◌||◌, ◌≤◌, List, length, get_or, take, Some, None, Option, sym, refl, ap, ◌∙◌, ⊎_elim, add-one, arith}
use Rattle.std.specs.List.{list_any, position, position_or_len, range_with_len}
use Rattle.std.proofs.lemmas.List.Folds.{list_any_more}
use Rattle.std.proofs.lemmas.List.{take_all}
use Rattle.std.proofs.lemmas.List.FromFn.{get_or-range_with_len, length-range_with_len}
use Rattle.std.proofs.lemmas.List.Sums.{fails_before_first, passes_at_first}
use Rattle.routing.specs.Search.{any_below, first_below, or_else}
use Rattle.std.proofs.lemmas.Bool.{ltb-true, ltb-false, cases_Bool, cases_eq, or_left, or_right}

module _ (test : ℕ → Bool) where
  pub any_start : any_below test 0 ≡ false
  unfolding any_below
  any_start = refl

  pub any_hit : (n k : ℕ) → k < n → test k ≡ true → true ≡ any_below test n
  unfolding any_below
  any_hit zero k below hit = absurd (omega arith)
  any_hit (suc n) k below hit =
      ⊎_elim
      (λ (e : k ≡ n). sym (or_right (any_below test n) (test n) (ap test (sym e) ∙ hit)))
      (λ (ne : k ≡ n → ⊥).
      let less : k < n = omega arith in
      sym (or_left (any_below test n) (test n) (sym (any_hit n k less hit))))
      (cases_eq k n)

  -- what no number below n passes, none does
  pub any_none : (n k : ℕ) → any_below test n ≡ false → k < n → test k ≡ false
  any_none n k none below =
      ⊎_elim
      (λ (hit : test k ≡ true). let e : true ≡ false = any_hit n k below hit ∙ none in cc)
      (λ (miss : test k ≡ false). miss)
      (cases_Bool (test k))

  -- the search goes by the last number, and finds there what it does not find before
  first_more : (n : ℕ) → first_below test (suc n) ≡ or_else (first_below test n) (cond (test n) (Some n) None)
  unfolding first_below
  first_more n = refl

  first_here : (n k : ℕ) → k ≡ n → first_below test k ≡ None → test k ≡ true → Some k ≡ first_below test (suc n)
  first_here n k e none hit = rw (first_more n, ← e, none, hit) refl

  pub first_hit : (n k : ℕ) → k < n → first_below test k ≡ None → test k ≡ true → Some k ≡ first_below test n
  first_hit zero k below none hit = absurd (omega arith)
  first_hit (suc n) k below none hit =
      ⊎_elim
      (λ (e : k ≡ n). first_here n k e none hit)
      (λ (ne : k ≡ n → ⊥).
      let less : k < n = omega arith in
      let found = first_hit n k less none hit in
      sym (first_more n ∙ ap (λ o. or_else o (cond (test n) (Some n) None)) (sym found)))
      (cases_eq k n)

  -- where the search finds nothing, the test fails at each number
  pub first_none : (n k : ℕ) → first_below test n ≡ None → k < n → test k ≡ false
  first_none zero k none below = absurd (omega arith)
  first_none (suc n) k none below =
      let parts = nothing (first_below test n) (test n) n (sym (first_more n) ∙ none) in
      ⊎_elim (λ (e : k ≡ n). ap test e ∙ parts.1)
      (λ (ne : k ≡ n → ⊥). let less : k < n = omega arith in first_none n k parts.0 less) (cases_eq k n)
    where
      nothing : (o : Option ℕ) (b : Bool) (m : ℕ) → or_else o (cond b (Some m) None) ≡ None → (o ≡ None) × (b ≡ false)
      nothing None false m e = (refl, refl)
      nothing None true m e = let z : ◌≡◌ {A = ℕ} 0 1 = cc in absurd (omega arith)
      nothing (Some x) b m e = let z : ◌≡◌ {A = ℕ} 0 1 = cc in absurd (omega arith)

-- what `position` finds in a list, and `any`, by place: d is read only of an empty list
module _ {X : Type 0} (p : X → Bool) (xs : List X) (d : X) where
  unmet : (test : ℕ → Bool) (n : ℕ) → ((k : ℕ) → k < n → test k ≡ false) → first_below test n ≡ None
  unfolding first_below
  unmet test zero none = refl
  unmet test (suc n) none = rw (unmet test n (λ k h. none k (omega arith)), none n (omega arith)) refl

  pub position_below : position p xs ≡ first_below (λ k. p (get_or xs k d)) (length xs)
  position_below = ⊎_elim
      (λ (t : ltb (position_or_len p xs) (length xs) ≡ true).
      let within : position_or_len p xs < length xs = ltb-true _ _ t in
      rw t (first_hit (λ k. p (get_or xs k d)) (length xs) (position_or_len p xs) within (unmet (λ k. p (get_or xs k d)) _ (λ k h. fails_before_first p xs k d h)) (passes_at_first p xs d within)))
      (λ (t : ltb (position_or_len p xs) (length xs) ≡ false).
      rw t (sym (unmet (λ k. p (get_or xs k d)) (length xs) (λ k h. fails_before_first p xs k d (omega (arith, ltb-false _ _ t))))))
      (cases_Bool (ltb (position_or_len p xs) (length xs)))

  pub any_take : (k : ℕ) → k ≤ length xs → list_any p (take k xs) ≡ any_below (λ j. p (get_or xs j d)) k
  unfolding any_below
  any_take zero h = refl
  any_take (suc k) h =
      let more = list_any_more p xs k d (omega arith) in
      rw add-one at more ∙ ap (λ b. b || p (get_or xs k d)) (any_take k (omega arith))

-- tests that agree below the bound give one answer
pub any_same : (test other : ℕ → Bool) (n : ℕ) → ((k : ℕ) → k < n → test k ≡ other k) → any_below test n ≡ any_below other n
unfolding any_below
any_same test other zero same = refl
any_same test other (suc n) same =
    let before = any_same test other n (λ k h. same k (omega arith)) in
    let here = same n (omega arith) in
    cc

pub first_same : (test other : ℕ → Bool) (n : ℕ) → ((k : ℕ) → k < n → test k ≡ other k) → first_below test n ≡ first_below other n
unfolding first_below
first_same test other zero same = refl
first_same test other (suc n) same =
    let before = first_same test other n (λ k h. same k (omega arith)) in
    let here = same n (omega arith) in
    cc

-- what `position` finds among the numbers below a bound
pub position_range : (test : ℕ → Bool) (n : ℕ) → position test (range_with_len 0 n) ≡ first_below test n
position_range test n =
    position_below test (range_with_len 0 n) 0
    ∙ ap (first_below (λ k. test (get_or (range_with_len 0 n) k 0))) (length-range_with_len 0 n)
    ∙ first_same _ test n (λ k h. let same : 0 + k ≡ k = omega arith in ap test (get_or-range_with_len 0 n k 0 h ∙ same))

pub any_range : (test : ℕ → Bool) (n : ℕ) → list_any test (range_with_len 0 n) ≡ any_below test n
any_range test n =
    let sized = length-range_with_len 0 n in
    ap (list_any test) (sym (take_all n (range_with_len 0 n) (omega arith)))
    ∙ any_take test (range_with_len 0 n) 0 n (omega arith)
    ∙ any_same _ test n (λ k h. let same : 0 + k ≡ k = omega arith in ap test (get_or-range_with_len 0 n k 0 h ∙ same))
