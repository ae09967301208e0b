-- Two ways to tell the step of a transmission that agree give one judgement.
use Rattle.std.proofs.Common.{◌≡◌, ℕ, zero, suc, ◌+◌, ◌-◌, ◌<◌, ◌≤◌, Bool, true, false, cond, ◌&&◌, eqb, leb, List, [], ◌∷◌, length, sum, sym, refl, ap, ⊎_elim, arith}
use Rattle.interference.specs.declared.transmission.Transmission.{Transmission}
use Rattle.plan.specs.Approval.{ClearAt, Spaced, conflicts_at, conflicts_with, is_early, step_fault, comes_late}
use Rattle.plan.specs.Drafts.{step_of, transmission_at}
use Rattle.plan.specs.Spacing.{gap_of, most_below}
use Rattle.routing.proofs.Searches.{any_same, first_same}
use Rattle.std.proofs.lemmas.List.Sums.{sum_by-cons}
use Rattle.std.proofs.lemmas.Bool.{cases_lt, le-ltb, lt-ltb}

module _ (conflict : Transmission → Transmission → Bool) (ts : List Transmission) (f g : ℕ → ℕ)
    (same : (k : ℕ) → k < length ts → f k ≡ g k) where
  conflicts_same : (k : ℕ) → k < length ts → conflicts_at conflict ts f k ≡ conflicts_at conflict ts g k
  conflicts_same k h =
      any_same (conflicts_with conflict ts f k) (conflicts_with conflict ts g k) k
      (λ j below.
      let hj : j < length ts = omega arith in
      let ej = same j hj in
      let ek = same k h in
      ap (λ b. b && conflict (transmission_at ts j) (transmission_at ts k)) (let e : eqb (f j) (f k) ≡ eqb (g j) (g k) = cc in e))

  early_same : (k : ℕ) → k < length ts → is_early ts f k ≡ is_early ts g k
  early_same k h =
      any_same (comes_late ts f k) (comes_late ts g k) (length ts)
      (λ j hj.
      let ej = same j hj in
      let ek = same k h in
      ap (λ b. eqb (transmission_at ts j).to (transmission_at ts k).from && b) (let e : leb (f k) (f j) ≡ leb (g k) (g j) = cc in e))

  pub fault_same : (n : ℕ) (parents slots : List ℕ) → step_fault n conflict parents slots ts f ≡ step_fault n conflict parents slots ts g
  fault_same n parents slots =
      let a = first_same (conflicts_at conflict ts f) (conflicts_at conflict ts g) (length ts) conflicts_same in
      let b = first_same (is_early ts f) (is_early ts g) (length ts) early_same in
      rw (a, b) refl

  clear_same : (d : ℕ) → ClearAt conflict ts f d → ClearAt conflict ts g d
  clear_same d clear k l hk hl far =
      let ek = same k hk in let el = same l hl in clear k l hk hl (omega arith)

module _ (conflict : Transmission → Transmission → Bool) (ts : List Transmission) (f g : ℕ → ℕ)
    (same : (k : ℕ) → k < length ts → f k ≡ g k) where
  pub spaced_same : (d : ℕ) → Spaced conflict ts f d → Spaced conflict ts g d
  spaced_same d s = record {
    positive = s.positive;
    clear = clear_same conflict ts f g same d s.clear;
    least = λ e he clear. s.least e he (clear_same conflict ts g f (λ k h. sym (same k h)) e clear);
  }

-- a place of the draft lies in one of its steps
pub step_below : (cs : List ℕ) (k : ℕ) → k < sum cs → step_of cs k < length cs
unfolding step_of
step_below [] k h = absurd (omega arith)
step_below (c ∷ cs) k h =
    let whole : sum (c ∷ cs) ≡ c + sum cs = sum_by-cons (λ x. x) c cs in
    ⊎_elim (λ (within : k < c). rw (lt-ltb k c within) (omega arith))
    (λ (past : c ≤ k). let rest = step_below cs (k - c) (omega arith) in rw (le-ltb k c past) (omega arith))
    (cases_lt k c)

most_le : (value : ℕ → ℕ) (n b : ℕ) → ((k : ℕ) → k < n → value k ≤ b) → most_below value n ≤ b
unfolding most_below
most_le value zero b each = omega arith
most_le value (suc n) b each =
    let before = most_le value n b (λ k h. each k (omega arith)) in
    let here = each n (omega arith) in
    omega arith

pub widest_le : (conflict : Transmission → Transmission → Bool) (ts : List Transmission) (step : ℕ → ℕ) (b : ℕ)
    → ((k : ℕ) → k < length ts → step k ≤ b)
    → most_below (λ l. most_below (gap_of conflict ts step l) (length ts)) (length ts) ≤ b
widest_le conflict ts step b each =
    most_le _ (length ts) b (λ l hl. most_le _ (length ts) b (λ k hk. gap-le l k (each l hl)))
  where
    small : (t : Bool) (x y : ℕ) → x ≤ b → cond t (x - y) 0 ≤ b
    small true x y h = omega arith
    small false x y h = omega arith

    gap-le : (l k : ℕ) → step l ≤ b → gap_of conflict ts step l k ≤ b
    gap-le l k h = small _ (step l) (step k) h
