-- The first fault of the steps of a draft, from what the searches find.
use Rattle.std.proofs.Common.{◌≡◌, ℕ, Bool, List, length, Some, None, refl, ◌∙◌}
use Rattle.interference.specs.declared.transmission.Transmission.{Transmission}
use Rattle.plan.specs.Approval.{comes_late, conflicts_at, conflicts_with, is_early, is_stray, is_uneven, step_fault}
use Rattle.plan.specs.Drafts.{transmission_at}
use Rattle.plan.specs.declared.fault.ApprovalFault.TheVariants.{NotToParent, Conflicting, SlotCount, OutOfOrder}
use Rattle.routing.proofs.Searches.{any_range, first_same, position_below, position_range}
use Rattle.routing.specs.Search.{first_below}
use Rattle.std.specs.List.{list_any, position, range_with_len}

module _ (n : ℕ) (conflict : Transmission → Transmission → Bool) (parents slots : List ℕ) (ts : List Transmission) (step : ℕ → ℕ) where
  pub stray_fault : (k : ℕ) → Some k ≡ first_below (λ j. is_stray n parents (transmission_at ts j)) (length ts)
      → Some (NotToParent k) ≡ step_fault n conflict parents slots ts step
  stray_fault k found = rw (← found) refl

  module _ (linked : None ≡ first_below (λ j. is_stray n parents (transmission_at ts j)) (length ts)) where
    pub conflict_fault : (k : ℕ) → Some k ≡ first_below (conflicts_at conflict ts step) (length ts)
        → Some (Conflicting k) ≡ step_fault n conflict parents slots ts step
    conflict_fault k found = rw (← linked, ← found) refl

    module _ (apart : None ≡ first_below (conflicts_at conflict ts step) (length ts)) where
      pub slot_fault : (v : ℕ) → Some v ≡ first_below (is_uneven slots ts) n
          → Some (SlotCount v) ≡ step_fault n conflict parents slots ts step
      slot_fault v found = rw (← linked, ← apart, ← found) refl

      module _ (even : None ≡ first_below (is_uneven slots ts) n) where
        pub order_fault : (k : ℕ) → Some k ≡ first_below (is_early ts step) (length ts)
            → Some (OutOfOrder k) ≡ step_fault n conflict parents slots ts step
        order_fault k found = rw (← linked, ← apart, ← even, ← found) refl

        pub step_sound : None ≡ first_below (is_early ts step) (length ts) → None ≡ step_fault n conflict parents slots ts step
        step_sound found = rw (← linked, ← apart, ← even, ← found) refl

-- the searches of the code, by place
module _ (conflict : Transmission → Transmission → Bool) (ts : List Transmission) (step : ℕ → ℕ) where
  pub conflict_found : position (λ k. list_any (conflicts_with conflict ts step k) (range_with_len 0 k)) (range_with_len 0 (length ts))
      ≡ first_below (conflicts_at conflict ts step) (length ts)
  conflict_found = position_range _ (length ts) ∙ first_same _ _ (length ts) (λ k h. any_range (conflicts_with conflict ts step k) k)

  pub early_found : position (λ k. list_any (comes_late ts step k) (range_with_len 0 (length ts))) (range_with_len 0 (length ts))
      ≡ first_below (is_early ts step) (length ts)
  early_found = position_range _ (length ts) ∙ first_same _ _ (length ts) (λ k h. any_range (comes_late ts step k) (length ts))

pub stray_found : (n : ℕ) (parents : List ℕ) (ts : List Transmission)
    → position (is_stray n parents) ts ≡ first_below (λ k. is_stray n parents (transmission_at ts k)) (length ts)
stray_found n parents ts = position_below (is_stray n parents) ts (record { from = 0; to = 0 })

pub uneven_found : (slots : List ℕ) (ts : List Transmission) (n : ℕ)
    → position (is_uneven slots ts) (range_with_len 0 n) ≡ first_below (is_uneven slots ts) n
uneven_found slots ts n = position_range (is_uneven slots ts) n
