-- The widest gap between the steps of two transmissions that conflict.
use Rattle.std.specs.Prelude.{ℕ, zero, suc, ◌+◌, ◌-◌, max, Bool, cond, ◌&&◌, List, length, nat_lt}
use Rattle.interference.specs.declared.transmission.Transmission.{Transmission}
use Rattle.plan.specs.Drafts.{transmission_at}

-- the greatest value at a number below n, 0 where there is none
unfoldable pub most_below : (ℕ → ℕ) → ℕ → ℕ
most_below value zero = 0
most_below value (suc n) = max (value n) (most_below value n)

-- by how many steps the transmission at l comes after the one at k, where they conflict
abbrev pub gap_of : (Transmission → Transmission → Bool) → List Transmission → (ℕ → ℕ) → ℕ → ℕ → ℕ
gap_of conflict ts step l k =
    cond (nat_lt (step k) (step l) && conflict (transmission_at ts k) (transmission_at ts l)) (step l - step k) 0

-- the minimum step distance, reckoned: one more than the widest gap
abbrev pub distance_of : (Transmission → Transmission → Bool) → List Transmission → (ℕ → ℕ) → ℕ
distance_of conflict ts step = most_below (λ l. most_below (gap_of conflict ts step l) (length ts)) (length ts) + 1
