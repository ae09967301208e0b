-- A draft: its transmissions, step after step, and how many of them each step has.
use Rattle.std.specs.Prelude.{ℕ, suc, ◌-◌, Bool, cond, not, ◌||◌, List, [], ◌∷◌, length, take, drop, sum, ◌==◌, nat_lt, slice_index, slice_index_or}
use Rattle.interference.specs.declared.transmission.Transmission.{Transmission}

-- the transmission at place k
abbrev pub transmission_at : List Transmission → ℕ → Transmission
transmission_at ts k = slice_index_or ts k (record { from = 0; to = 0 })

-- the step that has the transmission at place k
unfoldable pub step_of : List ℕ → ℕ → ℕ
step_of [] k = 0
step_of (c ∷ cs) k = cond (nat_lt k c) 0 (suc (step_of cs (k - c)))

-- the transmissions of step i: that part of the list
abbrev pub step_part : List Transmission → List ℕ → ℕ → List Transmission
step_part ts cs i = take (slice_index cs i) (drop (sum (take i cs)) ts)

-- the steps are not from 1 to 256, the transmissions are over 256, or the counts do not add up to them
abbrev pub bad_shape : List Transmission → List ℕ → Bool
bad_shape ts cs =
    nat_lt (length cs) 1 || (nat_lt 256 (length cs) || (nat_lt 256 (length ts) || not (sum cs == length ts)))
