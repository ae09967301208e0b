use Rattle.std.specs.Prelude.{◌≡◌, ℕ, ◌<◌, ◌≤◌, Bool, true, false, not, ◌&&◌, ◌⊎◌, List, length, ℤ, pos, negsuc, ◌==◌, int_le, slice_index_or}
use Rattle.interference.specs.declared.fault.ModelFault.{ModelFault}
use Rattle.interference.specs.declared.fault.ModelFault.TheVariants.{NodeCount, EdgeOutside, Side, Coordinate}
use Rattle.interference.specs.declared.transmission.Transmission.{Transmission}
use Rattle.interference.specs.Transmissions.{ruled}
use Rattle.interference.specs.declared.position.Position.{Position}
use Rattle.std.specs.Int.{int_div_euclid, int_rem_euclid}

abbrev pub eq_z : ℤ → ℤ → Bool
eq_z (pos a) (pos b) = a == b
eq_z (pos a) (negsuc b) = false
eq_z (negsuc a) (pos b) = false
eq_z (negsuc a) (negsuc b) = a == b

-- the cell of a place on a line of cells with this side, rounded down
abbrev pub cell : ℕ → ℤ → ℤ
cell side z = int_div_euclid z (pos side)

-- both even or both odd
abbrev pub alike : ℤ → ℤ → Bool
alike a b = eq_z (int_rem_euclid a (pos 2)) (int_rem_euclid b (pos 2))

abbrev pub cell_of : ℕ → Position → Position
cell_of side s = record { x = cell side s.x; y = cell side s.y }

abbrev pub same : Position → Position → Bool
same p q = eq_z p.x q.x && eq_z p.y q.y

-- the cells differ, but agree in x and in y modulo 2
abbrev pub clear : Position → Position → Bool
clear p q = not (same p q) && (alike p.x q.x && alike p.y q.y)

-- both coordinates are within a million centimetres of 0
abbrev pub near : ℤ → Bool
near z = int_le (negsuc 999999) z && int_le z (pos 1000000)

abbrev pub inside : Position → Bool
inside s = near s.x && near s.y

-- the place of node k
abbrev pub position_at : List Position → ℕ → Position
position_at ss k = slice_index_or ss k (record { x = pos 0; y = pos 0 })

-- transmissions apart conflict unless the cells of their senders are clear of each other
abbrev pub grid_conflict : ℕ → ℕ → List Position → Transmission → Transmission → Bool
grid_conflict n side ss a b =
    ruled n a b (not (clear (cell_of side (position_at ss a.from)) (cell_of side (position_at ss b.from))))

abbrev pub GoodPositions : List Position → Type 0
GoodPositions ss = (1 ≤ length ss) × (length ss ≤ 64)

abbrev pub GoodSide : ℕ → Type 0
GoodSide side = (1 ≤ side) × (side ≤ 100000)

abbrev pub InsideTo : List Position → ℕ → Type 0
InsideTo ss k = (j : ℕ) → j < k → inside (position_at ss j) ≡ true

-- the one refusal of this grid
abbrev pub GridRefused : ℕ → List Position → ModelFault → Type 0
GridRefused side ss NodeCount = (length ss < 1) ⊎ (64 < length ss)
GridRefused side ss (EdgeOutside k) = ⊥
GridRefused side ss Side = GoodPositions ss × ((side < 1) ⊎ (100000 < side))
GridRefused side ss (Coordinate k) =
    GoodPositions ss × GoodSide side × (k < length ss) × (inside (position_at ss k) ≡ false) × InsideTo ss k

-- the grid is good, and the model means just that grid
pub record GridMeant (side : ℕ) (ss : List Position) (nodes : ℕ) (conflict : Transmission → Transmission → Bool) : Type 0 where
  pub counted : GoodPositions ss
  pub sided : GoodSide side
  pub within : InsideTo ss (length ss)
  pub count : nodes ≡ length ss
  pub pairs : (a b : Transmission) → conflict a b ≡ grid_conflict (length ss) side ss a b
