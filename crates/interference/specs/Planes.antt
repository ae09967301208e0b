-- Cells that are clear of each other, and what a grid's model rests on.
use Rattle.std.specs.Prelude.{◌≡◌, ℕ, ◌<◌, not, List, ℤ, pos, negsuc, ◌==◌, refl}
use Rattle.std.proofs.Common.{ap, arith}
use Rattle.interference.specs.declared.transmission.Transmission.{Transmission}
use Rattle.interference.specs.declared.position.Position.{Position}
use Rattle.interference.specs.Grid.{cell_of, clear, eq_z, grid_conflict, position_at}
use Rattle.interference.specs.Rules.{ruled_same, ruled_swap}
use Rattle.std.proofs.lemmas.Bool.Decides.{nat_tests}
use Rattle.std.specs.Int.{int_rem_euclid}

eqb_swap : (a b : ℕ) → (a == b) ≡ (b == a)
eqb_swap a b = grind (arith, nat_tests)

eq_z_swap : (a b : ℤ) → eq_z a b ≡ eq_z b a
eq_z_swap (pos a) (pos b) = eqb_swap a b
eq_z_swap (pos a) (negsuc b) = refl
eq_z_swap (negsuc a) (pos b) = refl
eq_z_swap (negsuc a) (negsuc b) = eqb_swap a b

pub clear_swap : (p q : Position) → clear p q ≡ clear q p
clear_swap p q =
    let sx = eq_z_swap p.x q.x in
    let sy = eq_z_swap p.y q.y in
    let ax = eq_z_swap (int_rem_euclid p.x (pos 2)) (int_rem_euclid q.x (pos 2)) in
    let ay = eq_z_swap (int_rem_euclid p.y (pos 2)) (int_rem_euclid q.y (pos 2)) in
    cc

pub grid_swap : (n side : ℕ) (ss : List Position) (a b : Transmission) → grid_conflict n side ss a b ≡ grid_conflict n side ss b a
grid_swap n side ss a b =
    ruled_swap n a b _ _
    (ap not (clear_swap (cell_of side (position_at ss a.from)) (cell_of side (position_at ss b.from))))

pub same_positions : (n side : ℕ) (own ss : List Position) → ((j : ℕ) → j < n → position_at own j ≡ position_at ss j)
    → (a b : Transmission) → grid_conflict n side own a b ≡ grid_conflict n side ss a b
same_positions n side own ss same a b =
    ruled_same n a b _ _ (λ ha hb. let ea = same a.from ha in let eb = same b.from hb in cc)
