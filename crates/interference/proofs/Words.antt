-- What shifts and masks of a word say of its bits.
-- A word shifted to the right by n is 0 just where the word is below 2 ^ n.
use Rattle.std.proofs.Common.{◌≡◌, ℕ, ◌+◌, ◌-◌, ◌*◌, ◌/◌, ◌%◌, ◌^◌, ◌<◌, max, Bool, true, false, cond, not, ◌||◌, eqb, leb, sym, refl, ap, ◌∙◌, ⊎_elim, div-lt_iff_lt-mul, one-mul, arith}
use native.Mathlib.Nat.{div-eq_of_lt}
use lib.Bits.{bit_or, or_step}
use Rattle.interference.specs.Words.{bit_of, with_bit}
use Rattle.std.proofs.lemmas.Nat.{or_shr, pow-add, pow_below, pow_pos, shl-shr}
use Rattle.std.proofs.lemmas.Bool.{cases_order, eq-eqb, ne_eqb}
use Rattle.std.proofs.lemmas.Bool.Decides.{nat_tests}

pub shr_none : (w n : ℕ) → w / 2 ^ n ≡ 0 → w < 2 ^ n
shr_none w n e =
    let below : w / 2 ^ n < 1 = omega arith in
    omega (arith, (div-lt_iff_lt-mul {k = 2 ^ n} {x = w} {y = 1} (pow_pos n)).0 below)

pub reaches_is : (w n : ℕ) → not (eqb (w / 2 ^ n) 0) ≡ leb (2 ^ n) w
reaches_is w n =
    let low : w / 2 ^ n ≡ 0 → w < 2 ^ n = shr_none w n in
    let none : w < 2 ^ n → w / 2 ^ n ≡ 0 = λ h. div-eq_of_lt h in
    grind (arith, nat_tests)

-- bit j of 2 ^ k, as a number
power_bit : (k j : ℕ) → 2 ^ k / 2 ^ j % 2 ≡ cond (eqb j k) 1 0
power_bit k j = ⊎_elim same (⊎_elim below above) (cases_order j k)
  where
    same : j ≡ k → 2 ^ k / 2 ^ j % 2 ≡ cond (eqb j k) 1 0
    same e = rw (e, eq-eqb k k refl) (ap (λ x. x % 2) (ap (λ x. x / 2 ^ k) (sym (one-mul (2 ^ k))) ∙ shl-shr 1 k))

    below : j < k → 2 ^ k / 2 ^ j % 2 ≡ cond (eqb j k) 1 0
    below h =
        let parts : k ≡ 1 + (k - j - 1) + j = omega arith in
        let split : 2 ^ k ≡ 2 ^ (1 + (k - j - 1)) * 2 ^ j = ap (λ m. 2 ^ m) parts ∙ pow-add 2 (1 + (k - j - 1)) j in
        let even : 2 ^ (1 + (k - j - 1)) ≡ 2 * 2 ^ (k - j - 1) = pow-add 2 1 (k - j - 1) in
        rw (ne_eqb j k (λ z. omega arith), split, shl-shr, even) (omega arith)

    above : k < j → 2 ^ k / 2 ^ j % 2 ≡ cond (eqb j k) 1 0
    above h = rw (ne_eqb j k (λ z. omega arith), div-eq_of_lt (pow_below k j h)) refl

-- bit j of two words joined, as a number
or_bit : (v w j : ℕ) → bit_or v w / 2 ^ j % 2 ≡ max (v / 2 ^ j % 2) (w / 2 ^ j % 2)
or_bit v w j =
    let step = or_step (v / 2 ^ j) (w / 2 ^ j) in rw or_shr (omega arith)

max_bit : (x : ℕ) (y : Bool) → x < 2 → eqb (max x (cond y 1 0)) 1 ≡ (eqb x 1 || y)
max_bit x true h = let e : max x 1 ≡ 1 = omega arith in rw e (grind (arith, nat_tests))
max_bit x false h = let e : max x 0 ≡ x = omega arith in rw e (grind (arith, nat_tests))

pub bit_set : (w k j : ℕ) → bit_of (with_bit w k) j ≡ (bit_of w j || eqb j k)
bit_set w k j =
    ap (λ x. eqb x 1) (or_bit w (2 ^ k) j ∙ ap (max (w / 2 ^ j % 2)) (power_bit k j))
    ∙ max_bit (w / 2 ^ j % 2) (eqb j k) (omega arith)
