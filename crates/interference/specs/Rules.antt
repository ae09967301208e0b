-- What every model's rule keeps.
use Rattle.std.specs.Prelude.{◌≡◌, ℕ, ◌<◌, Bool, true, false}
use Rattle.std.proofs.Common.{arith}
use Rattle.interference.specs.declared.transmission.Transmission.{Transmission}
use Rattle.interference.specs.Transmissions.{proper, ruled, share}
use Rattle.std.proofs.lemmas.Bool.Decides.{nat_tests}

-- it is symmetric where the model's own test is
pub ruled_swap : (n : ℕ) (a b : Transmission) (f g : Bool) → f ≡ g → ruled n a b f ≡ ruled n b a g
ruled_swap n a b f g e = grind (arith, nat_tests)

-- the model's own test counts only where both senders are nodes
pub ruled_same : (n : ℕ) (a b : Transmission) (f g : Bool) → (a.from < n → b.from < n → f ≡ g) → ruled n a b f ≡ ruled n a b g
ruled_same n a b f g same = grind (arith, nat_tests)

pub ruled_shared : (n : ℕ) (a b : Transmission) (f : Bool) → share a b ≡ true → ruled n a b f ≡ true
ruled_shared n a b f e = grind (arith, nat_tests)

pub ruled_improper : (n : ℕ) (a b : Transmission) (f : Bool) → proper n a ≡ false → ruled n a b f ≡ true
ruled_improper n a b f e = grind (arith, nat_tests)
