-- A test that fails at each number below a bound.
use Rattle.std.proofs.Common.{◌≡◌, ℕ, zero, suc, ◌<◌, Bool, false, None, refl, arith}
use Rattle.routing.specs.Search.{any_below, first_below}

pub none_below : (test : ℕ → Bool) (n : ℕ) → ((k : ℕ) → k < n → test k ≡ false) → any_below test n ≡ false
unfolding any_below
none_below test zero fails = refl
none_below test (suc n) fails =
    let before = none_below test n (λ k h. fails k (omega arith)) in let here = fails n (omega arith) in rw (before, here) refl

pub no_first : (test : ℕ → Bool) (n : ℕ) → ((k : ℕ) → k < n → test k ≡ false) → first_below test n ≡ None
unfolding first_below
no_first test zero fails = refl
no_first test (suc n) fails =
    let before = no_first test n (λ k h. fails k (omega arith)) in let here = fails n (omega arith) in rw (before, here) refl
