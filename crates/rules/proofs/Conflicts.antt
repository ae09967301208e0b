-- Lists of which no two transmissions conflict, by places.
use Rattle.std.proofs.Common.{◌≡◌, ℕ, zero, suc, ◌<◌, Bool, false, List, [], ◌∷◌, length, get_or, sym, refl, subst, inl, inr, arith}
use Rattle.interference.specs.declared.transmission.Transmission.{Transmission}
use Rattle.rules.specs.Lists.{◌∈◌}
use Rattle.rules.specs.Promise.{Apart}

pub place_of : {X : Type 0} (xs : List X) (d x : X) → x ∈ xs → (i : ℕ) × (i < length xs) × (get_or xs i d ≡ x)
place_of [] d x m = elim m [ ]
place_of (y ∷ xs) d x (inl e) = (0, omega arith, sym e)
place_of (y ∷ xs) d x (inr m) = let o = place_of xs d x m in (suc o.0, let l = o.1 in omega arith, o.2)

pub at_place : {X : Type 0} (xs : List X) (d : X) (i : ℕ) → i < length xs → get_or xs i d ∈ xs
at_place [] d i l = absurd (omega arith)
at_place (x ∷ xs) d zero l = inl refl
at_place (x ∷ xs) d (suc i) l = inr (at_place xs d i (omega arith))

module _ (conflict : Transmission → Transmission → Bool) (d : Transmission) where
  pub apart_from : (xs : List Transmission) → ((i j : ℕ) → i < j → j < length xs → conflict (get_or xs i d) (get_or xs j d) ≡ false) → Apart conflict xs
  apart_from [] k = tt
  apart_from (x ∷ xs) k = (
    λ b m. let o = place_of xs d b m in subst (λ z. conflict x z ≡ false) o.2 (k 0 (suc o.0) (omega arith) (let l = o.1 in omega arith)),
    apart_from xs (λ i j l m. k (suc i) (suc j) (omega arith) (omega arith)),
  )

  pub apart_at : (xs : List Transmission) → Apart conflict xs → (i j : ℕ) → i < j → j < length xs → conflict (get_or xs i d) (get_or xs j d) ≡ false
  apart_at [] k i j l m = absurd (omega arith)
  apart_at (x ∷ xs) k i zero l m = absurd (omega arith)
  apart_at (x ∷ xs) k zero (suc j) l m = k.0 (get_or xs j d) (at_place xs d j (omega arith))
  apart_at (x ∷ xs) k (suc i) (suc j) l m = apart_at xs k.1 i j (omega arith) (omega arith)
