-- What went into `map_err`, by what came out.
use Rattle.std.proofs.Common.{◌≡◌, Ok, Err, Result, refl}
use Rattle.std.specs.Result.{MatchResult}

pub failed : {T E D : Type 0} (x : Result T E) (d : D) (Q : E → Type 0)
    → MatchResult x (λ (t : T). ◌≡◌ {A = Result T D} (Err d) (Ok t)) Q → (e : E) × (x ≡ Err e) × Q e
failed (Ok t) d Q h = let z : ⊥ = cc in absurd z
failed (Err e) d Q h = (e, refl, h)

pub passed : {T E : Type 0} (D : Type 0) (x : Result T E) (v : T)
    → MatchResult x (λ (t : T). ◌≡◌ {A = Result T D} (Ok v) (Ok t)) (λ e. ⊥) → x ≡ Ok v
passed D (Ok t) v h = let e : t ≡ v = cc in cc
passed D (Err e) v h = absurd h
