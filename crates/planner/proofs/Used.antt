-- What the planner used of a lent list lies within it.
use Rattle.std.proofs.Common.{◌≡◌, ℕ, ◌≤◌, List, length, drop, sym, ap, ◌∙◌, arith}
use Rattle.interference.specs.declared.transmission.Transmission.{Transmission}
use Rattle.planner.specs.Planner.{overwritten, sizes}
use Rattle.std.proofs.lemmas.List.{length-append, length-map}

pub used_within : {X : Type 0} (xs ys zs : List X) (k : ℕ) → k ≡ length xs → zs ≡ overwritten xs ys → k ≤ length zs
used_within xs ys zs k is e =
    let long = ap length e ∙ length-append xs (drop (length xs) ys) in omega arith

pub steps_within : (steps : List (List Transmission)) (ys zs : List ℕ) (k : ℕ) → k ≡ length steps → zs ≡ overwritten (sizes steps) ys
    → k ≤ length zs
steps_within steps ys zs k is e = used_within (sizes steps) ys zs k (is ∙ sym (length-map steps length)) e
