-- Places that a step is written at, and the step of a place.
use Rattle.std.proofs.Common.{◌≡◌, ℕ, zero, suc, ◌+◌, ◌-◌, ◌<◌, ◌≤◌, cond, ◌&&◌, ltb, leb, List, [], ◌∷◌, length, get_or, take, sum, sym, refl, ap, ◌∙◌, ⊎_elim, arith}
use Rattle.plan.specs.Drafts.{step_of}
use Rattle.std.proofs.lemmas.List.Sums.{sum_by-cons}
use Rattle.std.proofs.lemmas.Bool.{cases_lt, le-ltb, lt-ltb}
use Rattle.std.proofs.lemmas.Bool.Decides.{nat_tests}

-- v stands at the places from `from` up to `to`, and what stood before at the others
abbrev pub Marked : List ℕ → List ℕ → ℕ → ℕ → ℕ → Type 0
Marked before after from to v = (k : ℕ) → get_or after k 0 ≡ cond (leb from k && ltb k to) v (get_or before k 0)

-- place m of step i
pub step_place : (cs : List ℕ) (i m k : ℕ) → m < get_or cs i 0 → k ≡ sum (take i cs) + m → step_of cs k ≡ i
unfolding step_of
step_place [] i m k h e = absurd (omega arith)
step_place (c ∷ cs) zero m k h e = let within : k < c = omega arith in rw (lt-ltb k c within) refl
step_place (c ∷ cs) (suc i) m k h e =
    let whole : sum (take (suc i) (c ∷ cs)) ≡ c + sum (take i cs) = sum_by-cons (λ x. x) c (take i cs) in
    let past : c ≤ k = omega arith in
    rw (le-ltb k c past) (ap suc (step_place cs i m (k - c) h (omega arith)))

-- the table says the step of each place up to the end of the steps so far
abbrev pub Stepped : List ℕ → List ℕ → ℕ → Type 0
Stepped cs table at = (k : ℕ) → k < at → get_or table k 0 ≡ step_of cs k

pub stepped_more : (cs table after : List ℕ) (i at end : ℕ) → i < length cs → at ≡ sum (take i cs) → end ≡ at + get_or cs i 0
    → Stepped cs table at → Marked table after at end i → Stepped cs after end
stepped_more cs table after i at end h start e was marked k below =
    ⊎_elim
    (λ (old : k < at). marked k ∙ kept (get_or table k 0) old ∙ was k old)
    (λ (new : at ≤ k). marked k ∙ given (get_or table k 0) new ∙ sym (step_place cs i (k - at) k (omega arith) (omega arith)))
    (cases_lt k at)
  where
    kept : (x : ℕ) → k < at → cond (leb at k && ltb k end) i x ≡ x
    kept x old = grind (arith, nat_tests)

    given : (x : ℕ) → at ≤ k → cond (leb at k && ltb k end) i x ≡ i
    given x new = grind (arith, nat_tests)
