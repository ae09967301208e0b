-- The running rounds over a slot.
use Rattle.std.proofs.Common.{◌≡◌, ℕ, ◌+◌, ◌-◌, ◌<◌, ◌≤◌, Bool, true, false, cond, List, [], ◌∷◌, ◌++◌, filter, refl, ap, ◌∙◌, inl, inr, arith}
use Rattle.std.proofs.lemmas.Bool.{ltb-true}
use Rattle.rules.specs.declared.round.Round.{Round}
use Rattle.rules.specs.Lists.{◌∈◌}
use Rattle.rules.specs.Rules.{runs_in}
use Rattle.rules.proofs.Sums.{from_end, from_keep, keep_passes}
use Rattle.rules.proofs.Invariant.{Spaced, Rounds}

-- the rounds that run in slot s
pub record Running (L d s n : ℕ) (rs : List Round) : Type 0 where
  pub begun : (r : Round) → r ∈ rs → r.start ≤ s
  pub live : (r : Round) → r ∈ rs → s < r.start + L
  pub ready : (r : Round) → r ∈ rs → r.start + d ≤ n
  pub spaced : Spaced d rs

pub running_same : (L d s n : ℕ) (rs : List Round) → Rounds L d s n rs → Running L d s n rs
running_same L d s n rs k =
    record { begun = λ r m. let p = k.past r m in omega arith; live = k.live; ready = k.ready; spaced = k.spaced }

spaced_end : (d s : ℕ) (rs : List Round) (x : Round) → x.start ≡ s → ((r : Round) → r ∈ rs → r.start + d ≤ s) → Spaced d rs → Spaced d (rs ++ (x ∷ []))
spaced_end d s [] x e k old = (λ r m. elim m [ ], tt)
spaced_end d s (r ∷ rs) x e k old = (
  λ j m. elim (from_end rs x j m) [
    | inl i ↦ old.0 j i
    | inr p ↦ let a = k r (inl refl) in let b : j.start ≡ x.start = ap (λ (z : Round). z.start) p in omega arith
  ],
  spaced_end d s rs x e (λ j m. k j (inr m)) old.1,
)

-- a round starts in slot s
pub running_started : (L d s n : ℕ) (rs : List Round) (x : Round) → x.start ≡ s → 1 ≤ L → 1 ≤ d → n ≤ s → Rounds L d s n rs → Running L d s (s + d) (rs ++ (x ∷ []))
running_started L d s n rs x e long spread free k =
    record {
      begun = λ r m. elim (from_end rs x r m) [ inl i ↦ let p = k.past r i in omega arith | inr p ↦ let b = at r p in omega arith ];
      live = λ r m. elim (from_end rs x r m) [ inl i ↦ k.live r i | inr p ↦ let b = at r p in omega arith ];
      ready = λ r m. elim (from_end rs x r m) [ inl i ↦ let p = k.ready r i in omega arith | inr p ↦ let b = at r p in omega arith ];
      spaced = spaced_end d s rs x e (λ r m. let p = k.ready r m in omega arith) k.spaced;
    }
  where
    at : (r : Round) → r ≡ x → r.start ≡ s
    at r p = ap (λ (z : Round). z.start) p ∙ e

spaced_keep : (d : ℕ) (p : Round → Bool) (rs : List Round) → Spaced d rs → Spaced d (filter p rs)
spaced_keep d p [] k = tt
spaced_keep d p (r ∷ rs) k = go (spaced_keep d p rs k.1) (p r)
  where
    go : Spaced d (filter p rs) → (b : Bool) → Spaced d (cond b (r ∷ filter p rs) (filter p rs))
    go rest true = (λ j m. k.0 j (from_keep p rs j m), rest)
    go rest false = rest

-- the slot is over
pub running_over : (L d s n : ℕ) (rs : List Round) → Running L d s n rs → Rounds L d (s + 1) n (filter (runs_in L (s + 1)) rs)
running_over L d s n rs k =
    record {
      past = λ r m. let p = k.begun r (from_keep (runs_in L (s + 1)) rs r m) in omega arith;
      live = λ r m.
          let p = k.begun r (from_keep (runs_in L (s + 1)) rs r m) in
          let q = ltb-true (s + 1 - r.start) L (keep_passes (runs_in L (s + 1)) rs r m) in
          omega arith;
      ready = λ r m. k.ready r (from_keep (runs_in L (s + 1)) rs r m);
      spaced = spaced_keep d (runs_in L (s + 1)) rs k.spaced;
    }
