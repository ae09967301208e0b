-- The lines of the slots, and the rounds that run.
use Rattle.std.proofs.Common.{◌≡◌, ℕ, ◌+◌, ◌-◌, ◌<◌, ◌≤◌, Bool, true, false, cond, ◌&&◌, eqb, ltb, leb, ◌⊎◌, List, [], ◌∷◌, ◌++◌, map, filter, sym, refl, ap, ◌∙◌, subst, inl, inr, append-nil, arith}
use Rattle.std.proofs.lemmas.Bool.{cases_eq, eq-eqb, ne_eqb, ltb-false}
use Rattle.std.proofs.lemmas.Bool.Decides.{nat_tests}
use Rattle.interference.specs.declared.transmission.Transmission.{Transmission}
use Rattle.rules.specs.declared.round.Line.{Line}
use Rattle.rules.specs.declared.round.Round.{Round}
use Rattle.rules.specs.Lists.{◌∈◌, count}
use Rattle.rules.specs.Rules.{View, line_at, runs_in}
use Rattle.rules.specs.Promise.{is_line, times, Apart, transmissions_of, Fit}
use Rattle.rules.proofs.Sums.{from_end, from_append, count-append, count_same, count_map}
use Rattle.rules.proofs.Invariant.{Spaced}
use Rattle.rules.proofs.Running.{Running}

-- Counts of rounds

abbrev pub is_round : ℕ → ℕ → Round → Bool
is_round n t r = eqb r.number n && eqb r.start t

abbrev pub started_at : ℕ → List View → ℕ
started_at t vs = count (λ (v : View). eqb v.slot t) vs

count_kept : {X : Type 0} (p g : X → Bool) (xs : List X) → count p (filter g xs) ≡ count (λ x. g x && p x) xs
count_kept p g [] = refl
count_kept p g (x ∷ xs) = go (g x) (count_kept p g xs)
  where
    go : (b : Bool) → count p (filter g xs) ≡ count (λ x. g x && p x) xs →
        count p (cond b (x ∷ filter g xs) (filter g xs)) ≡ cond (b && p x) 1 0 + count (λ x. g x && p x) xs
    go true e = ap (λ z. cond (p x) 1 0 + z) e
    go false e = e ∙ omega arith

count_false : {X : Type 0} (xs : List X) → count (λ (x : X). false) xs ≡ 0
count_false [] = refl
count_false (x ∷ xs) = let r = count_false xs in omega arith

count_and : {X : Type 0} (b : Bool) (p : X → Bool) (xs : List X) → count (λ x. b && p x) xs ≡ cond b (count p xs) 0
count_and true p xs = refl
count_and false p xs = count_false xs

test_kept : (L s n t : ℕ) (r : Round) → r.start ≤ s → (runs_in L (s + 1) r && is_round n t r) ≡ (ltb (s + 1) (t + L) && is_round n t r)
test_kept L s n t r l = grind (arith, nat_tests)

test_line : (s n i : ℕ) (r : Round) → r.start ≤ s → is_line n i (line_at s r) ≡ (leb i s && is_round n (s - i) r)
test_line s n i r l = grind (arith, nat_tests)

-- Conflicts

module _ (conflict : Transmission → Transmission → Bool) where
  apart-append : (xs ys : List Transmission) → Apart conflict xs → Apart conflict ys →
      ((a b : Transmission) → a ∈ xs → b ∈ ys → conflict a b ≡ false) → Apart conflict (xs ++ ys)
  apart-append [] ys k j free = j
  apart-append (x ∷ xs) ys k j free = (
    λ b m. elim (from_append xs ys b m) [ inl i ↦ k.0 b i | inr i ↦ free x b (inl refl) i ],
    apart-append xs ys k.1 j (λ a b m i. free a b (inr m) i),
  )

-- a transmission of a slot is one of a step of a round that runs
from_transmissions : (part : ℕ → List Transmission) (s : ℕ) (rs : List Round) (b : Transmission) → b ∈ transmissions_of part (map (line_at s) rs) →
    (r : Round) × (r ∈ rs) × (b ∈ part (s - r.start))
from_transmissions part s [] b m = elim m [ ]
from_transmissions part s (r ∷ rs) b m = go (from_transmissions part s rs b) (from_append (part (s - r.start)) (transmissions_of part (map (line_at s) rs)) b m)
  where
    go : (b ∈ transmissions_of part (map (line_at s) rs) → (k : Round) × (k ∈ rs) × (b ∈ part (s - k.start))) →
        (b ∈ part (s - r.start)) ⊎ (b ∈ transmissions_of part (map (line_at s) rs)) → (k : Round) × ((k ≡ r) ⊎ (k ∈ rs)) × (b ∈ part (s - k.start))
    go old (inl i) = (r, inl refl, i)
    go old (inr i) = let o = old i in (o.0, inr o.1, o.2)

transmissions_apart : (L Δ : ℕ) (part : ℕ → List Transmission) (conflict : Transmission → Transmission → Bool) → Fit L Δ part conflict → (s : ℕ) (rs : List Round) →
    ((r : Round) → r ∈ rs → r.start ≤ s) → ((r : Round) → r ∈ rs → s < r.start + L) → Spaced Δ rs → Apart conflict (transmissions_of part (map (line_at s) rs))
transmissions_apart L Δ part conflict fit s [] begun live spaced = tt
transmissions_apart L Δ part conflict fit s (r ∷ rs) begun live spaced =
    let b = begun r (inl refl) in
    let l = live r (inl refl) in
    apart-append conflict (part (s - r.start)) (transmissions_of part (map (line_at s) rs)) (fit.alone (s - r.start) (omega arith))
    (transmissions_apart L Δ part conflict fit s rs (λ k m. begun k (inr m)) (λ k m. live k (inr m)) spaced.1)
    (λ x y m i. free x y m (from_transmissions part s rs y i))
  where
    free : (x y : Transmission) → x ∈ part (s - r.start) → (k : Round) × (k ∈ rs) × (y ∈ part (s - k.start)) → conflict x y ≡ false
    free x y m (k, i, j) =
        let a = spaced.0 k i in
        let b = begun k (inr i) in
        let c = live r (inl refl) in
        let d = begun r (inl refl) in
        fit.symmetric x y ∙ fit.distant (s - k.start) (s - r.start) (omega arith) (omega arith) y x j m

-- What the slots so far say, before slot s, in which the rounds rs are yet to run

pub record Lines (L Δ : ℕ) (part : ℕ → List Transmission) (conflict : Transmission → Transmission → Bool)
    (lines : ℕ → List Line) (starts : ℕ → List View) (slots : List ℕ) (s : ℕ) (rs : List Round) : Type 0 where
  pub ran : (u : ℕ) → u ∈ slots → u < s
  pub fresh : (u : ℕ) → s ≤ u → lines u ≡ []
  pub unstarted : (n t : ℕ) → s ≤ t → started_at t (starts n) ≡ 0
  pub running : (n t : ℕ) → count (is_round n t) rs ≡ cond (ltb s (t + L)) (started_at t (starts n)) 0
  pub steps : (u n i : ℕ) → u ∈ slots → times n i (lines u) ≡ cond (ltb i L && leb i u) (started_at (u - i) (starts n)) 0
  pub once : (n u : ℕ) → started_at u (starts n) ≤ 1
  pub apart : (u : ℕ) → Apart conflict (transmissions_of part (lines u))

-- One slot more: the view v found it, the rounds rs' run in it, and a round of n starts where `on n`
module _ (L Δ : ℕ) (part : ℕ → List Transmission) (conflict : Transmission → Transmission → Bool) (fit : Fit L Δ part conflict)
    (lines : ℕ → List Line) (starts : ℕ → List View) (slots : List ℕ) (v : View) (rs : List Round)
    (old : Lines L Δ part conflict lines starts slots v.slot rs) (long : 1 ≤ L)
    (rs' : List Round) (free : ℕ) (now : Running L Δ v.slot free rs') (on : ℕ → Bool)
    (new : (n t : ℕ) → count (is_round n t) rs' ≡ count (is_round n t) rs + started_at t (cond (on n) (v ∷ []) [])) where
  starts' : ℕ → List View
  starts' n = starts n ++ cond (on n) (v ∷ []) []

  lines' : ℕ → List Line
  lines' u = lines u ++ cond (eqb v.slot u) (map (line_at v.slot) rs') []

  started_more : (n t : ℕ) → started_at t (starts n ++ cond (on n) (v ∷ []) []) ≡ started_at t (starts n) + started_at t (cond (on n) (v ∷ []) [])
  started_more n t = count-append (λ (w : View). eqb w.slot t) (starts n) (cond (on n) (v ∷ []) [])

  added_other : (n t : ℕ) → (v.slot ≡ t → ⊥) → started_at t (cond (on n) (v ∷ []) []) ≡ 0
  added_other n t ne = go (on n)
    where
      go : (b : Bool) → started_at t (cond b (v ∷ []) []) ≡ 0
      go true = rw (ne_eqb v.slot t ne)
      go false = refl

  added_small : (n t : ℕ) → started_at t (cond (on n) (v ∷ []) []) ≤ 1
  added_small n t = go (on n)
    where
      bit : (c : Bool) → cond c 1 0 + 0 ≤ 1
      bit true = omega arith
      bit false = omega arith

      go : (b : Bool) → started_at t (cond b (v ∷ []) []) ≤ 1
      go true = bit (eqb v.slot t)
      go false = omega arith

  running_now : (n t : ℕ) → count (is_round n t) rs' ≡ cond (ltb v.slot (t + L)) (started_at t (starts n ++ cond (on n) (v ∷ []) [])) 0
  running_now n t =
      new n t ∙ ap (λ z. z + started_at t (cond (on n) (v ∷ []) [])) (old.running n t) ∙
      go (ltb v.slot (t + L)) refl ∙ ap (λ z. cond (ltb v.slot (t + L)) z 0) (sym (started_more n t))
    where
      go : (b : Bool) → ltb v.slot (t + L) ≡ b →
          cond b (started_at t (starts n)) 0 + started_at t (cond (on n) (v ∷ []) []) ≡ cond b (started_at t (starts n) + started_at t (cond (on n) (v ∷ []) [])) 0
      go true e = refl
      go false e =
          let l = ltb-false v.slot (t + L) e in
          let z = added_other n t (λ p. omega arith) in
          omega arith

  running_over : (n t : ℕ) → count (is_round n t) (filter (runs_in L (v.slot + 1)) rs') ≡
      cond (ltb (v.slot + 1) (t + L)) (started_at t (starts n ++ cond (on n) (v ∷ []) [])) 0
  running_over n t =
      count_kept (is_round n t) (runs_in L (v.slot + 1)) rs' ∙
      count_same _ (λ r. ltb (v.slot + 1) (t + L) && is_round n t r) rs' (λ r m. test_kept L v.slot n t r (now.begun r m)) ∙
      count_and (ltb (v.slot + 1) (t + L)) (is_round n t) rs' ∙
      ap (λ z. cond (ltb (v.slot + 1) (t + L)) z 0) (running_now n t) ∙
      go (started_at t (starts n ++ cond (on n) (v ∷ []) []))
    where
      go : (x : ℕ) → cond (ltb (v.slot + 1) (t + L)) (cond (ltb v.slot (t + L)) x 0) 0 ≡ cond (ltb (v.slot + 1) (t + L)) x 0
      go x = grind (arith, nat_tests)

  steps_now : (n i : ℕ) → times n i (map (line_at v.slot) rs') ≡
      cond (ltb i L && leb i v.slot) (started_at (v.slot - i) (starts n ++ cond (on n) (v ∷ []) [])) 0
  steps_now n i =
      count_map (is_line n i) (line_at v.slot) rs' ∙
      count_same _ (λ r. leb i v.slot && is_round n (v.slot - i) r) rs' (λ r m. test_line v.slot n i r (now.begun r m)) ∙
      count_and (leb i v.slot) (is_round n (v.slot - i)) rs' ∙
      ap (λ z. cond (leb i v.slot) z 0) (running_now n (v.slot - i)) ∙
      go (started_at (v.slot - i) (starts n ++ cond (on n) (v ∷ []) []))
    where
      go : (x : ℕ) → cond (leb i v.slot) (cond (ltb v.slot (v.slot - i + L)) x 0) 0 ≡ cond (ltb i L && leb i v.slot) x 0
      go x = grind (arith, nat_tests)

  lines_here : lines v.slot ++ cond (eqb v.slot v.slot) (map (line_at v.slot) rs') [] ≡ map (line_at v.slot) rs'
  lines_here = rw (eq-eqb v.slot v.slot refl, old.fresh v.slot (omega arith))

  lines_other : (u : ℕ) → (v.slot ≡ u → ⊥) → lines u ++ cond (eqb v.slot u) (map (line_at v.slot) rs') [] ≡ lines u
  lines_other u ne = rw (ne_eqb v.slot u ne) (append-nil (lines u))

  steps_all : (u n i : ℕ) → u ∈ (slots ++ (v.slot ∷ [])) →
      times n i (lines u ++ cond (eqb v.slot u) (map (line_at v.slot) rs') []) ≡
      cond (ltb i L && leb i u) (started_at (u - i) (starts n ++ cond (on n) (v ∷ []) [])) 0
  steps_all u n i m = go (from_end slots v.slot u m)
    where
      go : (u ∈ slots) ⊎ (u ≡ v.slot) →
          times n i (lines u ++ cond (eqb v.slot u) (map (line_at v.slot) rs') []) ≡
          cond (ltb i L && leb i u) (started_at (u - i) (starts n ++ cond (on n) (v ∷ []) [])) 0
      go (inl k) =
          let l = old.ran u k in
          ap (times n i) (lines_other u (λ e. omega arith)) ∙ old.steps u n i k ∙
          ap (λ z. cond (ltb i L && leb i u) z 0)
          (let a = started_more n (u - i) in let z = added_other n (u - i) (λ e. omega arith) in omega arith)
      go (inr e) =
          subst (λ w. times n i (lines w ++ cond (eqb v.slot w) (map (line_at v.slot) rs') []) ≡
          cond (ltb i L && leb i w) (started_at (w - i) (starts n ++ cond (on n) (v ∷ []) [])) 0) (sym e)
          (ap (times n i) lines_here ∙ steps_now n i)

  apart-all : (u : ℕ) → Apart conflict (transmissions_of part (lines u ++ cond (eqb v.slot u) (map (line_at v.slot) rs') []))
  apart-all u = go (cases_eq v.slot u)
    where
      go : (v.slot ≡ u) ⊎ (v.slot ≡ u → ⊥) → Apart conflict (transmissions_of part (lines u ++ cond (eqb v.slot u) (map (line_at v.slot) rs') []))
      go (inr ne) = subst (λ z. Apart conflict (transmissions_of part z)) (sym (lines_other u ne)) (old.apart u)
      go (inl e) =
          subst (λ w. Apart conflict (transmissions_of part (lines w ++ cond (eqb v.slot w) (map (line_at v.slot) rs') []))) e
          (subst (λ z. Apart conflict (transmissions_of part z)) (sym lines_here)
          (transmissions_apart L Δ part conflict fit v.slot rs' now.begun now.live now.spaced))

  pub lines_slot : Lines L Δ part conflict (λ u. lines u ++ cond (eqb v.slot u) (map (line_at v.slot) rs') [])
      (λ n. starts n ++ cond (on n) (v ∷ []) []) (slots ++ (v.slot ∷ [])) (v.slot + 1) (filter (runs_in L (v.slot + 1)) rs')
  lines_slot =
      record {
        ran = λ u m. elim (from_end slots v.slot u m) [ inl k ↦ let l = old.ran u k in omega arith | inr e ↦ omega arith ];
        fresh = λ u l. lines_other u (λ e. omega arith) ∙ old.fresh u (omega arith);
        unstarted = λ n t l.
            let a = started_more n t in
            let b = added_other n t (λ e. omega arith) in
            let c = old.unstarted n t (omega arith) in
            omega arith;
        running = running_over;
        steps = steps_all;
        once = λ n u. once-now n u (cases_eq v.slot u);
        apart = apart-all;
      }
    where
      once-now : (n u : ℕ) → (v.slot ≡ u) ⊎ (v.slot ≡ u → ⊥) → started_at u (starts n ++ cond (on n) (v ∷ []) []) ≤ 1
      once-now n u (inl e) =
          let a = started_more n u in
          let b = added_small n u in
          let c = old.unstarted n u (omega arith) in
          omega arith
      once-now n u (inr ne) =
          let a = started_more n u in
          let b = added_other n u ne in
          let c = old.once n u in
          omega arith
