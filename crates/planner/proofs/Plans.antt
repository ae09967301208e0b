-- Step after step, until no slot is left.
use Rattle.std.proofs.Common.{◌≡◌, ℕ, zero, suc, ◌+◌, ◌-◌, ◌<◌, ◌≤◌, Bool, ◌⊎◌, List, [], ◌∷◌, ◌++◌, length, take, drop, set, sum, sym, refl, ap, ◌∙◌, ⊎_elim, arith}
use Rattle.interference.specs.declared.transmission.Transmission.{Transmission}
use borrow.Rule.Slice.PartMut.{put_mid}
use Rattle.planner.specs.Filled.{StepFilled, StepsFilled}
use Rattle.planner.specs.Planner.{flat, overwritten, sizes, step_from, steps_from}
use Rattle.routing.specs.declared.routes.Routes.{Routes}
use Rattle.std.proofs.lemmas.List.{append_assoc, append-nil, drop_all, drop_at, drop-drop, drop-set-lt, length-append, length-drop, length-map, length-set, length-take-le, take-append-drop, take_at, take_more_set, take_rest}
use Rattle.std.proofs.lemmas.Bool.{eq-eqb, ne_eqb}

-- a list whose front is written and whose rest is as it was
module _ {X : Type 0} where
  pub front_all : (xs first : List X) (k : ℕ) (done : List X) → k ≤ length xs → take k xs ≡ done → drop k xs ≡ drop k first → xs ≡ overwritten done first
  front_all xs first k done h front rest =
      sym (take-append-drop k xs) ∙ ap (λ ys. ys ++ drop k xs) front ∙ ap (λ ys. done ++ ys) rest
      ∙ ap (λ m. done ++ drop m first) (sym (length-take-le k xs h) ∙ ap length front)

  -- what is equal from k on is so from further on
  drop_on : (xs ys : List X) (k m : ℕ) → drop k xs ≡ drop k ys → drop (k + m) xs ≡ drop (k + m) ys
  drop_on xs ys k m same = sym (drop-drop m k xs) ∙ ap (drop m) same ∙ drop-drop m k ys

  pub front_length : (xs : List X) (k : ℕ) (done : List X) → k ≤ length xs → take k xs ≡ done → k ≡ length done
  front_length xs k done h front = sym (length-take-le k xs h) ∙ ap length front

-- `&mut xs[k..]` was lent, and `more` written to its front
module _ {X : Type 0} (xs after more : List X) (k m : ℕ) (fits : k + m ≤ length xs) (sized : m ≡ length more)
    (wrote : after ≡ overwritten more (take (length xs - k) (drop k xs))) where
  part_is : put_mid k (length xs - k) xs after ≡ (take k xs ++ more) ++ drop (length more) (drop k xs)
  part_is =
      let end : drop (length xs - k) (drop k xs) ≡ [] = drop_all (length xs - k) (drop k xs) (simp length-drop (omega arith)) in
      ap (λ zs. take k xs ++ (after ++ zs)) end
      ∙ ap (λ zs. take k xs ++ zs) (append-nil after ∙ wrote ∙ ap (λ zs. more ++ drop (length more) zs) (take_rest xs k))
      ∙ sym (append_assoc (take k xs) more (drop (length more) (drop k xs)))

  front_sized : length (take k xs ++ more) ≡ k + m
  front_sized = length-append (take k xs) more ∙ omega (arith, length-take-le k xs (omega arith))

  pub part_front : take (k + m) (put_mid k (length xs - k) xs after) ≡ take k xs ++ more
  part_front = ap (take (k + m)) part_is ∙ take_at (take k xs ++ more) _ (k + m) front_sized

  pub part_rest : drop (k + m) (put_mid k (length xs - k) xs after) ≡ drop (k + m) xs
  part_rest =
      ap (drop (k + m)) part_is ∙ drop_at (take k xs ++ more) _ (k + m) front_sized
      ∙ ap (λ j. drop j (drop k xs)) (sym sized) ∙ drop-drop m k xs

  pub part_long : length (put_mid k (length xs - k) xs after) ≡ length xs
  part_long =
      ap length part_is ∙ length-append (take k xs ++ more) (drop (length more) (drop k xs))
      ∙ omega (arith, front_sized, length-drop (length more) (drop k xs), length-drop k xs)

module _ (conflict : Transmission → Transmission → Bool) (n : ℕ) (routes : Routes) where
  steps_done : (most : ℕ) (left : List ℕ) → sum left ≡ 0 → steps_from conflict n routes most left ≡ []
  unfolding steps_from
  steps_done zero left none = refl
  steps_done (suc most) left none = rw (eq-eqb (sum left) 0 none) refl

  steps_none : (most : ℕ) (left : List ℕ) → most ≡ 0 → steps_from conflict n routes most left ≡ []
  unfolding steps_from
  steps_none most left none = rw none refl

  steps_more : (most : ℕ) (left : List ℕ) → 0 < sum left
      → steps_from conflict n routes (suc most) left
      ≡ (step_from conflict n routes left).sent ∷ steps_from conflict n routes most (step_from conflict n routes left).left
  unfolding steps_from
  steps_more most left some = rw (ne_eqb (sum left) 0 (λ e. omega arith)) refl

  -- what is left of the slots completes the plan. The two lists were `first` and `former`
  pub record Planning (goal : List (List Transmission)) (first : List Transmission) (former : List ℕ) (left : List ℕ) (remaining sent steps : ℕ) (ts : List Transmission) (cs : List ℕ) : Type 0 where
    pub total : remaining ≡ sum left
    pub kept : sent + remaining ≤ 256
    pub few : steps ≤ 256
    pub leads : take sent ts ++ flat (steps_from conflict n routes (256 - steps) left) ≡ flat goal
    pub counts : take steps cs ++ sizes (steps_from conflict n routes (256 - steps) left) ≡ sizes goal
    pub rest : drop sent ts ≡ drop sent first
    pub others : drop steps cs ≡ drop steps former
    pub long : length ts ≡ length first
    pub wide : length cs ≡ length former

  pub plan_start : (first : List Transmission) (former : List ℕ) (remaining : ℕ) → remaining ≡ sum routes.slots → sum routes.slots ≤ 256
      → Planning (steps_from conflict n routes 256 routes.slots) first former routes.slots remaining 0 0 first former
  plan_start first former remaining is few = record {
    total = is;
    kept = omega arith;
    few = omega arith;
    leads = refl;
    counts = refl;
    rest = refl;
    others = refl;
    long = refl;
    wide = refl;
  }

-- ---- a turn and the end

module _ {conflict : Transmission → Transmission → Bool} {n : ℕ} {routes : Routes} {goal : List (List Transmission)} {first : List Transmission}
    {former left : List ℕ} {remaining sent steps : ℕ} {ts : List Transmission} {cs : List ℕ}
    (was : Planning conflict n routes goal first former left remaining sent steps ts cs) (room : 256 ≤ length first) (place : 256 ≤ length former) where
  -- the rest of the list has room for what is left
  pub plan_room : sum left ≤ length (take (length ts - sent) (drop sent ts))
  plan_room = rw (take_rest ts sent, length-drop sent ts) (omega (arith, was.kept, was.total, was.long))

  -- one step more: `after` is what the rest of the list holds then
  module _ (some : 0 < remaining) (below : steps < 256) (size : ℕ) (after : List Transmission) (fewer : List ℕ)
      (filled : StepFilled (step_from conflict n routes left) (take (length ts - sent) (drop sent ts)) left after fewer size) where
    -- the step, and the steps after it
    abbrev step : List Transmission
    step = (step_from conflict n routes left).sent

    abbrev later : List (List Transmission)
    later = steps_from conflict n routes (256 - (steps + 1)) fewer

    ahead : steps_from conflict n routes (256 - steps) left ≡ step ∷ later
    ahead =
        let turn : 256 - steps ≡ suc (256 - (steps + 1)) = omega arith in
        rw turn (steps_more conflict n routes (256 - (steps + 1)) left (omega (arith, was.total)))
        ∙ ap (λ xs. step ∷ steps_from conflict n routes (256 - (steps + 1)) xs) (sym filled.counted)

    pub plan_more : Planning conflict n routes goal first former fewer (remaining - size) (sent + size) (steps + 1)
        (put_mid sent (length ts - sent) ts after) (set cs steps size)
    plan_more =
        let fits : sent + size ≤ length ts = omega (arith, was.kept, was.long, was.total, filled.used) in
        let wide : steps < length cs = omega (arith, was.wide) in
        record {
          total = omega (arith, was.total, filled.used);
          kept = omega (arith, was.kept, was.total, filled.used);
          few = omega arith;
          leads =
              ap (λ xs. xs ++ flat later) (part_front ts after step sent size fits filled.sized filled.written)
              ∙ append_assoc (take sent ts) step (flat later) ∙ sym (ap (λ xs. take sent ts ++ flat xs) ahead) ∙ was.leads;
          counts =
              ap (λ xs. xs ++ sizes later) (take_more_set cs steps size wide) ∙ append_assoc (take steps cs) (size ∷ []) (sizes later)
              ∙ ap (λ k. take steps cs ++ (k ∷ sizes later)) filled.sized ∙ sym (ap (λ xs. take steps cs ++ sizes xs) ahead)
              ∙ was.counts;
          rest = part_rest ts after step sent size fits filled.sized filled.written ∙ drop_on ts first sent size was.rest;
          others = drop-set-lt (steps + 1) cs steps size (omega arith) ∙ drop_on cs former steps 1 was.others;
          long = part_long ts after step sent size fits filled.sized filled.written ∙ was.long;
          wide = length-set cs steps size ∙ was.wide;
        }

  -- no slot is left, or no turn
  module _ (over : (remaining ≤ 0) ⊎ (256 ≤ steps)) where
    none : steps_from conflict n routes (256 - steps) left ≡ []
    none =
        ⊎_elim (λ (e : remaining ≤ 0). steps_done conflict n routes (256 - steps) left (omega (arith, was.total)))
        (λ (e : 256 ≤ steps). steps_none conflict n routes (256 - steps) left (omega arith)) over

    all-sent : take sent ts ≡ flat goal
    all-sent = sym (append-nil (take sent ts)) ∙ sym (ap (λ xs. take sent ts ++ flat xs) none) ∙ was.leads

    all-counts : take steps cs ≡ sizes goal
    all-counts = sym (append-nil (take steps cs)) ∙ sym (ap (λ xs. take steps cs ++ sizes xs) none) ∙ was.counts

    pub plan_end : StepsFilled goal first former ts cs (record { transmissions = sent; steps = steps })
    plan_end =
        let within : sent ≤ length ts = omega (arith, was.kept, was.long) in
        let inside : steps ≤ length cs = omega (arith, was.few, was.wide) in
        record {
          sent = front_length ts sent (flat goal) within all-sent;
          count = front_length cs steps (sizes goal) inside all-counts ∙ length-map goal length;
          written = front_all ts first sent (flat goal) within all-sent was.rest;
          counted = front_all cs former steps (sizes goal) inside all-counts was.others;
        }
