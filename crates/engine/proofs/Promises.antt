-- An approved plan is fit to run, so every run over it keeps the promise.
use Rattle.std.proofs.Common.{◌≡◌, ℕ, Bool, sym, ap, ◌∙◌}
use Rattle.engine.specs.Engines.{PromiseFor}
use Rattle.interference.specs.declared.transmission.Transmission.{Transmission}
use Rattle.plan.specs.Plans.{Approved, Plan, length_of, part_of}
use Rattle.rules.specs.Promise.{Fit}
use Rattle.rules.proofs.Conflicts.{apart_from, place_of}
use Rattle.rules.proofs.Keeping.{promised}

fit : (plan : Plan) (conflict : Transmission → Transmission → Bool) → ((a b : Transmission) → conflict a b ≡ conflict b a)
    → Approved conflict plan → Fit (length_of plan) plan.distance (part_of plan) conflict
fit plan conflict symmetric approved = record {
  symmetric = symmetric;
  alone = λ i below. apart_from conflict (record { from = 0; to = 0 }) (part_of plan i) (λ j k before within. approved.within i j k before within);
  distant = λ i j far below a b in-i in-j.
      let (p, hp, ea) = place_of (part_of plan i) (record { from = 0; to = 0 }) a in-i in
      let (q, hq, eb) = place_of (part_of plan j) (record { from = 0; to = 0 }) b in-j in
      ap (λ x. conflict x b) (sym ea) ∙ ap (conflict _) (sym eb) ∙ approved.between i j p q far hp hq;
}

pub promise_for : (plan : Plan) (first : ℕ) → PromiseFor plan first
promise_for plan first conflict symmetric approved =
    promised (length_of plan) plan.distance first (part_of plan) conflict approved.some approved.positive
    (fit plan conflict symmetric approved)
