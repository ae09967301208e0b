-- Engines as the rules see them, and the outcomes of their calls.
use Rattle.std.specs.Prelude.{◌≡◌, ℕ, ◌<◌, ◌≤◌, Bool, List, ◌++◌, length, drop, Ok, Err, Result}
use Rattle.engine.specs.States.{view_by}
use Rattle.engine.specs.declared.state.Engine.{Engine}
use Rattle.interference.specs.declared.transmission.Transmission.{Transmission}
use Rattle.plan.specs.Plans.{Approved, Plan, length_of, part_of}
use Rattle.rules.specs.declared.refusal.Refusal.{Refusal}
use Rattle.rules.specs.declared.refusal.Refusal.TheVariants.{FirstSlot}
use Rattle.rules.specs.declared.round.Line.{Line}
use Rattle.rules.specs.Promise.{Promise}
use Rattle.rules.specs.Rules.{View, opened, slot}

abbrev pub view : Engine → View
view e =
    view_by e.length e.distance e.slot e.last e.running.rounds.items e.next e.table.rows.items

-- the one outcome of opening
abbrev pub Opened : Plan → ℕ → Result Engine Refusal → Type 0
Opened plan first (Ok e) = (first ≤ 1000000000000) × (view e ≡ opened (length_of plan) plan.distance first)
Opened plan first (Err fault) = (1000000000000 < first) × (fault ≡ FirstSlot)

-- the promise over every run of an engine opened with the plan at the slot, for every meaning of an interference model
-- under which the plan was approved
abbrev pub PromiseFor : Plan → ℕ → Type 0
PromiseFor plan first =
    (conflict : Transmission → Transmission → Bool) → ((a b : Transmission) → conflict a b ≡ conflict b a) → Approved conflict plan
    → Promise (length_of plan) plan.distance first (part_of plan) conflict

-- the one outcome of a slot: the answer and the state by the rule, and the lines at the front of the list
abbrev pub SlotBy : Result (List Line) Refusal × View → View → List Line → List Line → Result ℕ Refusal → Type 0
SlotBy (Ok ls, v) after lines lines' (Ok n) = (n ≡ length ls) × (after ≡ v) × (lines' ≡ ls ++ drop (length ls) lines)
SlotBy (Ok ls, v) after lines lines' (Err r) = ⊥
SlotBy (Err f, v) after lines lines' (Ok n) = ⊥
SlotBy (Err f, v) after lines lines' (Err r) = (r ≡ f) × (after ≡ v) × (lines' ≡ lines)

abbrev pub SlotDone : View → View → List Line → List Line → Result ℕ Refusal → Type 0
SlotDone before after lines lines' r = SlotBy (slot (length lines) before) after lines lines' r
