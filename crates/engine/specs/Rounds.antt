-- Running rounds in the slots of their steps.
use Rattle.std.specs.Prelude.{ℕ, ◌-◌, ◌^◌, ◌<◌, ◌≤◌}
use Rattle.rules.specs.declared.round.Round.{Round}

-- the round has started by the slot, and its step there is a number of 32 bits
abbrev pub Runs : ℕ → Round → Type 0
Runs slot r = (r.start ≤ slot) × (slot - r.start < 2 ^ 32)
