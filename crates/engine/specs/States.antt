-- An engine as the rules see it, over its plain fields.
use Rattle.std.specs.Prelude.{ℕ, List, Option}
use Rattle.rules.specs.declared.round.Round.{Round}
use Rattle.rules.specs.declared.row.Row.{Row}
use Rattle.rules.specs.Rules.{View}

abbrev pub view_by : ℕ → ℕ → ℕ → Option ℕ → List Round → ℕ → List Row → View
view_by length distance slot last running next rows = record {
  length = length;
  distance = distance;
  slot = slot;
  last = last;
  running = running;
  next = next;
  rows = rows;
}
