use Rattle.std.proofs.Common.{◌≡◌, ◌-◌}
use Rattle.engine.specs.Engines.{view}
use Rattle.listing.proofs.Slots.{Running}
use Rattle.listing.proofs.day.Day.run_slots.Given as goal

abbrev pub invariant-loop : goal.invariant-loop
invariant-loop l =
    (l.page.out.ghost_name ≡ l.initial.page.out.ghost_name)
    × Running l.offset l.slots (view l.initial.self.engine) l.initial.page (l.slots - l.counter) (view l.self.engine) l.page
