use Rattle.std.proofs.Common.{◌≡◌, drop}
use Rattle.listing.specs.Days.{starting}
use Rattle.listing.proofs.calls.starting.Given as goal

abbrev pub invariant-loop-line : goal.invariant-loop-line
invariant-loop-line l = starting (drop l.line-index l.lines) ≡ starting l.lines
