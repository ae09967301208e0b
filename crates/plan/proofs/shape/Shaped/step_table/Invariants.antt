use Rattle.std.proofs.Common.{◌≡◌, length, take, sum}
use Rattle.plan.proofs.Marks.{Stepped}
use Rattle.plan.proofs.shape.Shaped.step_table.Given as goal

abbrev pub invariant-loop-i : goal.invariant-loop-i
invariant-loop-i l = (length l.table ≡ 256) × (l.at ≡ sum (take l.i l.self.counts.now)) × Stepped l.self.counts.now l.table l.at
