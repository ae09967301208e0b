use Rattle.std.proofs.Common.{◌≤◌, length, vec_items}
use Rattle.textfile.proofs.Printed.{Begun}
use Rattle.textfile.proofs.printing.print_file.Given as goal

abbrev pub invariant-loop-rest : goal.invariant-loop-rest
invariant-loop-rest l = Begun l.file (vec_items l.text) l.rest × (length l.rest ≤ length l.file)

abbrev pub decreases-loop-rest : goal.decreases-loop-rest
decreases-loop-rest l = length l.rest
