use Rattle.std.proofs.Common.{◌≡◌, ◌+◌, ◌≤◌, length, vec_items}
use Rattle.std.specs.Iterator.Adapters.{enumerate_source, enumerate_count}
use Rattle.textfile.specs.Texts.{before, packed_from, packed_of, lines_of}
use Rattle.textfile.proofs.packing.pack.Given as goal

-- what the lines so far gave stands before what the rest gives; each line has a byte at least
abbrev pub invariant-loop-i : goal.invariant-loop-i
invariant-loop-i l =
    (goal.iterator-loop-i).can_next l.i-iterator × (goal.iterator-loop-i).is_finite l.i-iterator
    × (packed_of l.text ≡ before (vec_items l.file) (packed_from (enumerate_count l.i-iterator + 1) (lines_of (enumerate_source l.i-iterator).0.now)))
    × (enumerate_count l.i-iterator + length (enumerate_source l.i-iterator).0.now ≤ length l.text)
