use Rattle.std.proofs.Common.{◌≡◌, ◌+◌, ◌*◌, ◌≤◌, ◌++◌, length, take}
use Rattle.daytext.specs.Lines.{spaced}
use Rattle.daytext.proofs.printer.line.Given as goal

-- the numbers so far stand after the word, each in at most eleven bytes
abbrev pub invariant-loop-number : goal.invariant-loop-number
invariant-loop-number l = (l.line.bytes ≡ l.word ++ spaced (take l.number-index l.numbers)) × (length l.line.bytes ≤ length l.word + 11 * l.number-index)
