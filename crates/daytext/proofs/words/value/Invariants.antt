use Rattle.std.proofs.Common.{◌≡◌, ◌≤◌, drop}
use Rattle.daytext.specs.Words.{value_after}
use Rattle.daytext.proofs.words.value.Given as goal

abbrev pub invariant-loop-byte : goal.invariant-loop-byte
invariant-loop-byte l = (value_after l.most l.value (drop l.byte-index l.digits) ≡ value_after l.most 0 l.digits) × (l.value ≤ l.most)
