-- One step over the lines of a text.
use Rattle.std.specs.Prelude.{◌≡◌, ◌<◌, ℕ, List, [], length, Option, MatchOption}
use Rattle.std.specs.Borrow.{Bor}
use Rattle.textfile.specs.declared.lines.Lines.{Lines}
use Rattle.textfile.specs.Texts.{first_line, after_line}

abbrev pub NextLine : Lines → Option (Bor (List ℕ)) → Lines → Type 0
NextLine s r t = MatchOption r (s.0.now ≡ []) (λ line. (line.now ≡ first_line s.0.now) × (t.0.now ≡ after_line s.0.now) × (length t.0.now < length s.0.now))
