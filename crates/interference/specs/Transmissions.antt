use Rattle.std.specs.Prelude.{ℕ, Bool, not, ◌&&◌, ◌||◌, ◌==◌, nat_lt}
use Rattle.interference.specs.declared.transmission.Transmission.{Transmission}

-- both nodes of the transmission are among the n nodes, and they differ
abbrev pub proper : ℕ → Transmission → Bool
proper n s = (nat_lt s.from n && nat_lt s.to n) && not (s.from == s.to)

-- the two transmissions have a node in common
abbrev pub share : Transmission → Transmission → Bool
share a b = (a.from == b.from || a.from == b.to) || (a.to == b.from || a.to == b.to)

-- two proper transmissions with no node in common
abbrev pub apart : ℕ → Transmission → Transmission → Bool
apart n a b = (proper n a && proper n b) && not (share a b)

-- the rule of every model: transmissions that are not apart conflict, and for the others the model has its own test
abbrev pub ruled : ℕ → Transmission → Transmission → Bool → Bool
ruled n a b far = not (apart n a b) || far
