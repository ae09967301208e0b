use Rattle.std.specs.Prelude.{ℕ, ◌/◌, ◌%◌, ◌^◌, Bool, ◌==◌, bit_or}

-- bit k of the word, the lowest bit being 0
abbrev pub bit_of : ℕ → ℕ → Bool
bit_of w k = w / 2 ^ k % 2 == 1

-- the word with bit k set
abbrev pub with_bit : ℕ → ℕ → ℕ
with_bit w k = bit_or w (2 ^ k)
