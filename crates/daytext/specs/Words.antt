-- The words of a line, and the numbers among them. Assumes nothing.
use Rattle.std.specs.Prelude.{ℕ, ◌+◌, ◌-◌, ◌*◌, Bool, cond, not, ◌||◌, List, [], ◌∷◌, length, take, drop, Ok, Err, Result, ◌==◌, nat_le}
use Rattle.std.specs.Char.{is_ascii_digit}
use Rattle.std.specs.List.{prefix_len}
use Rattle.daytext.specs.declared.fault.LineFault.{LineFault}
use Rattle.daytext.specs.declared.fault.LineFault.TheVariants.{MissingNumber, NotANumber, TooLarge, TooMuch}

-- a space, a tab, or the carriage return of a line that ends in one
abbrev pub is_blank : ℕ → Bool
is_blank c = c == 32 || (c == 9 || c == 13)

-- neither a blank nor the `#` of a comment
abbrev pub in_word : ℕ → Bool
in_word c = not (is_blank c || c == 35)

abbrev pub unindented : List ℕ → List ℕ
unindented bs = drop (prefix_len is_blank bs) bs

-- the first word, which is empty where a comment or the end comes first; and the bytes after it
abbrev pub first_word : List ℕ → List ℕ
first_word bs = take (prefix_len in_word (unindented bs)) (unindented bs)

abbrev pub after_word : List ℕ → List ℕ
after_word bs = drop (prefix_len in_word (unindented bs)) (unindented bs)

abbrev pub is_empty : List ℕ → Bool
is_empty bs = length bs == 0

-- the number that decimal digits write after n, which may not pass most
abbrev pub value_after : ℕ → ℕ → List ℕ → Result ℕ LineFault
value_after most n [] = Ok n
value_after most n (c ∷ cs) =
    cond (is_ascii_digit c) (cond (nat_le (n * 10 + (c - 48)) most) (value_after most (n * 10 + (c - 48)) cs) (Err TooLarge)) (Err NotANumber)

-- what f makes of an answer, unless it is a fault
abbrev pub and_then : {X Y : Type 0} → Result X LineFault → (X → Result Y LineFault) → Result Y LineFault
and_then (Ok x) f = f x
and_then (Err e) f = Err e

-- the number at the front, at most `most`, and the bytes after it
abbrev pub number_of : ℕ → List ℕ → Result (ℕ × List ℕ) LineFault
number_of most bs =
    cond (is_empty (first_word bs)) (Err MissingNumber)
    (and_then (value_after most 0 (first_word bs)) (λ n. Ok (n, after_word bs)))

-- nothing but blanks and a comment is left
abbrev pub end_of : List ℕ → Result (Unit {0}) LineFault
end_of bs = cond (is_empty (first_word bs)) (Ok tt) (Err TooMuch)

-- one number for each limit, and nothing after the last
abbrev pub numbers_of : List ℕ → List ℕ → Result (List ℕ) LineFault
numbers_of [] bs = and_then (end_of bs) (λ _. Ok [])
numbers_of (most ∷ limits) bs = and_then (number_of most bs) (λ p. and_then (numbers_of limits p.1) (λ ns. Ok (p.0 ∷ ns)))
