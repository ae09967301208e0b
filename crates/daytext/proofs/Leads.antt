-- The words and numbers of a line that was written: a number in decimal is one word, and reads as that number.
use Rattle.std.proofs.Common.{◌≡◌, ℕ, ◌+◌, ◌-◌, ◌*◌, ◌/◌, ◌%◌, ◌^◌, ◌<◌, ◌≤◌, Bool, true, false, List, [], ◌∷◌, ◌++◌, length, take, drop, Ok, decimal, sym, refl, ap, ◌∙◌, append_assoc, zero-add, arith}
use Rattle.std.specs.Char.{is_ascii_digit}
use Rattle.std.specs.List.{prefix_len}
use Rattle.std.proofs.lemmas.Fmt.{decimal_by_steps, decimal_nonempty}
use Rattle.std.proofs.lemmas.List.{append-nil, take_at, drop_at, length_push}
use Rattle.std.proofs.lemmas.Bool.{cond-true, cond-false, le-leb, ne_eqb}
use Rattle.std.proofs.lemmas.Bool.Decides.{nat_tests}
use Rattle.daytext.specs.Words.{is_blank, in_word, is_empty, first_word, after_word, unindented, value_after, and_then, number_of, numbers_of}
use Rattle.daytext.specs.Lines.{spaced}
use Rattle.daytext.specs.RoundTrip.{Within}

digit_blank : (n : ℕ) → n < 10 → is_blank (48 + n) ≡ false
digit_blank n h = grind (arith, nat_tests)

digit_word : (n : ℕ) → n < 10 → in_word (48 + n) ≡ true
digit_word n h = grind (arith, nat_tests)

digit_digit : (n : ℕ) → n < 10 → is_ascii_digit (48 + n) ≡ true
digit_digit n h = grind (arith, nat_tests)

-- digits, and what follows them
no_blank : (n : ℕ) → n < 2 ^ 64 → (t : List ℕ) → prefix_len is_blank (decimal n ++ t) ≡ 0
no_blank =
    decimal_by_steps (λ n ds. (t : List ℕ) → prefix_len is_blank (ds ++ t) ≡ 0)
    (λ n h t. cond-false _ _ _ (digit_blank n h))
    (λ n ds h p t. ap (prefix_len is_blank) (append_assoc ds ((48 + n % 10) ∷ []) t) ∙ p ((48 + n % 10) ∷ t))

pub digits_pass : (p : ℕ → Bool) → ((d : ℕ) → d < 10 → p (48 + d) ≡ true) → (n : ℕ) → n < 2 ^ 64 → (t : List ℕ) → prefix_len p (decimal n ++ t) ≡ length (decimal n) + prefix_len p t
digits_pass p each =
    decimal_by_steps (λ n ds. (t : List ℕ) → prefix_len p (ds ++ t) ≡ length ds + prefix_len p t)
    (λ n h t. cond-true _ _ _ (each n h))
    (λ n ds h so t.
    let d = 48 + n % 10 in
    let one : prefix_len p (d ∷ t) ≡ 1 + prefix_len p t = cond-true _ _ _ (each (n % 10) (omega arith)) in
    ap (prefix_len p) (append_assoc ds (d ∷ []) t) ∙ so (d ∷ t) ∙ omega (arith, one, length_push ds d))

-- one more digit
value_more : (most n d : ℕ) (t : List ℕ) → d < 10 → n * 10 + d ≤ most → value_after most n ((48 + d) ∷ t) ≡ value_after most (n * 10 + d) t
value_more most n d t h small =
    let same : n * 10 + (48 + d - 48) ≡ n * 10 + d = omega arith in
    let fits : n * 10 + (48 + d - 48) ≤ most = omega arith in
    cond-true _ _ _ (digit_digit d h) ∙ cond-true _ _ _ (le-leb _ _ fits) ∙ ap (λ k. value_after most k t) same

reads : (n : ℕ) → n < 2 ^ 64 → (most : ℕ) → n ≤ most → (t : List ℕ) → value_after most 0 (decimal n ++ t) ≡ value_after most n t
reads =
    decimal_by_steps (λ n ds. (most : ℕ) → n ≤ most → (t : List ℕ) → value_after most 0 (ds ++ t) ≡ value_after most n t)
    (λ n h most small t. value_more most 0 n t h (omega arith) ∙ ap (λ k. value_after most k t) (zero-add n))
    (λ n ds h p most small t.
    let d = n % 10 in
    let same : n / 10 * 10 + d ≡ n = omega arith in
    ap (value_after most 0) (append_assoc ds ((48 + d) ∷ []) t)
    ∙ p most (omega arith) ((48 + d) ∷ t)
    ∙ value_more most (n / 10) d t (omega arith) (omega arith)
    ∙ ap (λ k. value_after most k t) same)

-- a number after a space, and bytes that do not lengthen it
module _ (n : ℕ) (small : n < 2 ^ 64) (t : List ℕ) (stops : prefix_len in_word t ≡ 0) where
  at_number : unindented (32 ∷ (decimal n ++ t)) ≡ decimal n ++ t
  at_number = ap (λ k. drop (1 + k) (32 ∷ (decimal n ++ t))) (no_blank n small t)

  number_size : length (decimal n) ≡ prefix_len in_word (decimal n ++ t)
  number_size = omega (arith, digits_pass in_word digit_word n small t, stops)

  first_number : first_word (32 ∷ (decimal n ++ t)) ≡ decimal n
  first_number = ap (λ bs. take (prefix_len in_word bs) bs) at_number ∙ take_at (decimal n) t _ number_size

  after_number : after_word (32 ∷ (decimal n ++ t)) ≡ t
  after_number = ap (λ bs. drop (prefix_len in_word bs) bs) at_number ∙ drop_at (decimal n) t _ number_size

  some_number : is_empty (first_word (32 ∷ (decimal n ++ t))) ≡ false
  some_number = ap is_empty first_number ∙ ne_eqb (length (decimal n)) 0 (λ e. omega (arith, decimal_nonempty n small))

  value_number : (most : ℕ) → n ≤ most → value_after most 0 (first_word (32 ∷ (decimal n ++ t))) ≡ Ok n
  value_number most h =
      ap (value_after most 0) (first_number ∙ sym (append-nil (decimal n))) ∙ reads n small most h []

  number_back : (most : ℕ) → n ≤ most → number_of most (32 ∷ (decimal n ++ t)) ≡ Ok (n, t)
  number_back most h =
      cond-false _ _ _ some_number
      ∙ (λ i. and_then (value_number most h i) (λ m. Ok (m, after_number i)))

-- limits below the most that the lemmas on decimal digits allow
abbrev pub Small : List ℕ → Type 0
Small [] = Unit {0}
Small (most ∷ limits) = (most < 2 ^ 64) × Small limits

spaced_stops : (ns : List ℕ) → prefix_len in_word (spaced ns) ≡ 0
spaced_stops [] = refl
spaced_stops (n ∷ ns) = refl

pub numbers_back : (ns limits : List ℕ) → Small limits → Within ns limits → numbers_of limits (spaced ns) ≡ Ok ns
numbers_back [] [] small h = refl
numbers_back [] (most ∷ limits) small h = absurd h
numbers_back (n ∷ ns) [] small h = absurd h
numbers_back (n ∷ ns) (most ∷ limits) small h =
    let first = number_back n (omega arith) (spaced ns) (spaced_stops ns) most h.0 in
    ap (λ r. and_then r (λ p. and_then (numbers_of limits p.1) (λ more. Ok (p.0 ∷ more)))) first
    ∙ ap (λ r. and_then r (λ more. Ok (n ∷ more))) (numbers_back ns limits small.1 h.1)
