-- A line of text that is written from its end to its front.
use Rattle.std.proofs.Common.{◌≡◌, ℕ, ◌≤◌, ◌<◌, ◌^◌, List, [], ◌∷◌, ◌++◌, length, take, drop, decimal, ap, sym, ◌∙◌, arith}
use Rattle.std.proofs.Math.ListN.{drop_of_length-le}
use Rattle.std.proofs.lemmas.Fmt.{length-decimal-le}
use Rattle.std.proofs.lemmas.List.{take-take}
use Rattle.daytext.specs.Lines.{spaced}

pub length_number : (n : ℕ) → n < 2 ^ 32 → length (decimal n) ≤ 10
length_number n h = length-decimal-le 10 n (omega arith) (omega arith) (omega arith)

-- what stands the same before n does so before m
pub shorter : (m n : ℕ) (xs ys : List ℕ) → m ≤ n → take n xs ≡ take n ys → take m xs ≡ take m ys
shorter m n xs ys h e = sym (take-take m n xs h) ∙ ap (take m) e ∙ take-take m n ys h

-- a word and its numbers, where nothing stands after them
pub one_spaced : (word text : List ℕ) (a b : ℕ) → length text ≡ 40 → a ≡ b → word ++ (32 ∷ (decimal a ++ drop 40 text)) ≡ word ++ spaced (b ∷ [])
one_spaced word text a b long e = (λ i. word ++ (32 ∷ (decimal (e i) ++ drop_of_length-le text {i = 40} (omega (arith, long)) i)))

pub two_spaced : (word text : List ℕ) (a b c d : ℕ) → length text ≡ 40 → a ≡ b → c ≡ d → word ++ (32 ∷ (decimal a ++ (32 ∷ (decimal c ++ drop 40 text)))) ≡ word ++ spaced (b ∷ d ∷ [])
two_spaced word text a b c d long e f = (λ i. word ++ (32 ∷ (decimal (e i) ++ (32 ∷ (decimal (f i) ++ drop_of_length-le text {i = 40} (omega (arith, long)) i)))))
