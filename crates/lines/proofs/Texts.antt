-- A text that is written from its end to its front.
use Rattle.std.proofs.Common.{◌≡◌, ℕ, ◌+◌, ◌<◌, ◌≤◌, ◌^◌, List, [], ◌∷◌, ◌++◌, length, take, drop, set, decimal, ap, ◌∙◌, arith, length-take-le}
use Rattle.std.proofs.Math.ListN.{drop_of_length-le}
use Rattle.std.proofs.lemmas.Fmt.{length-decimal-le}
use Rattle.std.proofs.lemmas.List.{drop-drop, drop-set, drop_at}
use borrow.Rule.Slice.PartMut.{post_of, put_mid}

pub length_decimal : (n : ℕ) → n < 2 ^ 64 → length (decimal n) ≤ 20
length_decimal n h = length-decimal-le 20 n (omega arith) (omega arith) h

-- the last byte
pub ended : (text : List ℕ) (last byte : ℕ) → last + 1 ≡ length text → drop last (set text last byte) ≡ byte ∷ []
ended text last byte e = drop-set text last byte (omega arith) ∙ ap (λ l. byte ∷ l) (drop_of_length-le text (omega arith))

-- k bytes from the place a on
pub fronted : (a k n : ℕ) (text bytes : List ℕ) → a ≤ length text → a + k ≡ n → drop a (put_mid a k text bytes) ≡ bytes ++ drop n text
fronted a k n text bytes h e =
    drop_at (take a text) (bytes ++ post_of a k text) a (length-take-le a text h)
    ∙ ap (λ l. bytes ++ l) (drop-drop k a text ∙ ap (λ m. drop m text) e)
