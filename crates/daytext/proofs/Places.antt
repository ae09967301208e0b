-- Bytes taken apart: the first ones, one by one, and the rest.
use Rattle.std.proofs.Common.{◌≡◌, ℕ, zero, suc, ◌+◌, ◌<◌, ◌≤◌, List, [], ◌∷◌, ◌++◌, length, get_or, drop, refl, sym, ap, ◌∙◌, add-zero, arith, drop-cons}
use Rattle.std.proofs.lemmas.List.{append-nil, drop_all}
use Rattle.daytext.specs.Lines.{keyword_named}

-- the n bytes from place i
abbrev pub places : ℕ → ℕ → List ℕ → List ℕ
places i zero bs = []
places i (suc n) bs = get_or bs i 0 ∷ places (suc i) n bs

pub front : (bs : List ℕ) (i n : ℕ) → i + n ≤ length bs → drop i bs ≡ places i n bs ++ drop (i + n) bs
front bs i zero h = rw add-zero refl
front bs i (suc n) h =
    let lt : i < length bs = omega arith in
    let le : suc i + n ≤ length bs = omega arith in
    let e : suc i + n ≡ i + suc n = omega arith in
    drop-cons bs i 0 lt ∙ ap (λ t. get_or bs i 0 ∷ t) (rw e at (front bs (suc i) n le))

-- a word means what its bytes, one by one, spell
pub spelled : (n : ℕ) (v w : List ℕ) → length w ≡ n → places 0 n w ≡ v → keyword_named v ≡ keyword_named w
spelled n v w long same =
    let end : drop (0 + n) w ≡ [] = drop_all (0 + n) w (omega arith) in
    sym (ap keyword_named (front w 0 n (omega arith) ∙ (λ i. same i ++ end i) ∙ append-nil v))
