-- A text cut at the end of its first line.
use Rattle.std.proofs.Common.{◌≡◌, ℕ, suc, ◌+◌, ◌<◌, Bool, true, false, cond, List, [], ◌∷◌, length, take, drop, sym, refl, ap, ◌∙◌, one-add, arith}
use Rattle.std.specs.List.{prefix_len}
use Rattle.textfile.specs.Texts.{in_line, first_line, after_line, lines_of, onto}

-- the first line, and the lines after it
one_line : (c : ℕ) (b : Bool) → cond b (onto c []) ([] ∷ []) ≡ take (cond b 1 0) (c ∷ []) ∷ lines_of (drop (cond b 1 0 + 1) (c ∷ []))
one_line c true = refl
one_line c false = refl

more_lines : (c : ℕ) (cs : List ℕ) (k : ℕ) (b : Bool) → lines_of cs ≡ take k cs ∷ lines_of (drop (k + 1) cs) → cond b (onto c (lines_of cs)) ([] ∷ lines_of cs) ≡ take (cond b (1 + k) 0) (c ∷ cs) ∷ lines_of (drop (cond b (1 + k) 0 + 1) (c ∷ cs))
more_lines c cs k true e =
    let next : 1 + k + 1 ≡ suc (k + 1) = omega arith in
    ap (onto c) e ∙ (λ i. take (sym (one-add k) i) (c ∷ cs) ∷ lines_of (drop (sym next i) (c ∷ cs)))
more_lines c cs k false e = refl

pub lines_step : (bs : List ℕ) → 0 < length bs → lines_of bs ≡ first_line bs ∷ lines_of (after_line bs)
lines_step [] some = let none : ⊥ = omega arith in absurd none
lines_step (c ∷ []) some = one_line c (in_line c)
lines_step (c ∷ d ∷ cs) some = more_lines c (d ∷ cs) (prefix_len in_line (d ∷ cs)) (in_line c) (lines_step (d ∷ cs) (omega arith))
