-- Bytes that are read as a record are the bytes of that record, and those after it.
use Rattle.std.proofs.Common.{◌≡◌, ℕ, zero, suc, ◌+◌, ◌*◌, ◌<◌, ◌≤◌, Bool, true, false, cond, eqb, ltb, List, [], ◌∷◌, ◌++◌, length, get_or, drop, Ok, Err, sym, refl, ap, ◌∙◌, subst, inl, inr, arith}
use Rattle.std.proofs.lemmas.Bool.{ltb-false, cases_eq, both_ways}
use Rattle.std.proofs.lemmas.Bool.Decides.{nat_tests}
use Rattle.std.proofs.lemmas.Nat.{le_bytes_2, le_bytes_4}
use Rattle.dayfile.specs.declared.record.Record.{Record}
use Rattle.dayfile.specs.declared.record.ReadFault.TheVariants.{UnknownKind, CutShort}
use Rattle.dayfile.specs.Layout.{kind_of, size_of, record_as, record_of, rest_of, le32}
use Rattle.dayfile.specs.Reading.{next_of, read_of}
use Rattle.daytext.proofs.Places.{front}
use Rattle.daytext.specs.Bytes.{bytes_of, two_bytes, four_bytes}
use Rattle.daytext.specs.RoundTrip.{Fits}

-- what was passed by all three tests
record Taken (b c : Bool) (bs t : List ℕ) (r : Record) : Type 0 where
  known : b ≡ false
  whole : c ≡ false
  first : record_of bs ≡ r
  rest : rest_of bs ≡ t

taken : (a b c : Bool) (bs t : List ℕ) (r : Record) → read_of (cond a (Err CutShort) (cond b (Err UnknownKind) (cond c (Err CutShort) (Ok bs)))) ≡ Ok (r, t) → Taken b c bs t r
taken true b c bs t r e = let none : ◌≡◌ {A = ℕ} 0 1 = cc in let no_way : ⊥ = omega arith in absurd no_way
taken false true c bs t r e = let none : ◌≡◌ {A = ℕ} 0 1 = cc in let no_way : ⊥ = omega arith in absurd no_way
taken false false true bs t r e = let none : ◌≡◌ {A = ℕ} 0 1 = cc in let no_way : ⊥ = omega arith in absurd no_way
taken false false false bs t r e =
    let same : ◌≡◌ {A = Record × List ℕ} (record_of bs, rest_of bs) (r, t) = cc in
    record { known = refl; whole = refl; first = ap (λ p. p.0) same; rest = ap (λ p. p.1) same }

-- numbers that were read from bytes give those bytes again
two_back : (a b : ℕ) → a < 256 → b < 256 → a ∷ b ∷ [] ≡ two_bytes (a + b * 256)
two_back a b p q = sym (le_bytes_2 (a ∷ b ∷ []) _ refl each refl)
  where
    each : (i : ℕ) → get_or (a ∷ b ∷ []) i 0 < 256
    each zero = p
    each (suc zero) = q
    each (suc (suc i)) = omega arith

four_back : (a b c d : ℕ) → a < 256 → b < 256 → c < 256 → d < 256 → a ∷ b ∷ c ∷ d ∷ [] ≡ four_bytes (a + b * 256 + c * 65536 + d * 16777216)
four_back a b c d p q r s = sym (le_bytes_4 (a ∷ b ∷ c ∷ d ∷ []) _ refl each refl)
  where
    each : (i : ℕ) → get_or (a ∷ b ∷ c ∷ d ∷ []) i 0 < 256
    each zero = p
    each (suc zero) = q
    each (suc (suc zero)) = r
    each (suc (suc (suc zero))) = s
    each (suc (suc (suc (suc i)))) = omega arith

unknown : (k : ℕ) → (k ≡ 1 → ⊥) → (k ≡ 2 → ⊥) → (k ≡ 3 → ⊥) → (k ≡ 4 → ⊥) → (k ≡ 5 → ⊥) → (k ≡ 6 → ⊥) → (k ≡ 7 → ⊥) → eqb (size_of k) 0 ≡ true
unknown k a b c d e f g = grind (arith, nat_tests)

module _ (bs : List ℕ) (bytes : (i : ℕ) → get_or bs i 0 < 256) where
  -- the bytes are those of a record of kind k, whose numbers fit, and those after it
  abbrev Parts : ℕ → Type 0
  Parts k = (bs ≡ bytes_of (record_as k bs) ++ drop (size_of k) bs) × Fits (record_as k bs)

  byte : (i : ℕ) → get_or bs i 0 ≤ 255
  byte i = omega (arith, bytes i)

  parts_1 : kind_of bs ≡ 1 → 2 ≤ length bs → Parts 1
  parts_1 e h = (front bs 0 2 h ∙ ap (λ k. k ∷ get_or bs 1 0 ∷ drop 2 bs) e, (byte 1, tt))

  parts_2 : kind_of bs ≡ 2 → 3 ≤ length bs → Parts 2
  parts_2 e h = (front bs 0 3 h ∙ ap (λ k. k ∷ get_or bs 1 0 ∷ get_or bs 2 0 ∷ drop 3 bs) e, (byte 1, (byte 2, tt)))

  parts_3 : kind_of bs ≡ 3 → 4 ≤ length bs → Parts 3
  parts_3 e h = (front bs 0 4 h ∙ ap (λ k. k ∷ get_or bs 1 0 ∷ get_or bs 2 0 ∷ get_or bs 3 0 ∷ drop 4 bs) e, (byte 1, (byte 2, (byte 3, tt))))

  parts_4 : kind_of bs ≡ 4 → 6 ≤ length bs → Parts 4
  parts_4 e h = (
    front bs 0 6 h
        ∙ (λ i. e i ∷ get_or bs 1 0 ∷ ((two_back (get_or bs 2 0) (get_or bs 3 0) (bytes 2) (bytes 3) i ++ two_back (get_or bs 4 0) (get_or bs 5 0) (bytes 4) (bytes 5) i) ++ drop 6 bs)),
    (byte 1, (omega (arith, bytes 2, bytes 3), (omega (arith, bytes 4, bytes 5), tt))),
  )

  number_is : get_or bs 1 0 ∷ get_or bs 2 0 ∷ get_or bs 3 0 ∷ get_or bs 4 0 ∷ [] ≡ four_bytes (le32 bs 1)
  number_is = four_back (get_or bs 1 0) (get_or bs 2 0) (get_or bs 3 0) (get_or bs 4 0) (bytes 1) (bytes 2) (bytes 3) (bytes 4)

  parts_5 : kind_of bs ≡ 5 → 5 ≤ length bs → Parts 5
  parts_5 e h = (front bs 0 5 h ∙ (λ i. e i ∷ (number_is i ++ drop 5 bs)), (omega (arith, bytes 1, bytes 2, bytes 3, bytes 4), tt))

  parts_6 : kind_of bs ≡ 6 → 5 ≤ length bs → Parts 6
  parts_6 e h = (front bs 0 5 h ∙ (λ i. e i ∷ (number_is i ++ drop 5 bs)), (omega (arith, bytes 1, bytes 2, bytes 3, bytes 4), tt))

  parts_7 : kind_of bs ≡ 7 → 3 ≤ length bs → Parts 7
  parts_7 e h = (front bs 0 3 h ∙ (λ i. e i ∷ (two_back (get_or bs 1 0) (get_or bs 2 0) (bytes 1) (bytes 2) i ++ drop 3 bs)), (omega (arith, bytes 1, bytes 2), tt))

  at_kind : (k : ℕ) → kind_of bs ≡ k → (size_of k ≤ length bs → Parts k) → size_of (kind_of bs) ≤ length bs → Parts (kind_of bs)
  at_kind k e f h = subst Parts (sym e) (f (subst (λ m. size_of m ≤ length bs) e h))

  parts : eqb (size_of (kind_of bs)) 0 ≡ false → size_of (kind_of bs) ≤ length bs → Parts (kind_of bs)
  parts known h =
      elim (cases_eq (kind_of bs) 1) [
        | inl e ↦ at_kind 1 e (parts_1 e) h
        | inr a ↦
            elim (cases_eq (kind_of bs) 2) [
              | inl e ↦ at_kind 2 e (parts_2 e) h
              | inr b ↦
                  elim (cases_eq (kind_of bs) 3) [
                    | inl e ↦ at_kind 3 e (parts_3 e) h
                    | inr c ↦
                        elim (cases_eq (kind_of bs) 4) [
                          | inl e ↦ at_kind 4 e (parts_4 e) h
                          | inr d ↦
                              elim (cases_eq (kind_of bs) 5) [
                                | inl e ↦ at_kind 5 e (parts_5 e) h
                                | inr f ↦
                                    elim (cases_eq (kind_of bs) 6) [
                                      | inl e ↦ at_kind 6 e (parts_6 e) h
                                      | inr g ↦
                                          elim (cases_eq (kind_of bs) 7) [
                                            | inl e ↦ at_kind 7 e (parts_7 e) h
                                            | inr i ↦
                                                absurd (both_ways _ known (unknown (kind_of bs) a b c d f g i))
                                          ]
                                    ]
                              ]
                        ]
                  ]
            ]
      ]

  pub decoded : (r : Record) (t : List ℕ) → next_of bs ≡ Ok (r, t) → (bs ≡ bytes_of r ++ t) × Fits r
  decoded r t e =
      let p = taken (eqb (length bs) 0) (eqb (size_of (kind_of bs)) 0) (ltb (length bs) (size_of (kind_of bs))) bs t r e in
      let q = parts p.known (ltb-false _ _ p.whole) in
      (q.0 ∙ (λ i. bytes_of (p.first i) ++ p.rest i), subst Fits p.first q.1)
