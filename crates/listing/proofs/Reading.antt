-- The records of a file, one by one: how many there may be does not matter.
use Rattle.std.proofs.Common.{◌≡◌, ℕ, zero, suc, ◌+◌, ◌-◌, ◌<◌, ◌≤◌, Bool, true, false, cond, eqb, ltb, ◌⊎◌, List, length, Ok, Err, Result, sym, refl, ap, ◌∙◌, inl, inr, ⊎_elim, arith, length-drop}
use Rattle.dayfile.specs.declared.record.ReadFault.{ReadFault}
use Rattle.dayfile.specs.declared.record.ReadFault.TheVariants.{CutShort, UnknownKind}
use Rattle.dayfile.specs.declared.record.Record.{Record}
use Rattle.dayfile.specs.declared.record.Record.TheVariants.{Nodes, Edge, Tree, Query, Release, Close, Run}
use Rattle.dayfile.specs.Layout.{kind_of, record_of, rest_of, size_of}
use Rattle.dayfile.specs.Reading.{next_of, read_of}
use Rattle.listing.specs.Records.{size_by}
use Rattle.listing.specs.Scripts.{Script, Over, Broken, Next, offset_of, script_from, script_of}
use Rattle.std.proofs.lemmas.Bool.{cond-false, cond-true, eq-eqb, eqb-false, ltb-false, ne_eqb}

-- what is read was there, and is not empty
by_tests : (a b c : Bool) (bs : List ℕ) (p : Record × List ℕ)
    → read_of (cond a (Err CutShort) (cond b (Err UnknownKind) (cond c (Err CutShort) (Ok bs)))) ≡ Ok p
    → (a ≡ false) × (b ≡ false) × (c ≡ false) × (p ≡ (record_of bs, rest_of bs))
by_tests true b c bs p e = let z : ◌≡◌ {A = ℕ} 0 1 = cc in absurd (omega arith)
by_tests false true c bs p e = let z : ◌≡◌ {A = ℕ} 0 1 = cc in absurd (omega arith)
by_tests false false true bs p e = let z : ◌≡◌ {A = ℕ} 0 1 = cc in absurd (omega arith)
by_tests false false false bs p e = (refl, refl, refl, cc)

-- the record that is read, and by how many bytes the rest is shorter
pub next_is : (bs : List ℕ) (p : Record × List ℕ) → next_of bs ≡ Ok p
    → (p.0 ≡ record_of bs) × (length p.1 + size_of (kind_of bs) ≡ length bs) × (0 < size_of (kind_of bs))
next_is bs p e =
    let (some, known, whole, is) = by_tests (eqb (length bs) 0) (eqb (size_of (kind_of bs)) 0) (ltb (length bs) (size_of (kind_of bs))) bs p e in
    let rest : length p.1 ≡ length bs - size_of (kind_of bs) = ap (λ (q : Record × List ℕ). length q.1) is ∙ length-drop (size_of (kind_of bs)) bs in
    let sized : 0 < size_of (kind_of bs) = not-zero (size_of (kind_of bs)) (eqb-false (size_of (kind_of bs)) 0 known) in
    let fits = ltb-false (length bs) (size_of (kind_of bs)) whole in
    (ap (λ (q : Record × List ℕ). q.0) is, omega (arith, rest, fits), sized)
  where
    not-zero : (n : ℕ) → (n ≡ 0 → ⊥) → 0 < n
    not-zero n h = omega arith

sized_by : (a b c d e f g : Bool) (n x y z u v h p q i j k : ℕ)
    → 0 < cond a 2 (cond b 3 (cond c 4 (cond d 6 (cond e 5 (cond f 5 (cond g 3 0))))))
    → cond a 2 (cond b 3 (cond c 4 (cond d 6 (cond e 5 (cond f 5 (cond g 3 0))))))
    ≡ size_by (cond a (Nodes n) (cond b (Edge x y) (cond c (Tree z u v) (cond d (Query h p q) (cond e (Release i) (cond f (Close j) (Run k)))))))
sized_by true b c d e f g n x y z u v h p q i j k some = refl
sized_by false true c d e f g n x y z u v h p q i j k some = refl
sized_by false false true d e f g n x y z u v h p q i j k some = refl
sized_by false false false true e f g n x y z u v h p q i j k some = refl
sized_by false false false false true f g n x y z u v h p q i j k some = refl
sized_by false false false false false true g n x y z u v h p q i j k some = refl
sized_by false false false false false false true n x y z u v h p q i j k some = refl
sized_by false false false false false false false n x y z u v h p q i j k some = absurd (omega arith)

pub next_size : (bs : List ℕ) (r : Record) (rest : List ℕ) → next_of bs ≡ Ok (r, rest) → length rest + size_by r ≡ length bs
next_size bs r rest e =
    let (is, long, some) = next_is bs (r, rest) e in
    let k = kind_of bs in
    let sized : size_of k ≡ size_by (record_of bs) =
    sized_by (eqb k 1) (eqb k 2) (eqb k 3) (eqb k 4) (eqb k 5) (eqb k 6) (eqb k 7) _ _ _ _ _ _ _ _ _ _ _ _ some in
    ap (λ m. length rest + m) (ap size_by is ∙ sym sized) ∙ long

pub next_shorter : (bs : List ℕ) (p : Record × List ℕ) → next_of bs ≡ Ok p → length p.1 < length bs
next_shorter bs p e = let (is, long, sized) = next_is bs p e in omega arith

zero_or : (k : ℕ) → (k ≡ 0) ⊎ (0 < k)
zero_or zero = inl refl
zero_or (suc k) = inr (omega arith)

module _ (total : ℕ) where
  -- the record at the front, or why there is none, and then at most n records more
  abbrev entry : ℕ → List ℕ → Result (Record × List ℕ) ReadFault → Script
  entry n bs x = elim x [
    | Ok p ↦ Next p.0 (total - length bs) (script_from n total p.1)
    | Err f ↦ Broken f (total - length bs)
  ]

  turn : (n : ℕ) (bs : List ℕ) → 0 < length bs → script_from (suc n) total bs ≡ entry n bs (next_of bs)
  unfolding script_from
  turn n bs some = cond-false _ _ _ (ne_eqb (length bs) 0 (λ z. omega arith))

  none : (n : ℕ) (bs : List ℕ) → length bs ≡ 0 → script_from n total bs ≡ Over total
  unfolding script_from
  none zero bs e = refl
  none (suc n) bs e = cond-true _ _ _ (eq-eqb _ _ e)

  same_entry : (n m : ℕ) (bs : List ℕ) (x : Result (Record × List ℕ) ReadFault)
      → ((p : Record × List ℕ) → x ≡ Ok p → script_from n total p.1 ≡ script_from m total p.1) → entry n bs x ≡ entry m bs x
  same_entry n m bs (Ok p) h = ap (Next p.0 (total - length bs)) (h p refl)
  same_entry n m bs (Err f) h = refl

  pub same_fuel : (n m : ℕ) (bs : List ℕ) → length bs ≤ n → length bs ≤ m → script_from n total bs ≡ script_from m total bs
  same_fuel zero m bs hn hm = none zero bs (omega arith) ∙ sym (none m bs (omega arith))
  same_fuel (suc n) zero bs hn hm = none (suc n) bs (omega arith) ∙ sym (none zero bs (omega arith))
  same_fuel (suc n) (suc m) bs hn hm =
      ⊎_elim
      (λ (empty : length bs ≡ 0). none (suc n) bs empty ∙ sym (none (suc m) bs empty))
      (λ (some : 0 < length bs).
      turn n bs some
      ∙ same_entry n m bs (next_of bs)
      (λ p e. let less = next_shorter bs p e in same_fuel n m p.1 (omega arith) (omega arith))
      ∙ sym (turn m bs some))
      (zero_or (length bs))

  -- the script of no bytes, of bytes that cannot be read, and of bytes that can
  pub script_end : (bs : List ℕ) → length bs ≡ 0 → script_of total bs ≡ Over total
  script_end bs e = none (length bs) bs e

  fuelled : (bs : List ℕ) → 0 < length bs → script_of total bs ≡ entry (length bs) bs (next_of bs)
  fuelled bs some = same_fuel (length bs) (suc (length bs)) bs (omega arith) (omega arith) ∙ turn (length bs) bs some

  pub script_broken : (bs : List ℕ) (f : ReadFault) → 0 < length bs → next_of bs ≡ Err f → script_of total bs ≡ Broken f (total - length bs)
  script_broken bs f some e = fuelled bs some ∙ ap (entry (length bs) bs) e

  pub script_next : (bs : List ℕ) (r : Record) (rest : List ℕ) → 0 < length bs → next_of bs ≡ Ok (r, rest)
      → script_of total bs ≡ Next r (total - length bs) (script_of total rest)
  script_next bs r rest some e =
      let less = next_shorter bs (r, rest) e in
      fuelled bs some ∙ ap (entry (length bs) bs) e
      ∙ ap (Next r (total - length bs)) (same_fuel (length bs) (length rest) rest (omega arith) (omega arith))

  -- where a script stands
  entry_offset : (n : ℕ) (bs : List ℕ) (x : Result (Record × List ℕ) ReadFault) → offset_of (entry n bs x) ≡ total - length bs
  entry_offset n bs (Ok p) = refl
  entry_offset n bs (Err f) = refl

  pub script_offset : (bs : List ℕ) → offset_of (script_of total bs) ≡ total - length bs
  script_offset bs =
      ⊎_elim
      (λ (empty : length bs ≡ 0). ap offset_of (script_end bs empty) ∙ (let e : total ≡ total - length bs = omega arith in e))
      (λ (some : 0 < length bs). ap offset_of (fuelled bs some) ∙ entry_offset (length bs) bs (next_of bs))
      (zero_or (length bs))
