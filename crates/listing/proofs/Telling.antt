-- Lines told one after another into a list.
use Rattle.std.proofs.Common.{◌≡◌, ℕ, ◌+◌, ◌<◌, ◌≤◌, leb, List, [], ◌++◌, length, drop, Some, Ok, Err, Option, Result, sym, refl, ap, ◌∙◌, subst, ⊎_elim, append_assoc, append-nil, arith, length-append, length-drop}
use Rattle.lines.specs.declared.line.TextLine.{TextLine}
use Rattle.lines.specs.declared.writer.Full.{Full}
use Rattle.lines.specs.Text.{bytes_of, lined, placed, written}
use Rattle.listing.specs.declared.page.Page.{Page}
use Rattle.listing.specs.declared.stop.Stop.{Stop}
use Rattle.listing.specs.declared.stop.StopFault.{StopFault}
use Rattle.listing.specs.declared.stop.StopFault.TheVariants.{NoRoom}
use Rattle.listing.specs.Listings.{Done, Ends, Listed, Story, Writes, fitted, prepend, told_by}
use Rattle.listing.specs.Stops.{stop_at, stopped}
use Rattle.listing.specs.Turns.{Sofar, Told, Turned, left}
use Rattle.std.proofs.lemmas.List.{drop_at, drop-drop, take_at}
use Rattle.std.proofs.lemmas.Bool.{cases_Bool, cond-false, cond-true, le-leb, leb-false, leb-true, lt-leb}

-- what was answered says whether the bytes fitted
placed_ok : (most i : ℕ) (bs : List ℕ) (end : ℕ) → Ok end ≡ placed most i bs → (i + length bs ≤ most) × (end ≡ i + length bs)
placed_ok most i bs end e =
    ⊎_elim
    (λ t. let same : ◌≡◌ {A = Result ℕ Full} (Ok end) (Ok (i + length bs)) = e ∙ cond-true _ _ _ t in (leb-true _ _ t, cc))
    (λ f. let never : ◌≡◌ {A = Result ℕ Full} (Ok end) (Err (record {})) = e ∙ cond-false _ _ _ f in let z : ◌≡◌ {A = ℕ} 0 1 = cc in absurd (omega arith))
    (cases_Bool (leb (i + length bs) most))

placed_err : (most i : ℕ) (bs : List ℕ) (full : Full) → Err full ≡ placed most i bs → most < i + length bs
placed_err most i bs full e =
    ⊎_elim
    (λ t. let never : ◌≡◌ {A = Result ℕ Full} (Err full) (Ok (i + length bs)) = e ∙ cond-true _ _ _ t in let z : ◌≡◌ {A = ℕ} 0 1 = cc in absurd (omega arith))
    (λ f. leb-false _ _ f)
    (cases_Bool (leb (i + length bs) most))

-- one text after another at the front of a list
more : (text bs out₀ : List ℕ) → written (text ++ drop (length text) out₀) (length text) bs ≡ (text ++ bs) ++ drop (length (text ++ bs)) out₀
more text bs out₀ =
    let back = drop (length text) out₀ in
    let past = sym (drop-drop (length bs) (length text) (text ++ back)) ∙ ap (drop (length bs)) (drop_at text back (length text) refl) ∙ drop-drop (length bs) (length text) out₀ in
    (λ k. take_at text back (length text) refl k ++ (bs ++ past k))
    ∙ sym (append_assoc text bs (drop (length text + length bs) out₀))
    ∙ ap (λ n. (text ++ bs) ++ drop n out₀) (sym (length-append text bs))

prepend_more : (a b : List ℕ) (d : Done) → prepend a (prepend b d) ≡ prepend (a ++ b) d
prepend_more a b d = ap (λ t. record { text = t; stop = d.stop }) (sym (append_assoc a b d.text))

module _ {whole : Story} {out₀ : List ℕ} {p : Page} where
  -- nothing is written yet
  pub begin : p.at ≡ 0 → p.out.now ≡ out₀ → Sofar (whole) out₀ p whole
  begin first same = record {
    text = [];
    place = first;
    room = omega arith;
    kept = same;
    goes = ap (λ i. fitted (length out₀) i whole) (sym first);
  }

  pub same_length : {s : Story} → Sofar whole out₀ p s → length p.out.now ≡ length out₀
  same_length h =
      omega (arith, ap length h.kept, length-append h.text (drop (length h.text) out₀), length-drop (length h.text) out₀, h.room)

  -- the same story, said otherwise
  pub retold : {s t : Story} → s ≡ t → Sofar whole out₀ p s → Sofar whole out₀ p t
  retold e h = subst (Sofar whole out₀ p) e h

  -- the next line is written
  pub told_line : (l : TextLine) (o : ℕ) (s : Story) (p' : Page)
      → Ok p'.at ≡ placed (length p.out.now) p.at (bytes_of l) → p'.out.now ≡ lined p.out.now p.at (bytes_of l)
      → Sofar whole out₀ p (Writes l o s) → Sofar whole out₀ p' s
  told_line l o s p' ok text h =
      let bs = bytes_of l in
      let (fits, is) = placed_ok (length p.out.now) p.at bs p'.at ok in
      let same = same_length h in
      let room : p.at + length bs ≤ length out₀ = omega arith in
      let all = length-append h.text bs in
      record {
        text = h.text ++ bs;
        place = omega (arith, h.place);
        room = omega (arith, h.place);
        kept = text ∙ cond-true _ _ _ (le-leb _ _ fits) ∙ (λ k. written (h.kept k) (h.place k) bs) ∙ more h.text bs out₀;
        goes =
            h.goes
            ∙ ap (prepend h.text) (cond-true _ _ _ (le-leb _ _ room))
            ∙ prepend_more h.text bs (fitted (length out₀) (p.at + length bs) s)
            ∙ ap (λ k. prepend (h.text ++ bs) (fitted (length out₀) k s)) (sym is);
      }

  -- the next line does not fit
  pub told_full : (l : TextLine) (o : ℕ) (s : Story) (p' : Page) (full : Full)
      → Err full ≡ placed (length p.out.now) p.at (bytes_of l) → p'.out.now ≡ lined p.out.now p.at (bytes_of l) → p'.at ≡ p.at
      → Sofar whole out₀ p (Writes l o s) → Sofar whole out₀ p' (Ends (stopped NoRoom o))
  told_full l o s p' full err text at h =
      let past = placed_err (length p.out.now) p.at (bytes_of l) full err in
      let same = same_length h in
      let beyond : length out₀ < p.at + length (bytes_of l) = omega arith in
      record {
        text = h.text;
        place = at ∙ h.place;
        room = h.room;
        kept = text ∙ cond-false _ _ _ (lt-leb _ _ past) ∙ h.kept;
        goes =
            h.goes
            ∙ ap (prepend h.text) (cond-false _ _ _ (lt-leb _ _ beyond) ∙ refl);
      }

  pub within : {s : Story} → Sofar whole out₀ p s → p.at ≤ length out₀
  within h = omega (arith, h.place, h.room)

  -- all is told
  pub finished : (e : Option Stop) → Sofar whole out₀ p (Ends e) → Listed (fitted (length out₀) 0 whole) out₀ p.out.now p.at e
  finished e h =
      let is : fitted (length out₀) 0 whole ≡ record { text = h.text; stop = e } =
      h.goes ∙ ap (λ t. record { text = t; stop = e }) (append-nil h.text) in
      subst (λ d. Listed d out₀ p.out.now p.at e) (sym is) (record { size = h.place; stop = refl; text = h.kept })

pub told_some : (line : Option TextLine) (l : TextLine) (p p' : Page) → line ≡ Some l
    → Ok p'.at ≡ placed (length p.out.now) p.at (bytes_of l) → p'.out.now ≡ lined p.out.now p.at (bytes_of l) → Told line p p' (Ok tt)
told_some line l p p' is place text =
    λ o s whole out₀ h. told_line l o s p' place text (retold (ap (λ x. told_by x o s) is) h)

-- the listing stops at a line that does not fit
pub told_stops : (line : Option TextLine) (l : TextLine) (p p' : Page) (r : Result (Unit {0}) StopFault) (f : StopFault) (o : ℕ) (s : Story) (stop : Stop)
    → r ≡ Err f → Told line p p' r → line ≡ Some l → stop ≡ stop_at f o → Turned (Writes l o s) p (Ends (Some stop)) p'
told_stops line l p p' r f o s stop is told same at whole out₀ h =
    retold (ap (λ x. left x o s) is ∙ ap (λ t. Ends (Some t)) (sym at)) (told o s whole out₀ (retold (ap (λ x. told_by x o s) (sym same)) h))
