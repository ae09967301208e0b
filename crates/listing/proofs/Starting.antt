-- The START lines of a day are the starts of its run.
use Rattle.std.proofs.Common.{◌≡◌, ℕ, ◌+◌, ◌<◌, Bool, true, false, cond, ◌&&◌, eqb, leb, List, [], ◌∷◌, ◌++◌, map, Some, None, Ok, Err, Option, Result, ◌==◌, sym, refl, ap, ◌∙◌, inl, inr, append_assoc, arith}
use Rattle.lines.specs.declared.line.TextLine.{TextLine}
use Rattle.listing.specs.Days.{calls_for, calls_in, is_day, line_by, line_for, query_line, start_line, starting}
use Rattle.listing.specs.declared.stop.StopFault.TheVariants.{Order}
use Rattle.listing.specs.Listings.{Ends, Story, day_story, told, told_by}
use Rattle.listing.specs.Promises.{start_slots, started_at, starts_told}
use Rattle.listing.specs.Scripts.{Script, Over, Broken, Next}
use Rattle.listing.specs.Stops.{stopped}
use Rattle.rules.proofs.Invariant.{Inv}
use Rattle.rules.proofs.States.{keeps_inv, keeps_run}
use Rattle.rules.proofs.Steps.{by_ways}
use Rattle.rules.specs.declared.call.Call.{Call}
use Rattle.rules.specs.declared.refusal.Refusal.{Refusal}
use Rattle.rules.specs.declared.round.Line.{Line}
use Rattle.rules.specs.declared.round.Round.{Round}
use Rattle.rules.specs.Lists.{◌∈◌}
use Rattle.rules.specs.Promise.{starts_in, times}
use Rattle.rules.specs.Rules.{View, line_at, wait}
use Rattle.rules.specs.Runs.{Answer, Numbered, Done, Listed, Refused, history, last_view, lines_by, moment, step}
use Rattle.std.proofs.lemmas.Bool.{eqb-true, ne_eqb}
use Rattle.std.specs.List.{find}
use Rattle.std.specs.Option.{option_map}

-- no line after one with step 0 has step 0
abbrev Single : List Line → Type 0
Single [] = Unit {0}
Single (l ∷ ls) = (l.step ≡ 0 → (k : Line) → k ∈ ls → k.step ≡ 0 → ⊥) × Single ls

none_past : (s : ℕ) (rs : List Round) → ((r : Round) → r ∈ rs → r.start < s) → Single (map (line_at s) rs)
none_past s [] past = tt
none_past s (r ∷ rs) past =
    (λ z. let p = past r (inl refl) in absurd (omega arith), none_past s rs (λ k m. past k (inr m)))

last_starts : (s : ℕ) (rs : List Round) (x : Round) → ((r : Round) → r ∈ rs → r.start < s) → Single (map (line_at s) (rs ++ (x ∷ [])))
last_starts s [] x past = (λ z k m. elim m [ ], tt)
last_starts s (r ∷ rs) x past =
    (λ z. let p = past r (inl refl) in absurd (omega arith), last_starts s rs x (λ k m. past k (inr m)))

-- a slot that finds an engine of a run starts one round at most
abbrev SingleIn : Answer → Type 0
SingleIn (Numbered n) = Unit {0}
SingleIn Done = Unit {0}
SingleIn (Listed ls) = Single ls
SingleIn (Refused r) = Unit {0}

single : (v : View) → Inv v → (c : Call) → SingleIn (step c v).0
single v inv =
    by_ways v (λ c a w. SingleIn a) (record {
      refuses = λ c r. tt;
      tries = λ p q d. tt;
      books = λ p q d fair none. tt;
      confirms = λ n q at booked. tt;
      withdraws = λ n q at booked. tt;
      releases = λ n q at opened early waits. tt;
      closes = λ n q at opened. tt;
      sweeps = λ room none. none_past v.slot v.running inv.rounds.past;
      starts = λ room y first may. last_starts v.slot v.running (record { number = y.number; start = v.slot }) inv.rounds.past;
      pauses = λ room y first may. none_past v.slot v.running inv.rounds.past;
    })

module _ (n : ℕ) where
  abbrev starts_by : Option TextLine → List ℕ
  starts_by None = []
  starts_by (Some l) = started_at n l

  no_times : (ls : List Line) → ((k : Line) → k ∈ ls → k.step ≡ 0 → ⊥) → times n 0 ls ≡ 0
  no_times [] none = refl
  no_times (l ∷ ls) none =
      let rest = no_times ls (λ k m. none k (inr m)) in
      let here = not-zero (eqb l.number n) l.step (none l (inl refl)) in
      (λ i. here i + rest i)
    where
      not-zero : (b : Bool) (k : ℕ) → (k ≡ 0 → ⊥) → ◌≡◌ {A = ℕ} (cond (b && eqb k 0) 1 0) 0
      not-zero true k h = rw (ne_eqb k 0 h) refl
      not-zero false k h = refl

  -- the line of a slot tells of the start of n just where a line of n has step 0
  listed_starts : (slot : ℕ) (ls : List Line) → Single ls → starts_by (start_line slot (starting ls)) ≡ cond (leb 1 (times n 0 ls)) (slot ∷ []) []
  listed_starts slot [] one = refl
  listed_starts slot (l ∷ ls) (first, rest) = go (listed_starts slot ls rest) (eqb l.step 0) refl
    where
      at_once : (b : Bool) (k : ℕ) → k ≡ 0 → cond b (slot ∷ []) [] ≡ cond (leb 1 (cond (b && true) 1 0 + k)) (slot ∷ []) []
      at_once true k e = rw e refl
      at_once false k e = rw e refl

      later : (b : Bool) (k : ℕ) → cond (leb 1 k) (slot ∷ []) [] ≡ cond (leb 1 (cond (b && false) 1 0 + k)) (slot ∷ []) []
      later true k = ap (λ m. cond (leb 1 m) (slot ∷ []) []) (let e : k ≡ 0 + k = omega arith in e)
      later false k = ap (λ m. cond (leb 1 m) (slot ∷ []) []) (let e : k ≡ 0 + k = omega arith in e)

      go : starts_by (start_line slot (starting ls)) ≡ cond (leb 1 (times n 0 ls)) (slot ∷ []) [] → (b : Bool) → eqb l.step 0 ≡ b
          → starts_by (start_line slot (option_map (λ (k : Line). k.number) (cond b (Some l) (find (λ (k : Line). k.step == 0) ls)))) ≡ cond (leb 1 (cond (eqb l.number n && b) 1 0 + times n 0 ls)) (slot ∷ []) []
      go found true e = at_once (eqb l.number n) (times n 0 ls) (no_times ls (first (eqb-true l.step 0 e)))
      go found false e = found ∙ later (eqb l.number n) (times n 0 ls)

  query_quiet : (o k : ℕ) (w : Result ℕ Refusal) → started_at n (query_line o k w) ≡ []
  query_quiet o k (Ok w) = refl
  query_quiet o k (Err r) = refl

  answer_starts : (o slot : ℕ) (after : View) (a : Answer) → SingleIn a
      → starts_by (line_by o slot after a) ≡ cond (leb 1 (times n 0 (lines_by a))) (slot ∷ []) []
  answer_starts o slot after (Numbered k) one = query_quiet o k (wait k after)
  answer_starts o slot after Done one = refl
  answer_starts o slot after (Listed ls) one = listed_starts slot ls one
  answer_starts o slot after (Refused r) one = refl

  -- what one call tells of starts is what the run has of them
  slot_of : (b : Bool) (v : View) → cond b (v.slot ∷ []) [] ≡ map (λ (w : View). w.slot) (cond b (v ∷ []) [])
  slot_of true v = refl
  slot_of false v = refl

  call_starts : (o : ℕ) (v : View) → Inv v → (c : Call)
      → starts_by (line_for o (moment v c)) ≡ map (λ (w : View). w.slot) (starts_in n (moment v c))
  call_starts o v inv c =
      answer_starts o v.slot (step c v).1 (step c v).0 (single v inv c) ∙ slot_of (leb 1 (times n 0 (lines_by (step c v).0))) v

  by_starts : (line : Option TextLine) (o : ℕ) (s : Story) → starts_told n (told_by line o s) ≡ starts_by line ++ starts_told n s
  by_starts None o s = refl
  by_starts (Some l) o s = refl

  map_both : (xs ys : List View) → map (λ (w : View). w.slot) (xs ++ ys) ≡ map (λ (w : View). w.slot) xs ++ map (λ (w : View). w.slot) ys
  map_both [] ys = refl
  map_both (x ∷ xs) ys = ap (λ t. x.slot ∷ t) (map_both xs ys)

  calls_start : (o : ℕ) (cs : List Call) (v : View) → Inv v → (s : Story)
      → starts_told n (told o (history v cs) s) ≡ start_slots n (history v cs) ++ starts_told n s
  calls_start o [] v inv s = refl
  calls_start o (c ∷ cs) v inv s =
      by_starts (line_for o (moment v c)) o (told o (history (step c v).1 cs) s)
      ∙ (λ i. call_starts o v inv c i ++ calls_start o cs (step c v).1 (keeps_inv v inv c) s i)
      ∙ sym (append_assoc (map (λ (w : View). w.slot) (starts_in n (moment v c))) (start_slots n (history (step c v).1 cs)) (starts_told n s))
      ∙ ap (λ t. t ++ starts_told n s) (sym (map_both (starts_in n (moment v c)) _))

  -- a run after a run
  runs_on : (cs ds : List Call) (v : View) → start_slots n (history v (cs ++ ds)) ≡ start_slots n (history v cs) ++ start_slots n (history (last_view v cs) ds)
  runs_on [] ds v = refl
  runs_on (c ∷ cs) ds v =
      map_both (starts_in n (moment v c)) _
      ∙ ap (λ t. map (λ (w : View). w.slot) (starts_in n (moment v c)) ++ t) (runs_on cs ds (step c v).1)
      ∙ sym (append_assoc (map (λ (w : View). w.slot) (starts_in n (moment v c))) (start_slots n (history (step c v).1 cs)) _)
      ∙ ap (λ t. t ++ start_slots n (history (last_view v (c ∷ cs)) ds)) (sym (map_both (starts_in n (moment v c)) _))

  pub day_starts : (script : Script) (v : View) → Inv v → starts_told n (day_story v script) ≡ start_slots n (history v (calls_in v script))
  day_starts (Over o) v inv = refl
  day_starts (Broken f o) v inv = refl
  day_starts (Next r o rest) v inv = go (day_starts rest (last_view v (calls_for r v)) (keeps_run (calls_for r v) v inv)) (is_day r)
    where
      go : starts_told n (day_story (last_view v (calls_for r v)) rest)
          ≡ start_slots n (history (last_view v (calls_for r v)) (calls_in (last_view v (calls_for r v)) rest)) → (b : Bool) →
          starts_told n (cond b (told o (history v (calls_for r v)) (day_story (last_view v (calls_for r v)) rest)) (Ends (stopped Order o)))
          ≡ start_slots n (history v (cond b (calls_for r v ++ calls_in (last_view v (calls_for r v)) rest) []))
      go after true =
          calls_start o (calls_for r v) v inv (day_story (last_view v (calls_for r v)) rest)
          ∙ ap (λ t. start_slots n (history v (calls_for r v)) ++ t) after
          ∙ sym (runs_on (calls_for r v) (calls_in (last_view v (calls_for r v)) rest) v)
      go after false = refl
