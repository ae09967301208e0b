-- The slots of a run record, one by one.
use Rattle.std.proofs.Common.{◌≡◌, ℕ, suc, ◌-◌, ◌<◌, List, replicate, Ok, Err, Option, Result, sym, ap, ◌∙◌, arith}
use Rattle.lines.specs.declared.line.TextLine.{TextLine}
use Rattle.listing.specs.declared.page.Page.{Page}
use Rattle.listing.specs.declared.stop.StopFault.{StopFault}
use Rattle.listing.specs.Days.{slot_room}
use Rattle.listing.specs.Listings.{Story, told, told_by}
use Rattle.listing.specs.Turns.{Called, Ran, Told, Turned, outcome_line}
use Rattle.listing.proofs.Telling.{retold}
use Rattle.rules.specs.declared.call.Call.{Call}
use Rattle.rules.specs.declared.call.Call.TheVariants.{Slot}
use Rattle.rules.specs.declared.refusal.Refusal.{Refusal}
use Rattle.rules.specs.Rules.{View}
use Rattle.rules.specs.Runs.{history, last_view}

abbrev slots : ℕ → List Call
slots k = replicate k (Slot slot_room)

-- of k slots from view v and page p, left are still to run
pub record Running (o k : ℕ) (v : View) (p : Page) (left : ℕ) (v' : View) (p' : Page) : Type 0 where
  pub ends : last_view v (slots k) ≡ last_view v' (slots left)
  pub tells : (s : Story) → Turned (told o (history v (slots k)) s) p (told o (history v' (slots left)) s) p'

one_less : (m : ℕ) → 0 < m → m ≡ suc (m - 1)
one_less m h = omega arith

module _ {o k : ℕ} {v : View} {p : Page} {left : ℕ} {v' : View} {p' : Page} (h : Running o k v p left v' p') where
  -- what the next slot tells comes first
  turn : (v'' : View) (r : Result (Option TextLine) Refusal) → 0 < left → Called (Slot slot_room) v' v'' r → (s : Story)
      → told o (history v' (slots left)) s ≡ told_by (outcome_line o r) o (told o (history v'' (slots (left - 1))) s)
  turn v'' r some (after, is) s =
      ap (λ m. told o (history v' (slots m)) s) (one_less left some)
      ∙ (λ t. told_by (sym (is o) t) o (told o (history (sym after t) (slots (left - 1))) s))

  module _ (v'' : View) (r : Result (Option TextLine) Refusal) (line : Option TextLine) (p'' : Page) (some : 0 < left)
      (called : Called (Slot slot_room) v' v'' r) (is : line ≡ outcome_line o r) where
    next : (s : Story) → told o (history v' (slots left)) s ≡ told_by line o (told o (history v'' (slots (left - 1))) s)
    next s = turn v'' r some called s ∙ ap (λ l. told_by l o (told o (history v'' (slots (left - 1))) s)) (sym is)

    pub one_more : Told line p' p'' (Ok tt) → Running o k v p (left - 1) v'' p''
    one_more tell = record {
      ends = h.ends ∙ ap (λ m. last_view v' (slots m)) (one_less left some) ∙ ap (λ w. last_view w (slots (left - 1))) (sym called.0);
      tells = λ s whole out₀ sofar.
          tell o (told o (history v'' (slots (left - 1))) s) whole out₀ (retold (next s) (h.tells s whole out₀ sofar));
    }

    pub stopped_run : (f : StopFault) → Told line p' p'' (Err f) → Ran o k v v'' p p'' (Err f)
    stopped_run f tell =
        λ s whole out₀ sofar.
        tell o (told o (history v'' (slots (left - 1))) s) whole out₀ (retold (next s) (h.tells s whole out₀ sofar))
