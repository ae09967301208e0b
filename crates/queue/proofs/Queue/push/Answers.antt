use Rattle.std.proofs.Common.{length, sym, refl, ap, ◌∙◌, arith}
use Rattle.std.specs.List.Sorted.{IsPermutation}
use Rattle.queue.proofs.Ends as ends
use Rattle.queue.proofs.Ranked as laws
use Rattle.queue.proofs.Queue.push.Goals as goal

pub returns-then-last : goal.returns-then-last
returns-then-last g c = (
  ap length (sym c.self.view_is) ∙ laws.length-ranked g.T.Rank.before c.self.inside.places.items ∙ sym c.len-last.ensures.value ∙ c.if-last.true,
  refl,
)

-- the elements after the sift, in any order
shuffled : (g : _) (c : goal.After-self-1 g) → IsPermutation c.push.new.self.items c.sift_up.new.places
shuffled g c = rw c.as_mut_slice.ensures.value at c.sift_up.ensures.shuffled

pub invariant_of-self : goal.invariant_of-self
invariant_of-self g c =
    let rising = ends.rising g.T.Rank.before c.self.inside.places.items c.args.x c.len-last.result c.len-last.ensures.value c.self.invariant in
    rw (ends.refilled _ _ (shuffled g c)) (c.sift_up.ensures.heaped (rw (c.as_mut_slice.ensures.value, c.push.ensures.items) rising))

pub returns : goal.returns
returns g c =
    let long = ap length (sym c.self.view_is) ∙ laws.length-ranked g.T.Rank.before c.self.inside.places.items in
    let went = laws.pushed g.T.Rank.before g.met.T.Rank.order c.self.inside.places.items c.sift_up.new.places c.args.x (rw c.push.ensures.items at (shuffled g c)) in
    (omega (arith, long, c.len-last.ensures.value, c.len-last.ensures.fits, c.if-last.false), rw (ends.refilled _ _ (shuffled g c)) (rw c.self.view_is at went))
