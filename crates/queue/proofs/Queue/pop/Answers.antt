use Rattle.std.proofs.Common.{sym, ◌∙◌}
use Rattle.std.specs.List.Sorted.{IsPermutation}
use Rattle.std.proofs.lemmas.Option.{get_or_from_slice_get, slice_get_within}
use Rattle.std.proofs.lemmas.List.Sorted.{IsPermutation-swap_remove}
use Rattle.queue.proofs.Ends as ends
use Rattle.queue.proofs.Ranked as laws
use Rattle.queue.proofs.Queue.pop.Goals as goal

-- the elements after the sift, in any order
shuffled : (g : _) (c : goal.After-self-1 g) → IsPermutation c.swap_pop.new.self.items c.sift_down.new.places
shuffled g c = rw c.as_mut_slice.ensures.value at c.sift_down.ensures.shuffled

pub invariant_of-self-2 : goal.invariant_of-self-2
invariant_of-self-2 g c =
    let sinking = ends.sinking g.T.Rank.before c.self.inside.places.items c.in_ok-first.first c.self.invariant in
    rw (ends.refilled _ _ (shuffled g c)) (c.sift_down.ensures.heaped (rw (c.as_mut_slice.ensures.value, c.in_ok-first.ensures.items) sinking))

pub returns : goal.returns
returns g c =
    let xs = c.self.inside.places.items in
    let found = sym c.in_ok-first.ensures.value in
    let stands = sym (get_or_from_slice_get xs 0 c.in_ok-first.first c.in_ok-first.first found) in
    let out = IsPermutation-swap_remove xs 0 c.in_ok-first.first (slice_get_within xs 0 c.in_ok-first.first found) stands in
    let first = ends.first g.T.Rank.before g.met.T.Rank.order xs c.in_ok-first.first stands c.self.invariant in
    let came = laws.popped g.T.Rank.before g.met.T.Rank.order xs _ c.sift_down.new.places c.in_ok-first.first out (rw c.in_ok-first.ensures.items at (shuffled g c)) first in
    (rw (ends.refilled _ _ (shuffled g c)) (sym c.self.view_is ∙ came.0), rw (ends.refilled _ _ (shuffled g c)) came.1)
