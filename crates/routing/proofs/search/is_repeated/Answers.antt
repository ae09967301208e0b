use Rattle.std.proofs.Common.{◌≡◌, ◌==◌, take, ◌∙◌, arith, rules}
use Rattle.std.specs.List.{list_any}
use Rattle.routing.specs.Tree.{link_at}
use Rattle.routing.proofs.Searches.{any_take}
use Rattle.routing.proofs.search.is_repeated.Goals as goal

pub returns : goal.returns
returns c =
    let ls = c.args.tree.now in
    let k = c.args.k in
    let found : c.has_child.result ≡ list_any (λ l. l.child == (link_at ls k).child) (take k ls) = search rules in
    found ∙ any_take (λ l. l.child == (link_at ls k).child) ls (record { child = 0; parent = 0; slots = 0 }) k (omega arith)
