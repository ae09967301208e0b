use Rattle.std.proofs.Common.{◌==◌, length, sym, ap, ◌∙◌}
use Rattle.queue.proofs.Ranked.{length-ranked}
use Rattle.queue.proofs.Queue.is_empty.Goals as goal

pub returns : goal.returns
returns g c = c.is_empty.ensures ∙ ap (λ n. n == 0) (sym (length-ranked g.T.Rank.before c.self.inside.places.items) ∙ ap length c.self.view_is)
