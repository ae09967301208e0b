use Rattle.std.proofs.Common.{◌≡◌, ◌≤◌, rules, ap, sym, subst, ◌∙◌, arith}
use Rattle.engine.specs.Tables.{Fair}
use Rattle.engine.proofs.Loads.{load_extra, load_first, load_small, load_sum}
use Rattle.engine.proofs.waits.Queries.load.Goals as goal
use Rattle.rules.specs.Waits.{against, load, rounds}
use Rattle.std.proofs.ByRecursion.{All-get_or}
use Rattle.std.proofs.lemmas.Iterator.{YieldsList-from_map, YieldsList-from_slice}
use Rattle.std.proofs.lemmas.Iterator.Adapters.{serves_from_places}
use Rattle.std.proofs.lemmas.Iterator.Consumers.{sum_by_from_yields_List}
use Rattle.std.specs.Option.{option_to_list}
use Rattle.std.specs.Slice.Iter.{iter_rest}

pub sum-load-requires-clause-can : goal.sum-load-requires-clause-can
sum-load-requires-clause-can c =
    let queries = c.args.self.now in
    let rows = queries.rows.now in (
      tt,
      serves_from_places (YieldsList-from_slice {s = c.map.result.iter} rows (ap iter_rest c.map.ensures.source ∙ c.iter.ensures.rest))
          (λ p q k. search rules)
          (λ h k below is. let fair : Fair h.now = subst Fair (sym is) (All-get_or Fair rows k h.now below queries.fair) in search rules),
    )

rows_load : (c : goal.After-sum-load) → c.sum-load.result ≡ load c.args.self.now.rows.now c.args.q.now c.args.w
rows_load c =
    let rows = c.args.self.now.rows.now in
    let weight = against c.args.q.now (rounds c.args.w) in
    sum_by_from_yields_List weight rows c.map.result c.sum-load.result c.sum-load.ensures.ran
    (YieldsList-from_map {s = c.map.result} _ weight
    (YieldsList-from_slice {s = c.map.result.iter} rows (ap iter_rest c.map.ensures.source ∙ c.iter.ensures.rest)) c.map.ensures.closure (λ h r f k. search rules))
    ∙ load_sum rows c.args.q.now c.args.w

extra_load : (c : goal.After-sum-load)
    → (c.map_or-extra.result ≡ load (option_to_list c.args.self.now.extra) c.args.q.now c.args.w) × (c.map_or-extra.result ≤ 60001)
extra_load c = load_first c.args.self.now.extra c.args.q.now c.args.w _ _ c.map_or-extra.ensures (λ x k. search rules)

pub overflow_add-result : goal.overflow_add-result
overflow_add-result c =
    omega (arith, rows_load c, load_small c.args.self.now.rows.now c.args.q.now c.args.w c.requires, (extra_load c).1)

pub returns-clause-value : goal.returns-clause-value
returns-clause-value c =
    let queries = c.args.self.now in
    omega (arith, rows_load c, (extra_load c).0, load_extra queries.rows.now queries.extra c.args.q.now c.args.w)

pub returns-clause-bound : goal.returns-clause-bound
returns-clause-bound c =
    omega (arith, rows_load c, load_small c.args.self.now.rows.now c.args.q.now c.args.w c.requires, (extra_load c).1)
