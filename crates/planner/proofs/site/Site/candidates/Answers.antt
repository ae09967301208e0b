use Rattle.std.proofs.Common.{◌<◌, ◌≤◌, ap, ◌∙◌, arith}
use Rattle.planner.specs.Planner.{candidates, deeper}
use Rattle.planner.proofs.Readiness.{accepted, finished, gather-all, gather_more, gather_none, gather_start, held_up, ready}
use Rattle.planner.proofs.site.Site.candidates.Goals as goal
use Rattle.planner.proofs.site.Site.candidates.Goals.{then-left-v-gt0+then-not-awaiting-v, else-left-v-gt0, else-left-v-gt0-via-then-left-v-gt0+else-not-awaiting-v, else-left-v-gt0-via-else-left-v-gt0}
use Rattle.queue.specs.Ranked.{ranked}

pub loop-v-init : goal.loop-v-init
loop-v-init g c = rw c.new-ready.ensures (gather_start _ _)

pub loop-v-preserved : goal.loop-v-preserved
loop-v-preserved g c =
    let parents = c.args.self.now.routes.now.parents in
    let left = c.args.left.now in
    let n = c.from-n.result in
    let v = c.loop-v.v in
    let few : n ≤ 64 = omega (arith, c.from-n.ensures, c.nodes.ensures, g.met.M.Interference.most c.args.self.now.model.now) in
    let inside : v < 64 = omega arith in
    elim c.if-left-v-gt0.branch [
      | then-left-v-gt0+then-not-awaiting-v w ↦ rw w.ready-is (gather_more _ _ v c.loop-v.ready w.push.new.self
          (ready parents left n _ c.awaiting-awaiting.ensures v inside w.if-left-v-gt0.true w.if-not-awaiting-v.true)
          c.loop-v.invariant (accepted _ _ _ _ w.push.ensures (omega (arith, c.loop-v.invariant.few))))
      | else-left-v-gt0 w ↦ rw w.ready-is (gather_none _ _ v c.loop-v.ready
          (elim w.else-left-v-gt0.branch [
            | else-left-v-gt0-via-then-left-v-gt0+else-not-awaiting-v w' ↦
                held_up parents left n _ c.awaiting-awaiting.ensures v inside w'.if-not-awaiting-v.false
            | else-left-v-gt0-via-else-left-v-gt0 w' ↦ finished parents left n v w'.if-left-v-gt0.false
          ])
          c.loop-v.invariant)
    ]

pub returns : goal.returns
returns g c =
    gather-all _ _ c.loop-v.v c.from-n.result c.loop-v.ready (omega arith) c.loop-v.invariant
    ∙ ap (λ n. ranked deeper (candidates c.args.self.now.routes.now c.args.left.now n)) (c.from-n.ensures ∙ c.nodes.ensures)
