use Rattle.engine.proofs.Slots.{ceil_same}
use Rattle.engine.proofs.state.Engine.most_lines.Goals as goal

pub returns : goal.returns
returns c =
    let e = c.args.self.now in
    rw (c.div_ceil.ensures, c.from.ensures, c.from-2.ensures) (ceil_same e.length e.distance e.spread)
