use Rattle.std.proofs.Common.{rules}
use Rattle.interference.specs.Planes.{same_positions}
use Rattle.interference.proofs.grid.GridModel.open.Goals as goal

pub returns : goal.returns
returns c =
    record {
      counted = search rules;
      sided = search rules;
      within = search rules;
      count = search rules;
      pairs = same_positions _ c.args.side c.loop-i.own c.args.positions.now (search rules);
    }
