use Rattle.std.proofs.Common.{rules}
use Rattle.interference.proofs.Graphs.{same_words}
use Rattle.interference.proofs.graph.GraphModel.from_words.Goals as goal

pub returns : goal.returns
returns c =
    record {
      counted = search rules;
      within = search rules;
      count = search rules;
      pairs = same_words _ c.loop-i.own c.args.words.now (search rules);
    }
