use Rattle.std.proofs.Common.{codes, arith, rules}
use Rattle.daytext.proofs.Places.{spelled}
use Rattle.daytext.proofs.keyword.KeywordTryFromRefSliceU8.try_from.Goals as goal

pub returns-in-nodes : goal.returns-in-nodes
returns-in-nodes c = spelled 5 (codes "nodes") c.args.word.now (omega arith) (search rules)

pub returns-in-edge : goal.returns-in-edge
returns-in-edge c = spelled 4 (codes "edge") c.args.word.now (omega arith) (search rules)

pub returns-in-tree : goal.returns-in-tree
returns-in-tree c = spelled 4 (codes "tree") c.args.word.now (omega arith) (search rules)

pub returns-in-query : goal.returns-in-query
returns-in-query c = spelled 5 (codes "query") c.args.word.now (omega arith) (search rules)

pub returns-in-release : goal.returns-in-release
returns-in-release c = spelled 7 (codes "release") c.args.word.now (omega arith) (search rules)

pub returns-in-close : goal.returns-in-close
returns-in-close c = spelled 5 (codes "close") c.args.word.now (omega arith) (search rules)
