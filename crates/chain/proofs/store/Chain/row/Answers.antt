use Rattle.std.proofs.Common.{sym}
use Rattle.chain.proofs.Means.{count_at}
use Rattle.chain.proofs.store.Chain.row.Goals as goal

pub returns-clause-count : goal.returns-clause-count
returns-clause-count c = sym (count_at c.args.self.now c.args.i c.requires)
