use Rattle.std.proofs.Common.{◌*◌, sym, ap}
use Rattle.store.specs.Bank.{view}
use Rattle.store.proofs.Views.{one_owner}
use Rattle.store.proofs.Stores.{all_units}
use Rattle.store.proofs.store.Store.usable_cells.Goals as goal

pub returns-clause-whole : goal.returns-clause-whole
returns-clause-whole g c = ap (λ n. 4 * n) (sym (all_units c.args.self.now))

pub returns-clause-apart : goal.returns-clause-apart
returns-clause-apart g c = one_owner (view c.args.self.now) c.args.self.now.blocks.apart
