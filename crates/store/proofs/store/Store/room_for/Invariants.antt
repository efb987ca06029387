use Rattle.std.proofs.Common.{◌≡◌, drop}
use Rattle.store.specs.Bank.{bank, stock, fault_for}
use Rattle.store.proofs.store.Store.room_for.Given as goal

abbrev pub invariant-loop-n : goal.invariant-loop-n
invariant-loop-n g l = fault_for (bank l.self) l.lengths ≡ fault_for (stock l.supply.sizes l.supply.left) (drop l.n-index l.lengths)
