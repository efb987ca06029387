use Rattle.std.proofs.Common.{ap, ◌∙◌}
use Rattle.store.specs.Bank.{bank, cleared, obtainable}
use Rattle.store.proofs.Models.{write_fits}
use Rattle.store.proofs.store.Store.reserve.Goals as goal

pub rewrite-requires-clause-within : goal.rewrite-requires-clause-within
rewrite-requires-clause-within g c = (write_fits (bank c.args.self.now) c.args.l c.args.n c.requires.fits).0

pub rewrite-requires-clause-had : goal.rewrite-requires-clause-had
rewrite-requires-clause-had g c =
    let b = bank c.args.self.now in
    ap (obtainable (cleared b c.args.l)) c.class_for.ensures ∙ (write_fits b c.args.l c.args.n c.requires.fits).1
