use Rattle.store.proofs.Acts.{emptied}
use Rattle.store.proofs.store.Store.clear.Goals as goal

pub returns : goal.returns
returns g c =
    record { holds = emptied c.args.self.now _ c.args.l c.settle.ensures.holds }
