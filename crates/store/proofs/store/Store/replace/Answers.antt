use Rattle.std.proofs.Common.{ap, ◌∙◌}
use Rattle.store.specs.Bank.{bank}
use Rattle.store.specs.Held.{held, filling, settled}
use Rattle.store.proofs.Acts.{moved}
use Rattle.store.proofs.store.Store.replace.Goals as goal

pub returns : goal.returns
unfolding bank held
returns g c =
    let s = c.args.self.now in
    let e = c.settle.ensures.holds ∙ ap (λ h. settled h c.args.l) (c.fill_hand.ensures.holds ∙ ap (λ h. filling h c.args.xs.now) c.take_hand.ensures.holds) in
    record { holds = moved s c.settle.new.self c.args.l c.args.class c.args.xs.now e }
