use Rattle.std.proofs.Common.{[], ◌∷◌, ◌++◌, get_or, ap, ◌∙◌}
use Rattle.store.specs.Bank.{bank, nothing, items_of}
use Rattle.store.specs.Held.{held, filling, settled}
use Rattle.store.proofs.Acts.{moved}
use Rattle.store.proofs.store.Store.grow.Goals as goal

pub returns : goal.returns
unfolding bank held
returns g c =
    let s = c.args.self.now in
    let e = c.settle.ensures.holds ∙ ap (λ h. settled h c.args.l) (c.append_hand.ensures.holds ∙ ap (λ h. filling h (h.hand.items ++ c.args.v ∷ []))
    (c.copy_to_hand.ensures.holds ∙ ap (λ h. filling h (get_or h.lists c.args.l nothing).items) c.take_hand.ensures.holds)) in
    record { holds = moved s c.settle.new.self c.args.l c.args.class (items_of (bank s) c.args.l ++ c.args.v ∷ []) e }
