use Rattle.std.proofs.Common.{◌≡◌, get_or, sym, refl, ap, ◌∙◌, arith}
use Rattle.store.specs.Bank.{nothing}
use Rattle.store.specs.Held.{held}
use Rattle.store.proofs.Models.{spared_none}
use Rattle.store.proofs.Stores.{same_held, hand_class, nothing_in_hand}
use Rattle.store.proofs.blocks.Blocks.settle.Goals as goal

pub returns-else-self-gt0-clause-holds : goal.returns-else-self-gt0-clause-holds
returns-else-self-gt0-clause-holds g c =
    let s = c.args.self.now in
    let t = c.swap_hand.new.self in
    let z : c.swap_hand.new.self.hand.class ≡ 0 = omega arith in
    let w = c.swap_hand.ensures.holds in
    let k : (get_or (held s).lists c.args.l nothing).class ≡ 0 = sym (ap (λ h. h.hand.class) w) ∙ (hand_class t ∙ z) in
    w ∙ same_held (sym (ap (λ h. h.hand) w) ∙ nothing_in_hand t z) refl (sym (spared_none (held s).free (get_or (held s).lists c.args.l nothing).class k)) refl
