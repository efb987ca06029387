use Rattle.std.proofs.Common.{◌≡◌, ◌-◌, true, false, Err, sym, refl, ap, ◌∙◌}
use Rattle.store.specs.declared.supply.Supply.{Supply}
use Rattle.store.specs.Units.{smallest}
use Rattle.store.specs.Bank.{bank, stock, obtainable}
use Rattle.store.specs.Faults.{judged}
use Rattle.store.proofs.Stores.{store_supply}
use Rattle.store.proofs.Models.{same_offer, block_none, block_some}
use Rattle.store.proofs.store.Store.room_block.Goals as goal

pub returns-then-offers : goal.returns-then-offers
returns-then-offers g c =
    let s = c.args.self.now in
    let p : Supply = record { sizes = s.blocks.sizes; left = s.blocks.limit - s.blocks.used } in
    let q = store_supply s p refl in
    let e = ap (obtainable (stock p.sizes p.left)) c.class_for.ensures in
    let o : obtainable (bank c.args.self.now) (smallest c.args.n) ≡ true =
    same_offer (bank s) (stock p.sizes p.left) (smallest c.args.n) q.0 q.1 ∙ (sym e ∙ sym c.if-offers.ensures) in
    sym (ap judged (block_none (bank s) c.args.n o))

pub returns : goal.returns
returns g c =
    let s = c.args.self.now in
    let p : Supply = record { sizes = s.blocks.sizes; left = s.blocks.limit - s.blocks.used } in
    let q = store_supply s p refl in
    let e = ap (obtainable (stock p.sizes p.left)) c.class_for.ensures in
    let o : obtainable (bank c.args.self.now) (smallest c.args.n) ≡ false =
    same_offer (bank s) (stock p.sizes p.left) (smallest c.args.n) q.0 q.1 ∙ (sym e ∙ sym c.if-offers.ensures) in
    ap Err c.no_block.ensures ∙ sym (ap judged (block_some (bank s) c.args.n o))
