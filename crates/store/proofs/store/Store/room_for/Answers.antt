use Rattle.std.proofs.Common.{◌+◌, get_or, drop, Err, sym, ap, ◌∙◌, arith}
use Rattle.std.proofs.lemmas.List.{drop_more, drop_all}
use Rattle.store.specs.Bank.{bank, stock, obtainable, obtained, fault_for}
use Rattle.store.specs.Faults.{judged}
use Rattle.store.proofs.Stores.{store_supply}
use Rattle.store.proofs.Models.{same_for, for_more, for_stop, for_none}
use Rattle.store.proofs.store.Store.room_for.Goals as goal

pub loop-n-init : goal.loop-n-init
loop-n-init g c =
    let s = c.args.self.now in
    let p = c.supply-supply.result in
    let q = store_supply s p c.supply-supply.ensures in
    same_for c.args.lengths.now (bank s) (stock p.sizes p.left) q.0 q.1

pub returns-then-not-offers : goal.returns-then-not-offers
returns-then-not-offers g c =
    let ns = c.args.lengths.now in
    let i = c.loop-n.n-index in
    let n = get_or c.args.lengths.now c.loop-n.n-index 0 in
    let d = stock c.loop-n.supply.sizes c.loop-n.supply.left in
    let e = drop_more ns i 0 (omega arith) in
    let o = sym (ap (obtainable d) c.class_for-class.ensures) ∙ sym c.if-not-offers.ensures in
    ap Err c.no_block.ensures ∙ sym (ap judged (c.loop-n.invariant ∙ (ap (fault_for d) e ∙ for_stop d n (drop (i + 1) ns) o)))

pub spend-requires : goal.spend-requires
spend-requires g c = sym c.if-not-offers.ensures

pub loop-n-preserved : goal.loop-n-preserved
loop-n-preserved g c =
    let ns = c.args.lengths.now in
    let i = c.loop-n.n-index in
    let n = get_or c.args.lengths.now c.loop-n.n-index 0 in
    let d = stock c.loop-n.supply.sizes c.loop-n.supply.left in
    let e = drop_more ns i 0 (omega arith) in
    let o = sym (ap (obtainable d) c.class_for-class.ensures) ∙ sym c.if-not-offers.ensures in
    c.loop-n.invariant ∙ (ap (fault_for d) e ∙ (for_more d n (drop (i + 1) ns) o
    ∙ ap (λ b. fault_for b (drop (i + 1) ns)) (sym (c.spend.ensures ∙ ap (obtained d) c.class_for-class.ensures))))

pub returns : goal.returns
returns g c =
    let ns = c.args.lengths.now in
    let d = stock c.loop-n.supply.sizes c.loop-n.supply.left in
    sym (ap judged (c.loop-n.invariant ∙ (ap (fault_for d) (drop_all c.loop-n.n-index ns (omega arith)) ∙ for_none d)))
