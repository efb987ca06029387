use Rattle.std.proofs.Common.{◌≡◌, min, map, length, take, replicate, sym, refl, ap, ◌∙◌, subst, arith}
use Rattle.std.proofs.lemmas.List.{length-take}
use Rattle.store.specs.Units.{no_head, View, Apart, Filled, Whole}
use Rattle.store.specs.Bank.{bank, fresh, owned}
use Rattle.store.proofs.Views.{start_apart, start_filled, start_whole}
use Rattle.store.proofs.Models.{same_bank}
use Rattle.store.proofs.Stores.{opened, start_lists}
use Rattle.store.proofs.store.Store.new.Goals as goal

pub invariant_of-blocks : goal.invariant_of-blocks
invariant_of-blocks g c =
    let m = c.usable_units-limit.ensures in
    let n = min (length c.args.memory.heads.now) 4294967296 in
    let len : length (take c.min-lists.result c.args.memory.heads.now) ≡ min (length c.args.memory.heads.now) 4294967296 = simp length-take (omega arith) in
    let hs = c.fill.ensures.after (λ y e. e) ∙ ap (λ j. replicate j no_head) len in
    let v = opened no_head c.fill.new.self c.args.memory.chains.now c.new.result.records (min (length c.args.memory.heads.now) 4294967296) refl hs c.new.ensures in
    record {
      apart = subst Apart (sym v) (start_apart n 29 c.args.memory.chains.now);
      filled = subst (λ (w : View). Filled w.hand w.heads) (sym v) (start_filled n);
      whole = subst Whole (sym v) (start_whole n 29 c.args.memory.chains.now);
      room = (omega arith, omega arith, omega arith, omega arith, ap length c.new.ensures);
    }

pub returns : goal.returns
unfolding bank fresh
returns g c =
    let m = c.usable_units-limit.ensures in
    let k = c.min-lists.ensures in
    let len : length (take c.min-lists.result c.args.memory.heads.now) ≡ min (length c.args.memory.heads.now) 4294967296 = simp length-take (omega arith) in
    let hs = c.fill.ensures.after (λ y e. e) ∙ ap (λ j. replicate j no_head) len in
    record {
      holds = same_bank
          (ap (map (owned c.args.memory.cells.now)) hs ∙ start_lists c.args.memory.cells.now (min (length c.args.memory.heads.now) 4294967296))
          (ap (map (λ x. x.count)) c.new.ensures)
          (omega arith);
    }
